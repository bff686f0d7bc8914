-- What holds after every list of calls. Assumes nothing.
use Rattle.std.specs.Prelude.{◌≡◌, ℕ, ◌+◌, ◌-◌, ◌*◌, ◌<◌, ◌≤◌, true, ◌↔◌, List, map, length, Some, None, Option, ◌≢◌}
use mathlib.Core.List.{Memᴰ as Among}
use Rattle.refusal.specs.Replies.{given, declined}
use Rattle.question.specs.Questions.{is_question, answers}
use Rattle.belief.specs.Meaning.{total_of, mass_of}
use Rattle.audit.specs.Reading.{Reads}
use Rattle.history.specs.Events.{Setting, Within, asks, call_of, Past, Restorer, known, hears, held}
use Rattle.history.specs.Entries.{entries, written, audit}
use Rattle.history.specs.Stated.{ask_reply, Follows}

-- he holds the sheet above his threshold n / d: its weight times d is greater than n times the total of his weights
abbrev pub Above : Restorer → List ℕ → Type 0
Above r s = r.n * total_of (held r) < (held r).weight s * r.d

-- some possible answer would leave him holding some sheet above his threshold
pub record TooTelling (w : Setting) (r : Restorer) (q : List ℕ) : Type 0 where
  pub answer : ℕ
  pub possible : 0 < mass_of (held r) q answer
  pub sheet : List ℕ
  pub within : Within w.tops sheet
  pub above : Above (hears q answer r) sheet

-- his question passes every check before the last
pub record Passes (w : Setting) (h : Past) (r : Restorer) (q : List ℕ) : Type 0 where
  pub reads : is_question q ≡ true
  pub room : 5 + length q ≤ w.room - length (written h)
  pub carried : r.start.carries r.heard q ≡ true

-- the sheet y gives the answers of x to every question that was answered
pub record Alike (x y : List ℕ) (h : Past) : Type 0 where
  pub same : (c : ℕ) (q : List ℕ) (a : ℕ) → Among (asks c q (given a)) h → answers q y ≡ answers q x

-- what is promised of a cabinet with the sealed sheet x, after the history h
pub record Lawful (w : Setting) (x : List ℕ) (h : Past) : Type 0 where
  -- every reply has been the stated one
  pub stated : Follows w x h
  -- no question was refused as one to an unfit belief, or for an answer without mass
  pub never : (c : ℕ) (q : List ℕ) (k : ℕ) (p : Option ℕ) → Among (asks c q (declined k p)) h → (k ≢ 8) × (k ≢ 13)
  -- the reader gives the entries of all calls back from their bytes, in their order
  pub audited : Reads (written h) 0 (entries h)
  -- every answer was the sealed sheet's own
  pub own : (c : ℕ) (q : List ℕ) (a : ℕ) → Among (asks c q (given a)) h → a ≡ answers q x
  -- a question that passes the earlier checks, asked next, is refused as too telling exactly when it is
  pub exact : (c : ℕ) (r : Restorer) (q : List ℕ) → known h c ≡ Some r → Passes w h r q → (ask_reply w x h c q ≡ declined 14 None) ↔ TooTelling w r q
  -- a second cabinet, alike but for a sheet that gives the same answers, replies and writes the same at the same calls
  pub blind : (y : List ℕ) (k : Past) → Follows w y k → map call_of k ≡ map call_of h → Alike x y h → (k ≡ h) × ((before : List ℕ) → audit before k ≡ audit before h)
  -- no restorer holds any sheet above his threshold
  pub kept : (c : ℕ) (r : Restorer) (s : List ℕ) → known h c ≡ Some r → Within w.tops s → Above r s → ⊥
  -- the sealed sheet stays possible for every restorer
  pub possible : (c : ℕ) (r : Restorer) → known h c ≡ Some r → 1 ≤ (held r).weight x

-- every history whose replies are the stated ones, from nothing, is lawful
abbrev pub Law : Type 0
Law = (w : Setting) (x : List ℕ) (h : Past) → Within w.tops x → Follows w x h → Lawful w x h
