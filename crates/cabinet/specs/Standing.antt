-- When memory stands for a history: what the cabinet, its folders and its audit hold is what has become of every call so far. Assumes nothing.
use Rattle.std.specs.Prelude.{◌≡◌, ℕ, ◌-◌, List, [], ◌∷◌, ◌++◌, map, length, replicate, ◌≢◌}
use Rattle.std.specs.Option.{option_map}
use Rattle.belief.specs.Meaning.{Meaning}
use Rattle.history.specs.Events.{Setting, Within, Offer, View, Event, Past, Restorer, known, codes, enrolments, held}
use Rattle.history.specs.Entries.{written, audit}
use Rattle.history.specs.Stated.{Follows}
use Rattle.history.specs.Laws.{Lawful}
use Rattle.cabinet.specs.declared.cabinets.Cabinet.{Cabinet}
use Rattle.cabinet.specs.declared.folders.Folder.{Folder}
use Rattle.cabinet.specs.declared.views.View.{View as Shown}
use Rattle.cabinet.specs.Memory.{State, filed, coded, state}

-- the folder of a restorer: his code, his threshold, and what he holds
abbrev pub filing : ℕ → Restorer → Folder Meaning
filing code r = filed code (record { n = r.n; d = r.d }) (held r)

-- what the folder of an enrolment offers, in a cabinet whose beliefs are of a kind
abbrev pub offering : ℕ → Folder Meaning → Offer
offering kind f = record { code = f.code; n = f.threshold.n; d = f.threshold.d; start = f.belief; letter = kind }

-- what a look showed
abbrev pub viewed : Shown → View
viewed v = record { total = v.total; peak = v.peak; n = v.threshold.n; d = v.threshold.d }

-- x is the sealed sheet, w what stays the same, before what the audit's bytes were before the first call
pub record Stands (w : Setting) (x before : List ℕ) (past : Past) (s : State Meaning) : Type 0 where
  -- every reply has been the stated one
  pub follows : Follows w x past
  -- the cabinet has its sheet and fields, and as many bytes are used as were written
  pub sheet : s.cabinet.sheet ≡ x
  pub within : Within w.tops x
  pub count : s.cabinet.count ≡ w.count
  pub tops : s.cabinet.tops ≡ w.tops
  pub used : s.cabinet.used ≡ length (written past)
  -- the audit holds the entries, and behind them what it held before
  pub room : length before ≡ w.room
  pub bytes : s.audit ≡ audit before past
  -- the places are taken in the order of enrolment, and all others are free
  pub places : map (λ f. f.code) s.folders ≡ codes past ++ replicate (w.places - enrolments past) 0
  -- the folder of a code is that of the restorer who has it
  pub folders : (c : ℕ) → (c ≢ 0) → coded c s.folders ≡ option_map (filing c) (known past c)

-- a call that leaves memory s as t, with this event: whatever history s stood for, t stands for it with the event more, and it is lawful
pub record GoesOn (s : State Meaning) (e : Event) (t : State Meaning) : Type 0 where
  pub stands : (w : Setting) (x before : List ℕ) (past : Past) → Stands w x before past s → Stands w x before (e ∷ past) t
  pub lawful : (w : Setting) (x before : List ℕ) (past : Past) → Stands w x before past s → Lawful w x (e ∷ past)

-- what stays the same from the making of a cabinet on
abbrev pub setting : Cabinet → ℕ → ℕ → Setting
setting c places room = record { count = c.count; tops = c.tops; places = places; room = room }

-- a cabinet just made: with free folders and any audit it stands for the history without an event
pub record Begins (c : Cabinet) : Type 0 where
  pub stands : (fs : List (Folder Meaning)) (before : List ℕ) → map (λ f. f.code) fs ≡ replicate (length fs) 0 →
      Stands (setting c (length fs) (length before)) c.sheet before [] (state c fs before)
