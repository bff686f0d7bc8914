-- What a belief means, what revising makes of it, and the laws of sound beliefs. Assumes nothing.
use Rattle.std.specs.Prelude.{◌≡◌, ℕ, ◌+◌, ◌^◌, ◌<◌, ◌≤◌, Bool, true, false, cond, ◌&&◌, List, [], ◌∷◌, ◌++◌, length, ◌==◌, nat_le, slice_index}
use Rattle.question.specs.Questions.{answers, reads_in, in_span}
use Rattle.question.specs.Steps.{step}
use Rattle.belief.specs.Sheets.{sum_of, max_of, all_of}

-- a question with the answer that was given to it
pub record Asked : Type 0 where
  pub question : List ℕ
  pub answer : ℕ

-- a belief: its span (a first field and a count), the tops of its fields, a weight for each sheet,
-- the questions that it carries after each list of accepted revisings, the oldest first, and whether it is sound
pub record Meaning : Type 0 where
  pub first : ℕ
  pub count : ℕ
  pub tops : List ℕ
  pub weight : List ℕ → ℕ
  pub carries : List Asked → List ℕ → Bool
  pub sound : Bool

-- whether a field lies in the span
abbrev pub covers : Meaning → ℕ → Bool
covers m k = in_span m.first m.count k

-- ---- what follows from the weights

-- the sum of all weights
unfoldable pub total_of : Meaning → ℕ
total_of m = sum_of m.tops m.weight

-- the greatest weight
unfoldable pub peak_of : Meaning → ℕ
peak_of m = max_of m.tops m.weight

-- whether every sheet weighs at least 1
unfoldable pub whole_of : Meaning → Bool
whole_of m = all_of m.tops (λ s. nat_le 1 (m.weight s))

-- a weight kept by the sheets that give the answer, 0 for all others
unfoldable pub kept : List ℕ → ℕ → (List ℕ → ℕ) → List ℕ → ℕ
kept q a w s = cond (answers q s == a) (w s) 0

-- the sum of the weights of the sheets that give the answer
unfoldable pub mass_of : Meaning → List ℕ → ℕ → ℕ
mass_of m q a = sum_of m.tops (kept q a m.weight)

-- the greatest of those weights
unfoldable pub heaviest_of : Meaning → List ℕ → ℕ → ℕ
heaviest_of m q a = max_of m.tops (kept q a m.weight)

-- ---- revising

-- the meaning after one revising
unfoldable pub revised : Meaning → List ℕ → ℕ → Meaning
revised m q a = record {
  first = m.first;
  count = m.count;
  tops = m.tops;
  weight = kept q a m.weight;
  carries = λ h. m.carries (record { question = q; answer = a } ∷ h);
  sound = m.sound;
}

-- whether a sheet gives every answer that was given
unfoldable pub gives : List Asked → List ℕ → Bool
gives [] s = true
gives (x ∷ h) s = answers x.question s == x.answer && gives h s

-- the meaning after a list of revisings, the oldest first: a sheet keeps its weight if it gives every answer
unfoldable pub conditioned : Meaning → List Asked → Meaning
conditioned m h = record {
  first = m.first;
  count = m.count;
  tops = m.tops;
  weight = λ s. cond (gives h s) (m.weight s) 0;
  carries = λ l. m.carries (h ++ l);
  sound = m.sound;
}

-- ---- the laws of sound beliefs

-- two sheets agree on a span
abbrev pub Agree : ℕ → ℕ → List ℕ → List ℕ → Type 0
Agree first count s t = (k : ℕ) → in_span first count k ≡ true → slice_index s k ≡ slice_index t k

pub record Laws (m : Meaning) : Type 0 where
  -- the total is at least 1 and at most 2 to the 40th
  pub least : 1 ≤ total_of m
  pub most : total_of m ≤ 2 ^ 40
  -- the span has a field, and ends with the last field at most; the tops are four, and 0 outside it
  pub some : 1 ≤ m.count
  pub fits : m.first + m.count ≤ 4
  pub four : length m.tops ≡ 4
  pub outside : (k : ℕ) → covers m k ≡ false → slice_index m.tops k ≡ 0
  -- a weight looks at the span only, is 0 above a top, and is never more than the total
  pub local : (s t : List ℕ) → Agree m.first m.count s t → m.weight s ≡ m.weight t
  pub above : (s : List ℕ) (k : ℕ) → covers m k ≡ true → slice_index m.tops k < slice_index s k → m.weight s ≡ 0
  pub bounded : (s : List ℕ) → m.weight s ≤ total_of m
  -- a carried question reads only fields of the span
  pub spans : (q : List ℕ) → m.carries [] q ≡ true → reads_in m.first m.count q ≡ true
  -- every simple question about a field of the span is carried
  pub simple : (k v : ℕ) → covers m k ≡ true → v < 65536 → m.carries [] (step k v) ≡ true
