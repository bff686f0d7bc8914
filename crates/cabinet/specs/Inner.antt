-- What inner functions promise to the calls. Assumes nothing.
use Rattle.std.specs.Prelude.{◌≡◌, ℕ, ◌+◌, ◌<◌, ◌≤◌, true, false, List, map, length, Some, slice_index_or}
use Rattle.refusal.specs.declared.list.Refusal.{Refusal}
use Rattle.refusal.specs.Replies.{Reply, given, declined, number_of, place_of}
use Rattle.question.specs.Expressions.{greatest}
use Rattle.belief.specs.Meaning.{Meaning}
use Rattle.belief.specs.Calls.{revising}
use Rattle.register.specs.Places.{first, vacant}
use Rattle.audit.specs.Format.{asks, declines}
use Rattle.cabinet.specs.declared.cabinets.Cabinet.{Cabinet}
use Rattle.cabinet.specs.declared.folders.Folder.{Folder}
use Rattle.cabinet.specs.Memory.{meant}
use Rattle.cabinet.specs.Calls.{known}

-- the folder of a code is at place i, and its belief fits; d stands for what lies past the end, of which nothing is asked
pub record Found {X : Type 0} (means : X → Meaning) (c : Cabinet) (fs : List (Folder X)) (code i : ℕ) : Type 0 where
  pub within : i < length fs
  pub at : first (λ f. f.code) code fs ≡ Some i
  pub sound : (d : Folder X) → (means (slice_index_or fs i d).belief).sound ≡ true
  pub folder : (d : Folder X) → known c (map (meant means) fs) code ≡ given (meant means (slice_index_or fs i d))

-- there is none, and the refusal is not one that is written
pub record Missing {X : Type 0} (means : X → Meaning) (c : Cabinet) (fs : List (Folder X)) (code : ℕ) (e : Refusal) : Type 0 where
  pub is : known c (map (meant means) fs) code ≡ declined (number_of e) (place_of e)
  pub quiet : declines (number_of e) ≡ false

-- place i is the first that is free, and the entry of an enrolment can be written
pub record Free {X : Type 0} (c : Cabinet) (fs : List (Folder X)) (audit : List ℕ) (i : ℕ) : Type 0 where
  pub place : vacant (λ f. f.code) fs ≡ Some i
  pub room : c.used + 8 ≤ length audit

-- the entry of a question can be written: the question is of a length that an audit holds, and there is room
pub record Room (cabinet : Cabinet) (audit q : List ℕ) : Type 0 where
  pub asked : asks (length q) ≡ true
  pub free : cabinet.used + (5 + length q) ≤ length audit

-- an answer, or a refusal that is written, comes only where there is room; an answer only where the belief can be revised by it
abbrev pub Ready : Cabinet → List ℕ → List ℕ → Folder Meaning → Reply ℕ → Type 0
Ready c audit q f (given a) = Room c audit q × (revising f.belief q a ≡ given tt) × (a ≤ greatest)
Ready c audit q f (declined n p) = declines n ≡ true → Room c audit q
