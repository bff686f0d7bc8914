-- Worked cases: rows of a cabinet with one field and of histories that follow the stated replies. Assumes nothing.
use Rattle.std.specs.Prelude.{ℕ, ◌≤◌, cond, List, [], ◌∷◌, replicate, None, nat_lt}
use Rattle.refusal.specs.Replies.{given, declined}
use Rattle.question.specs.Steps.{step}
use Rattle.belief.specs.Meaning.{Meaning}
use Rattle.table.specs.Tables.{tabled}
use Rattle.history.specs.Events.{Setting, Offer, enrols, asks, Past}
use Rattle.history.specs.Stated.{Follows}

-- a table over field 0, with a weight for each of its values
abbrev pub table : ℕ → List ℕ → Meaning
table top weights = tabled 0 1 (top ∷ 0 ∷ 0 ∷ 0 ∷ []) weights

-- sealed values from one to the top, and a history for each
pub record Row : Type 0 where
  pub top : ℕ
  pub from : ℕ
  pub past : ℕ → Past

abbrev pub one_field : ℕ → Setting
one_field top = record { count = 1; tops = top ∷ 0 ∷ 0 ∷ 0 ∷ []; places = 1; room = 100 }

abbrev pub Holds : List Row → Type 0
Holds [] = Unit {0}
Holds (r ∷ rs) = ((v : ℕ) → r.from ≤ v → v ≤ r.top → Follows (one_field r.top) (v ∷ 0 ∷ 0 ∷ 0 ∷ []) (r.past v)) × Holds rs

-- the restorer with code 1 is enrolled at n / d with a belief
abbrev pub offer : ℕ → ℕ → Meaning → Offer
offer n d m = record { code = 1; n = n; d = d; start = m; letter = 84 }

-- what he asks: is field 0 below k
abbrev pub below : ℕ → List ℕ
below k = step 0 k

-- he has ones over 0 to 9, and 1/4
abbrev pub ones : Past
ones = enrols (offer 1 4 (table 9 (replicate 10 1))) (given 0) ∷ []

-- he has 5, 3, 1 and 1 over 0 to 3
abbrev pub fives : Meaning
fives = table 3 (5 ∷ 3 ∷ 1 ∷ 1 ∷ [])

abbrev pub rows : List Row
rows =
    -- below 4 is answered
    record { top = 9; from = 0; past = λ v. asks 1 (below 4) (given (cond (nat_lt v 4) 1 0)) ∷ ones }
    -- below 3 is too telling, whatever is sealed
    ∷ record { top = 9; from = 0; past = λ v. asks 1 (below 3) (declined 14 None) ∷ ones }
    -- but not after it is known not to be below 5
    ∷ record { top = 9; from = 5; past = λ v. asks 1 (below 3) (given 0) ∷ asks 1 (below 5) (given 0) ∷ ones }
    -- 5 of 10 is at 1/2, and above 49/100
    ∷ record { top = 3; from = 0; past = λ v. enrols (offer 1 2 fives) (given 0) ∷ [] }
    ∷ record { top = 3; from = 0; past = λ v. enrols (offer 49 100 fives) (declined 14 None) ∷ [] }
    ∷ []

abbrev pub Cases : Type 0
Cases = Holds rows
