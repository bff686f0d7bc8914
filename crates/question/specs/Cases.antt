-- Worked cases: bytes, and what they are replied on every sheet. Assumes nothing.
use Rattle.std.specs.Prelude.{◌≡◌, ℕ, ◌*◌, min, List, [], ◌∷◌, Some}
use Rattle.refusal.specs.Replies.{Reply, given, declined, mapped}
use Rattle.question.specs.Expressions.{greatest}
use Rattle.question.specs.Reading.{reading}
use Rattle.question.specs.Questions.{answers}

pub record Case : Type 0 where
  pub bytes : List ℕ
  pub gives : Reply ℕ

abbrev pub cases : List Case
cases =
    record { bytes = []; gives = declined 9 (Some 0) }
    -- f
    ∷ record { bytes = 102 ∷ []; gives = declined 9 (Some 1) }
    -- f 0 f
    ∷ record { bytes = 102 ∷ 0 ∷ 102 ∷ []; gives = declined 9 (Some 2) }
    -- 1000 * 1000
    ∷ record { bytes = 42 ∷ 99 ∷ 3 ∷ 232 ∷ 99 ∷ 3 ∷ 232 ∷ []; gives = given greatest }
    -- 1000 * 1001
    ∷ record { bytes = 42 ∷ 99 ∷ 3 ∷ 232 ∷ 99 ∷ 3 ∷ 233 ∷ []; gives = declined 10 (Some 0) }
    -- 3 - 5
    ∷ record { bytes = 45 ∷ 99 ∷ 0 ∷ 3 ∷ 99 ∷ 0 ∷ 5 ∷ []; gives = given 0 }
    -- 4 * 4
    ∷ record { bytes = 42 ∷ 99 ∷ 0 ∷ 4 ∷ 99 ∷ 0 ∷ 4 ∷ []; gives = given (min (4 * 4) greatest) }
    ∷ []

abbrev pub Hold : List Case → Type 0
Hold [] = Unit {0}
Hold (c ∷ cs) = ((s : List ℕ) → mapped (λ e. answers c.bytes s) (reading c.bytes) ≡ c.gives) × Hold cs

-- every row holds, on every sheet
pub record Worked : Type 0 where
  pub rows : Hold cases
