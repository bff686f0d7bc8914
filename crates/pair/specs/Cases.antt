-- A worked case of a pair of tables. Assumes nothing.
use Rattle.std.specs.Prelude.{◌≡◌, ℕ, true, List, [], ◌∷◌}
use Rattle.refusal.specs.Replies.{given}
use Rattle.question.specs.Steps.{step}
use Rattle.belief.specs.Meaning.{Meaning, total_of, peak_of, mass_of, heaviest_of}
use Rattle.table.specs.Tables.{tabled}
use Rattle.pair.specs.Pairs.{paired, pair_made}

-- a pair that is made, its total and peak, and mass and heaviest of an answer to a question that it carries
pub record Weighs (l r : Meaning) (all most : ℕ) (question : List ℕ) (answer share greatest : ℕ) : Type 0 where
  pub made : pair_made l r ≡ given (paired l r)
  pub total : total_of (paired l r) ≡ all
  pub peak : peak_of (paired l r) ≡ most
  pub carried : (paired l r).carries [] question ≡ true
  pub mass : mass_of (paired l r) question answer ≡ share
  pub heaviest : heaviest_of (paired l r) question answer ≡ greatest

-- weights 1, 2 for field 0, and 1, 1, 2 for field 1
abbrev pub two : Meaning
two = tabled 0 1 (1 ∷ 0 ∷ 0 ∷ 0 ∷ []) (1 ∷ 2 ∷ [])

abbrev pub three : Meaning
three = tabled 1 1 (0 ∷ 2 ∷ 0 ∷ 0 ∷ []) (1 ∷ 1 ∷ 2 ∷ [])

abbrev pub Worked : Type 0
Worked = Weighs two three 12 4 (step 1 2) 1 6 2
