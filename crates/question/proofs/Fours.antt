-- Lists of four numbers.
use Rattle.std.proofs.Common.{◌≡◌, ℕ, List, [], ◌∷◌, length, get_or, refl, arith}

abbrev pub four_of : List ℕ → List ℕ
four_of xs = get_or xs 0 0 ∷ get_or xs 1 0 ∷ get_or xs 2 0 ∷ get_or xs 3 0 ∷ []

-- a list of four is its four numbers
pub fours : (xs : List ℕ) → length xs ≡ 4 → xs ≡ four_of xs
fours [] h = absurd (omega arith)
fours (a ∷ []) h = absurd (omega arith)
fours (a ∷ b ∷ []) h = absurd (omega arith)
fours (a ∷ b ∷ c ∷ []) h = absurd (omega arith)
fours (a ∷ b ∷ c ∷ d ∷ []) h = refl
fours (a ∷ b ∷ c ∷ d ∷ e ∷ f) h = absurd (omega arith)
