-- Sums, maxima and tests over all sheets whose values lie at most at given tops. Assumes nothing.
use Rattle.std.specs.Prelude.{ℕ, zero, suc, ◌+◌, max, Bool, ◌&&◌, List, [], ◌∷◌}

-- op over f 0 .. f n
abbrev pub up_to : {A : Type 0} → (A → A → A) → ℕ → (ℕ → A) → A
up_to op zero f = f 0
up_to op (suc n) f = op (up_to op n f) (f (suc n))

-- op over f of all sheets with values at most the tops
abbrev pub over_sheets : {A : Type 0} → (A → A → A) → List ℕ → (List ℕ → A) → A
over_sheets op [] f = f []
over_sheets op (t ∷ ts) f = up_to op t (λ v. over_sheets op ts (λ s. f (v ∷ s)))

abbrev pub plus : ℕ → ℕ → ℕ
plus a b = a + b

abbrev pub both : Bool → Bool → Bool
both a b = a && b

-- the sum over all sheets
abbrev pub sum_of : List ℕ → (List ℕ → ℕ) → ℕ
sum_of = over_sheets plus

-- the greatest over all sheets
abbrev pub max_of : List ℕ → (List ℕ → ℕ) → ℕ
max_of = over_sheets max

-- whether it holds of all sheets
abbrev pub all_of : List ℕ → (List ℕ → Bool) → Bool
all_of = over_sheets both
