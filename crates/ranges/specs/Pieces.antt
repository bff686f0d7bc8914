-- How steps cut boxes into pieces. Assumes nothing.
use Rattle.std.specs.Prelude.{ℕ, zero, suc, ◌-◌, Bool, false, cond, ◌&&◌, List, [], ◌∷◌, ◌++◌, map, nat_le, nat_lt}
use Rattle.std.specs.List.{flat_map}
use Rattle.question.specs.declared.steps.Step.{Step}
use Rattle.ranges.specs.declared.shapes.Side.{Side}
use Rattle.ranges.specs.declared.shapes.WeightedBox.{WeightedBox}

-- whether a side is cut between v - 1 and v, and its two parts
abbrev pub cuts_side : Side → ℕ → Bool
cuts_side x v = nat_lt x.low v && nat_le v x.high

abbrev pub below : Side → ℕ → Side
below x v = record { low = x.low; high = v - 1 }

abbrev pub above : Side → ℕ → Side
above x v = record { low = v; high = x.high }

-- whether side k of a box is cut there
unfoldable pub cuts : List Side → ℕ → ℕ → Bool
cuts [] k v = false
cuts (x ∷ xs) zero v = cuts_side x v
cuts (x ∷ xs) (suc k) v = cuts xs k v

-- a box with side k changed, and the two parts of a box that is cut
unfoldable pub with_side : (Side → Side) → List Side → ℕ → List Side
with_side g [] k = []
with_side g (x ∷ xs) zero = g x ∷ xs
with_side g (x ∷ xs) (suc k) = x ∷ with_side g xs k

abbrev pub lower : List Side → ℕ → ℕ → List Side
lower xs k v = with_side (λ x. below x v) xs k

abbrev pub upper : List Side → ℕ → ℕ → List Side
upper xs k v = with_side (λ x. above x v) xs k

-- the pieces of a box under some steps
unfoldable pub pieces : List Step → List Side → List (List Side)
pieces [] xs = xs ∷ []
pieces (t ∷ ts) xs =
    cond (cuts xs t.field t.bound)
    (pieces ts (lower xs t.field t.bound) ++ pieces ts (upper xs t.field t.bound))
    (pieces ts xs)

-- the pieces of a box, each with its weight, and those of all boxes together
unfoldable pub cut : List Step → WeightedBox → List WeightedBox
cut ts b = map (λ p. record { sides = p; weight = b.weight }) (pieces ts b.sides)

unfoldable pub cut_all : List Step → List WeightedBox → List WeightedBox
cut_all ts bs = flat_map (cut ts) bs
