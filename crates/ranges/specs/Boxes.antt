-- Boxes of sheets, and what they weigh. Assumes nothing.
use Rattle.std.specs.Prelude.{ℕ, ◌+◌, ◌-◌, ◌*◌, max, Bool, true, false, cond, ◌&&◌, ◌||◌, List, [], ◌∷◌, map, nat_le, nat_lt}
use Rattle.belief.specs.Sheets.{plus}
use Rattle.ranges.specs.declared.shapes.Side.{Side}
use Rattle.ranges.specs.declared.shapes.WeightedBox.{WeightedBox}

-- ---- one box, by its sides

-- whether a value lies in a side
unfoldable pub within : Side → ℕ → Bool
within x v = nat_le x.low v && nat_le v x.high

-- whether a sheet lies in a box
unfoldable pub inside : List Side → List ℕ → Bool
inside [] s = true
inside (x ∷ xs) [] = false
inside (x ∷ xs) (v ∷ s) = within x v && inside xs s

-- whether no side is empty and none passes its top
unfoldable pub fits : List ℕ → List Side → Bool
fits [] [] = true
fits [] (x ∷ xs) = false
fits (t ∷ ts) [] = false
fits (t ∷ ts) (x ∷ xs) = nat_le x.low x.high && (nat_le x.high t && fits ts xs)

-- how many values a side has, and how many sheets a box
unfoldable pub width : Side → ℕ
width x = x.high + 1 - x.low

unfoldable pub volume : List Side → ℕ
volume [] = 1
volume (x ∷ xs) = width x * volume xs

-- the lowest sheet of a box
unfoldable pub corner : List Side → List ℕ
corner [] = []
corner (x ∷ xs) = x.low ∷ corner xs

-- the box of all sheets
unfoldable pub entire : List ℕ → List Side
entire ts = map (λ t. record { low = 0; high = t }) ts

-- ---- many boxes

-- op over g of all boxes, 0 of none
unfoldable pub over_boxes : (ℕ → ℕ → ℕ) → (WeightedBox → ℕ) → List WeightedBox → ℕ
over_boxes op g [] = 0
over_boxes op g (b ∷ bs) = op (g b) (over_boxes op g bs)

-- in how many boxes a sheet lies
unfoldable pub cover_at : List WeightedBox → List ℕ → ℕ
cover_at bs s = over_boxes plus (λ b. cond (inside b.sides s) 1 0) bs

-- the weight of a sheet: that of the box in which it lies (there is one at most in sound boxes), 0 if it lies in none
unfoldable pub weight_at : List WeightedBox → List ℕ → ℕ
weight_at bs s = over_boxes plus (λ b. cond (inside b.sides s) b.weight 0) bs

-- how many sheets lie in boxes, what they weigh together, and the greatest weight
unfoldable pub volume_in : List WeightedBox → ℕ
volume_in bs = over_boxes plus (λ b. volume b.sides) bs

unfoldable pub total_in : List WeightedBox → ℕ
total_in bs = over_boxes plus (λ b. volume b.sides * b.weight) bs

unfoldable pub peak_in : List WeightedBox → ℕ
peak_in bs = over_boxes max (λ b. b.weight) bs

-- whether every box fits the tops and weighs at least 1
unfoldable pub fit_all : List ℕ → List WeightedBox → Bool
fit_all ts [] = true
fit_all ts (b ∷ bs) = (fits ts b.sides && nat_le 1 b.weight) && fit_all ts bs

-- whether two boxes have a side in which all values of one lie below all of the other
unfoldable pub apart : List Side → List Side → Bool
apart [] ys = false
apart (x ∷ xs) [] = false
apart (x ∷ xs) (y ∷ ys) = (nat_lt x.high y.low || nat_lt y.high x.low) || apart xs ys

unfoldable pub apart_all : List Side → List WeightedBox → Bool
apart_all x [] = true
apart_all x (b ∷ bs) = apart x b.sides && apart_all x bs

-- whether every two boxes are apart
unfoldable pub disjoint : List WeightedBox → Bool
disjoint [] = true
disjoint (b ∷ bs) = apart_all b.sides bs && disjoint bs
