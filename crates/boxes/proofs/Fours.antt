-- Four sides, and four bytes, one by one.
use Rattle.std.specs.Prelude.{◌≡◌, ℕ, zero, suc, ◌+◌, ◌*◌, ◌^◌, ◌<◌, ◌≤◌, false, ◌&&◌, ◌||◌, List, [], ◌∷◌, length, nat_le, nat_lt, slice_index, slice_index_or, slice_set, refl}
use Rattle.std.specs.List.{list_all, list_any, zip}
use Rattle.std.proofs.Math.Bool.{and_assoc}
use Rattle.std.proofs.Common.{sym, ap, ◌∙◌, arith, mul-one, mul-le-mul}
use Rattle.ranges.specs.declared.shapes.Side.{Side}
use Rattle.question.specs.declared.steps.Step.{Step}
use Rattle.ranges.specs.Boxes.{within, inside, fits, width, volume, corner, entire, apart}
use Rattle.ranges.specs.Pieces.{cuts_side, cuts, with_side}
use Rattle.ranges.specs.Changes.{edges}
use Rattle.boxes.specs.Holding.{between}

abbrev pub no_side : Side
no_side = record { low = 0; high = 0 }

abbrev four_of : {A : Type 0} → A → List A → List A
four_of d xs = slice_index_or xs 0 d ∷ slice_index_or xs 1 d ∷ slice_index_or xs 2 d ∷ slice_index_or xs 3 d ∷ []

pub fours : {A : Type 0} (d : A) (xs : List A) → length xs ≡ 4 → four_of d xs ≡ xs
fours d [] h = absurd (omega arith)
fours d (a ∷ []) h = absurd (omega arith)
fours d (a ∷ b ∷ []) h = absurd (omega arith)
fours d (a ∷ b ∷ c ∷ []) h = absurd (omega arith)
fours d (a ∷ b ∷ c ∷ e ∷ []) h = refl
fours d (a ∷ b ∷ c ∷ e ∷ f ∷ g) h = absurd (omega arith)

-- a function of four things is that of the four one by one
by_four : {A B : Type 0} (f : List A → B) (d : A) (xs : List A) → length xs ≡ 4 → f (four_of d xs) ≡ f xs
by_four f d xs h = ap f (fours d xs h)

by_fours : {A B C : Type 0} (f : List A → List B → C) (d : A) (e : B) (xs : List A) (ys : List B) → length xs ≡ 4 → length ys ≡ 4 → f (four_of d xs) (four_of e ys) ≡ f xs ys
by_fours f d e xs ys h k = ap (λ z. f z (four_of e ys)) (fours d xs h) ∙ ap (f xs) (fours e ys k)

pub four_corner : (xs : List Side) → length xs ≡ 4 → ((slice_index_or xs 0 no_side).low ∷ (slice_index_or xs 1 no_side).low ∷ (slice_index_or xs 2 no_side).low ∷ (slice_index_or xs 3 no_side).low ∷ []) ≡ corner xs
unfolding corner
four_corner xs h = by_four corner no_side xs h

pub four_volume : (xs : List Side) → length xs ≡ 4 → width (slice_index_or xs 0 no_side) * (width (slice_index_or xs 1 no_side) * (width (slice_index_or xs 2 no_side) * width (slice_index_or xs 3 no_side))) ≡ volume xs
unfolding volume
four_volume xs h = ap (λ z. width (slice_index_or xs 0 no_side) * (width (slice_index_or xs 1 no_side) * (width (slice_index_or xs 2 no_side) * z))) (sym (mul-one _)) ∙ by_four volume no_side xs h

pub four_between : (ls hs : List ℕ) → length ls ≡ 4 → length hs ≡ 4 →
    (record { low = slice_index ls 0; high = slice_index hs 0 } ∷ record { low = slice_index ls 1; high = slice_index hs 1 } ∷ record { low = slice_index ls 2; high = slice_index hs 2 } ∷ record { low = slice_index ls 3; high = slice_index hs 3 } ∷ []) ≡ between ls hs
unfolding between
four_between ls hs h k = by_fours between 0 0 ls hs h k

-- ---- two boxes, or a box and four bytes, pair by pair

pub inside_pairs : (xs : List Side) (s : List ℕ) → length xs ≡ length s → list_all (λ p. nat_le p.0.low p.1 && nat_le p.1 p.0.high) (zip xs s) ≡ inside xs s
unfolding inside within
inside_pairs [] s h = refl
inside_pairs (x ∷ xs) [] h = absurd (omega arith)
inside_pairs (x ∷ xs) (v ∷ s) h = ap (λ z. within x v && z) (inside_pairs xs s (omega arith))

pub fits_pairs : (ts : List ℕ) (xs : List Side) → length ts ≡ length xs → list_all (λ p. nat_le p.1.low p.1.high && nat_le p.1.high p.0) (zip ts xs) ≡ fits ts xs
unfolding fits
fits_pairs [] [] h = refl
fits_pairs [] (x ∷ xs) h = absurd (omega arith)
fits_pairs (t ∷ ts) [] h = absurd (omega arith)
fits_pairs (t ∷ ts) (x ∷ xs) h = and_assoc (nat_le x.low x.high) (nat_le x.high t) _ ∙ ap (λ z. nat_le x.low x.high && (nat_le x.high t && z)) (fits_pairs ts xs (omega arith))

pub apart_pairs : (xs ys : List Side) → list_any (λ p. nat_lt p.0.high p.1.low || nat_lt p.1.high p.0.low) (zip xs ys) ≡ apart xs ys
unfolding apart
apart_pairs [] ys = refl
apart_pairs (x ∷ xs) [] = refl
apart_pairs (x ∷ xs) (y ∷ ys) = ap (λ z. (nat_lt x.high y.low || nat_lt y.high x.low) || z) (apart_pairs xs ys)

-- the box of all sheets lies between nothing and the tops
pub between_entire : (ts : List ℕ) → length ts ≡ 4 → between (0 ∷ 0 ∷ 0 ∷ 0 ∷ []) ts ≡ entire ts
unfolding between entire
between_entire ts h = ap (between (0 ∷ 0 ∷ 0 ∷ 0 ∷ [])) (sym (fours 0 ts h)) ∙ ap entire (fours 0 ts h)

abbrev pub start : ℕ → Side → Step
start k x = record { field = k; bound = x.low }

abbrev pub end : ℕ → Side → Step
end k x = record { field = k; bound = x.high + 1 }

pub four_edges : (xs : List Side) → length xs ≡ 4 →
    (start 0 (slice_index_or xs 0 no_side) ∷ end 0 (slice_index_or xs 0 no_side) ∷ start 1 (slice_index_or xs 1 no_side) ∷ end 1 (slice_index_or xs 1 no_side)
    ∷ start 2 (slice_index_or xs 2 no_side) ∷ end 2 (slice_index_or xs 2 no_side) ∷ start 3 (slice_index_or xs 3 no_side) ∷ end 3 (slice_index_or xs 3 no_side) ∷ []) ≡ edges 0 xs
unfolding edges
four_edges xs h = by_four (edges 0) no_side xs h

-- ---- one side of a box

pub cut_at : (xs : List Side) (k v : ℕ) → k < length xs → cuts_side (slice_index_or xs k no_side) v ≡ cuts xs k v
unfolding cuts
cut_at [] k v h = absurd (omega arith)
cut_at (x ∷ xs) zero v h = refl
cut_at (x ∷ xs) (suc k) v h = cut_at xs k v (omega arith)

pub cut_past : (xs : List Side) (k v : ℕ) → length xs ≤ k → false ≡ cuts xs k v
unfolding cuts
cut_past [] k v h = refl
cut_past (x ∷ xs) zero v h = absurd (omega arith)
cut_past (x ∷ xs) (suc k) v h = cut_past xs k v (omega arith)

pub part_at : (g : Side → Side) (xs : List Side) (k : ℕ) → slice_set xs k (g (slice_index_or xs k no_side)) ≡ with_side g xs k
unfolding with_side
part_at g [] k = refl
part_at g (x ∷ xs) zero = refl
part_at g (x ∷ xs) (suc k) = ap (λ z. x ∷ z) (part_at g xs k)

-- ---- products of widths

two : (a b : ℕ) → a ≤ 256 → b ≤ 256 → a * b ≤ 65536
two a b h k = mul-le-mul {n₁ = a} {m₁ = b} {n₂ = 256} {m₂ = 256} h k

pub record Products (a b c d : ℕ) : Type 0 where
  pub second : c * d ≤ 65536
  pub third : b * (c * d) ≤ 16777216
  pub fourth : a * (b * (c * d)) ≤ 2 ^ 32

pub products : (a b c d : ℕ) → a ≤ 256 → b ≤ 256 → c ≤ 256 → d ≤ 256 → Products a b c d
products a b c d h k l m =
    let x = two c d l m in
    let y = mul-le-mul {n₁ = b} {m₁ = c * d} {n₂ = 256} {m₂ = 65536} k x in
    record { second = x; third = y; fourth = mul-le-mul {n₁ = a} {m₁ = b * (c * d)} {n₂ = 256} {m₂ = 16777216} h y }
