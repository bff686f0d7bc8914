-- Places and sheets.
use Rattle.std.specs.Prelude.{◌≡◌, ℕ, zero, suc, ◌+◌, ◌*◌, ◌/◌, ◌%◌, ◌<◌, ◌≤◌, Bool, true, false, List, [], ◌∷◌, length, nat_le, slice_index, refl}
use Rattle.std.proofs.Common.{ap, ◌∙◌, arith, add-mul, one-mul, mod-lt, div-lt_iff_lt-mul, mul-le-mul_right, leb-true, le-leb}
use Rattle.std.proofs.lemmas.Nat.{div-add-mod', div-mul-add, mod-mul-add}
use Rattle.question.proofs.Questions.{and_left, and_right}
use Rattle.table.specs.Places.{size_of, place_of, fits_in}
use Rattle.table.specs.Folds.{sheet_at}

pub size_pos : (ts : List ℕ) → 0 < size_of ts
unfolding size_of
size_pos [] = omega arith
size_pos (t ∷ ts) = let h = size_pos ts in let e = add-mul t 1 (size_of ts) in let k = one-mul (size_of ts) in omega arith

-- ---- what fits

pub fits_at : (ts s : List ℕ) → length s ≡ length ts → fits_in ts s ≡ true → (k : ℕ) → slice_index s k ≤ slice_index ts k
unfolding fits_in
fits_at [] [] l e k = omega arith
fits_at [] (v ∷ s) l e k = absurd (omega arith)
fits_at (t ∷ ts) [] l e k = absurd (omega arith)
fits_at (t ∷ ts) (v ∷ s) l e zero = leb-true _ _ (and_left _ _ e)
fits_at (t ∷ ts) (v ∷ s) l e (suc k) = fits_at ts s (omega arith) (and_right _ _ e) k

pub fits_by : (ts s : List ℕ) → ((k : ℕ) → slice_index s k ≤ slice_index ts k) → fits_in ts s ≡ true
unfolding fits_in
fits_by [] s h = refl
fits_by (t ∷ ts) [] h = refl
fits_by (t ∷ ts) (v ∷ s) h = let a = le-leb v t (h 0) in let b = fits_by ts s (λ k. h (suc k)) in simp (a, b)

-- what lies above a top does not fit
pub above_fits : (ts s : List ℕ) (k : ℕ) → length s ≡ length ts → slice_index ts k < slice_index s k → fits_in ts s ≡ false
above_fits ts s k l h = by (fits_in ts s) refl
  where
    by : (b : Bool) → fits_in ts s ≡ b → b ≡ false
    by true e = let i = fits_at ts s l e k in absurd (omega arith)
    by false e = refl

-- ---- the sheet at a place

pub sheet_length : (ts : List ℕ) (i : ℕ) → length (sheet_at ts i) ≡ length ts
unfolding sheet_at
sheet_length [] i = refl
sheet_length (t ∷ ts) i = ap suc (sheet_length ts _)

pub sheet_below : (ts : List ℕ) (i : ℕ) → i < size_of ts → (k : ℕ) → slice_index (sheet_at ts i) k ≤ slice_index ts k
unfolding size_of sheet_at
sheet_below [] i h k = omega arith
sheet_below (t ∷ ts) i h zero = let q : i / size_of ts < t + 1 = (div-lt_iff_lt-mul (size_pos ts)).1 h in omega arith
sheet_below (t ∷ ts) i h (suc k) = sheet_below ts (i % size_of ts) (mod-lt i (size_pos ts)) k

pub sheet_fits : (ts : List ℕ) (i : ℕ) → i < size_of ts → fits_in ts (sheet_at ts i) ≡ true
sheet_fits ts i h = fits_by ts (sheet_at ts i) (sheet_below ts i h)

pub place_sheet : (ts : List ℕ) (i : ℕ) → i < size_of ts → place_of ts (sheet_at ts i) ≡ i
unfolding size_of sheet_at place_of
place_sheet [] i h = omega arith
place_sheet (t ∷ ts) i h =
    let e = place_sheet ts (i % size_of ts) (mod-lt i (size_pos ts)) in
    let k = div-add-mod' i (size_of ts) in omega arith

-- ---- the place of a sheet that fits

pub place_below : (ts s : List ℕ) → length s ≡ length ts → fits_in ts s ≡ true → place_of ts s < size_of ts
unfolding size_of place_of fits_in
place_below [] s l e = omega arith
place_below (t ∷ ts) [] l e = absurd (omega arith)
place_below (t ∷ ts) (v ∷ s) l e =
    let a = place_below ts s (omega arith) (and_right (nat_le v t) (fits_in ts s) e) in
    let b : v ≤ t = leb-true _ _ (and_left (nat_le v t) (fits_in ts s) e) in
    let c : v * size_of ts ≤ t * size_of ts = mul-le-mul_right (size_of ts) b in
    let d = add-mul t 1 (size_of ts) in let o = one-mul (size_of ts) in omega arith

pub sheet_place : (ts s : List ℕ) → length s ≡ length ts → fits_in ts s ≡ true → sheet_at ts (place_of ts s) ≡ s
unfolding sheet_at place_of fits_in
sheet_place [] [] l e = refl
sheet_place [] (v ∷ s) l e = absurd (omega arith)
sheet_place (t ∷ ts) [] l e = absurd (omega arith)
sheet_place (t ∷ ts) (v ∷ s) l e =
    let p = place_below ts s (omega arith) (and_right (nat_le v t) (fits_in ts s) e) in
    let d = div-mul-add v (size_of ts) (place_of ts s) p in
    let m = mod-mul-add v (size_of ts) (place_of ts s) p in
    let r = sheet_place ts s (omega arith) (and_right (nat_le v t) (fits_in ts s) e) in
    ap (λ x. x ∷ sheet_at ts ((v * size_of ts + place_of ts s) % size_of ts)) d ∙ ap (λ x. v ∷ sheet_at ts x) m ∙ ap (λ x. v ∷ x) r
