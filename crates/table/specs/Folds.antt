-- A fold over all sheets is the fold over all places.
use Rattle.std.specs.Prelude.{◌≡◌, ℕ, zero, suc, ◌+◌, ◌*◌, ◌/◌, ◌%◌, ◌<◌, max, Bool, true, false, ◌&&◌, List, [], ◌∷◌, ◌++◌, refl}
use Rattle.std.proofs.Math.Path.{sym, ap}
use Rattle.std.proofs.Common.{◌∙◌, append_assoc, arith, add-mul, add-zero, zero-add, one-mul, add-suc, mod-eq_of_lt, add-one}
use Rattle.std.proofs.Math.Nat.{mul-add-div_right, mul-add-mod_self_right, div-eq_of_lt}
use Rattle.std.specs.List.{sum, fold, list_all}
use Rattle.std.proofs.lemmas.List.Sums.{fold-append, sum_by-append}
use Rattle.std.proofs.lemmas.List.Folds.{list_all-append}
use Rattle.belief.specs.Sheets.{up_to, over_sheets, plus, both, sum_of, max_of, all_of}
use Rattle.belief.proofs.Sums.{up_to_cong, over_cong}
use Rattle.table.specs.Places.{in_order, size_of}

-- the sheet at a place
unfoldable pub sheet_at : List ℕ → ℕ → List ℕ
sheet_at [] i = []
sheet_at (t ∷ ts) i = (i / size_of ts) ∷ sheet_at ts (i % size_of ts)

-- op is associative, with a unit
pub record Folds {A : Type 0} (op : A → A → A) (unit : A) : Type 0 where
  pub left : (x : A) → op unit x ≡ x
  pub right : (x : A) → op x unit ≡ x
  pub assoc : (x y z : A) → op (op x y) z ≡ op x (op y z)

-- op over f 0 .. f (n - 1)
unfoldable pub fold_below : {A : Type 0} → (A → A → A) → A → ℕ → (ℕ → A) → A
fold_below op unit zero f = unit
fold_below op unit (suc n) f = op (fold_below op unit n f) (f n)

pub fold_cong : {A : Type 0} (op : A → A → A) (unit : A) (n : ℕ) (f g : ℕ → A) → ((i : ℕ) → i < n → f i ≡ g i) → fold_below op unit n f ≡ fold_below op unit n g
unfolding fold_below
fold_cong op unit zero f g h = refl
fold_cong op unit (suc n) f g h = let a = fold_cong op unit n f g (λ i k. h i (omega arith)) in let b = h n (omega arith) in cc

module _ {A : Type 0} (op : A → A → A) (unit : A) (o : Folds op unit) where
  add : (m n : ℕ) (f : ℕ → A) → fold_below op unit (m + n) f ≡ op (fold_below op unit m f) (fold_below op unit n (λ i. f (m + i)))
  unfolding fold_below
  add m zero f = ap (λ z. fold_below op unit z f) (add-zero m) ∙ sym (o.right _)
  add m (suc n) f = ap (λ z. fold_below op unit z f) (add-suc m n) ∙ ap (λ z. op z (f (m + n))) (add m n f) ∙ o.assoc _ _ _

  row : (v m : ℕ) (g : ℕ → ℕ → A) → fold_below op unit m (λ i. g ((v * m + i) / m) ((v * m + i) % m)) ≡ fold_below op unit m (g v)
  row v m g = fold_cong op unit m _ _ (λ i h. ap (λ x. g x ((v * m + i) % m)) (let p : 0 < m = omega arith in mul-add-div_right p v i ∙ ap (λ x. v + x) (div-eq_of_lt h) ∙ add-zero v) ∙ ap (g v) (mul-add-mod_self_right v m i ∙ mod-eq_of_lt h))

  rows : (n m : ℕ) (g : ℕ → ℕ → A) → fold_below op unit ((n + 1) * m) (λ i. g (i / m) (i % m)) ≡ up_to op n (λ v. fold_below op unit m (g v))
  rows zero m g = let e : (0 + 1) * m ≡ m = one-mul m in ap (λ z. fold_below op unit z (λ i. g (i / m) (i % m))) e ∙ fold_cong op unit m _ _ (λ i h. ap (λ x. g x (i % m)) (div-eq_of_lt h) ∙ ap (g 0) (mod-eq_of_lt h))
  rows (suc n) m g =
      let e : (suc n + 1) * m ≡ (n + 1) * m + m = add-mul (suc n) 1 m ∙ ap (λ z. z * m + 1 * m) (sym (add-one n)) ∙ ap (λ z. (n + 1) * m + z) (one-mul m) in
      let f : ℕ → A = λ i. g (i / m) (i % m) in
      let a : fold_below op unit ((n + 1) * m) f ≡ up_to op n (λ v. fold_below op unit m (g v)) = rows n m g in
      let b : fold_below op unit m (λ i. f ((n + 1) * m + i)) ≡ fold_below op unit m (g (suc n)) = row (n + 1) m g ∙ ap (λ z. fold_below op unit m (g z)) (add-one n) in
      ap (λ z. fold_below op unit z f) e ∙ add ((n + 1) * m) m f ∙ ap (λ z. op z (fold_below op unit m (λ i. f ((n + 1) * m + i)))) a ∙ ap (λ z. op (up_to op n (λ v. fold_below op unit m (g v))) z) b

  flat : (ts : List ℕ) (f : List ℕ → A) → over_sheets op ts f ≡ fold_below op unit (size_of ts) (λ i. f (sheet_at ts i))
  unfolding size_of sheet_at fold_below
  flat [] f = sym (o.left (f []))
  flat (t ∷ ts) f = up_to_cong op t _ _ (λ v. flat ts (λ s. f (v ∷ s))) ∙ sym (rows t (size_of ts) (λ v j. f (v ∷ sheet_at ts j)))

  -- what a loop over all places has gathered is the fold over all sheets
  pub gathered : (ts : List ℕ) (f : List ℕ → A) (g : ℕ → A) (n : ℕ) (x : A) → x ≡ fold_below op unit n g → n ≡ size_of ts → ((i : ℕ) → i < size_of ts → g i ≡ f (sheet_at ts i)) → x ≡ over_sheets op ts f
  gathered ts f g n x e en h = e ∙ ap (λ z. fold_below op unit z g) en ∙ fold_cong op unit (size_of ts) g (λ i. f (sheet_at ts i)) h ∙ sym (flat ts f)

append_none : {A : Type 0} (xs : List A) → xs ++ [] ≡ xs
append_none [] = refl
append_none (x ∷ xs) = ap (λ z. x ∷ z) (append_none xs)

pub append_folds : {A : Type 0} → Folds {A = List A} ◌++◌ []
append_folds = record { left = λ xs. refl; right = append_none; assoc = append_assoc }

-- ---- folds of the list of all values, in the order of the sheets

-- what takes lists that are joined to what op makes of both takes the list of all to the fold over all sheets
module _ {A B : Type 0} (op : B → B → B) (h : List A → B) (joins : (xs ys : List A) → h (xs ++ ys) ≡ op (h xs) (h ys)) where
  up_to_listed : (n : ℕ) (f : ℕ → List A) → h (up_to ◌++◌ n f) ≡ up_to op n (λ v. h (f v))
  up_to_listed zero f = refl
  up_to_listed (suc n) f = joins (up_to ◌++◌ n f) (f (suc n)) ∙ ap (λ z. op z (h (f (suc n)))) (up_to_listed n f)

  over_listed : (ts : List ℕ) (f : List ℕ → List A) → h (over_sheets ◌++◌ ts f) ≡ over_sheets op ts (λ s. h (f s))
  over_listed [] f = refl
  over_listed (t ∷ ts) f = up_to_listed t (λ v. over_sheets ◌++◌ ts (λ s. f (v ∷ s))) ∙ up_to_cong op t _ _ (λ v. over_listed ts (λ s. f (v ∷ s)))

pub sum_in_order : (ts : List ℕ) (f : List ℕ → ℕ) → sum (in_order ts f) ≡ sum_of ts f
sum_in_order ts f = over_listed plus sum (sum_by-append (λ x. x)) ts (λ s. f s ∷ []) ∙ over_cong plus ts _ _ (λ s. zero-add (f s))

max_from : (a : ℕ) (xs : List ℕ) → fold max a xs ≡ max a (fold max 0 xs)
max_from a [] = omega arith
max_from a (x ∷ xs) = let i = max_from (max a x) xs in let j = max_from (max 0 x) xs in omega arith

pub max_in_order : (ts : List ℕ) (f : List ℕ → ℕ) → fold max 0 (in_order ts f) ≡ max_of ts f
max_in_order ts f =
    over_listed max (fold max 0) (λ xs ys. fold-append max 0 xs ys ∙ max_from (fold max 0 xs) ys) ts (λ s. f s ∷ [])
    ∙ over_cong max ts _ _ (λ s. omega arith)

pub and_true : (b : Bool) → (b && true) ≡ b
and_true true = refl
and_true false = refl

pub all_in_order : (p : ℕ → Bool) (ts : List ℕ) (f : List ℕ → ℕ) → list_all p (in_order ts f) ≡ all_of ts (λ s. p (f s))
all_in_order p ts f = over_listed both (list_all p) (list_all-append p) ts (λ s. f s ∷ []) ∙ over_cong both ts _ _ (λ s. and_true (p (f s)))
