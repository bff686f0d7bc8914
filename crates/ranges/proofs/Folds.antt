-- Folds over all sheets, and over the sheets of boxes.
use Rattle.std.proofs.Common.{◌≡◌, ℕ, zero, suc, ◌+◌, ◌-◌, ◌*◌, ◌<◌, ◌≤◌, min, max, Bool, true, false, cond, ◌&&◌, nat_le, List, [], ◌∷◌, sym, refl, ap, ◌∙◌, mul_assoc, add-mul, one-mul, zero-mul, add-one, arith, leb-true}
use Rattle.question.proofs.Questions.{and_left, and_right, impossible}
use Rattle.belief.specs.Sheets.{up_to, over_sheets, plus}
use Rattle.belief.proofs.Sums.{up_to_cong}
use Rattle.ranges.specs.declared.shapes.Side.{Side}
use Rattle.ranges.specs.declared.shapes.WeightedBox.{WeightedBox}
use Rattle.ranges.specs.Boxes.{within, inside, fits, width, volume, over_boxes, fit_all}

pub never : {A : Type 0} → false ≡ true → A
never e = impossible false refl e

-- sum and greatest have these
pub record Joins (op : ℕ → ℕ → ℕ) : Type 0 where
  pub none_left : (a : ℕ) → op 0 a ≡ a
  pub none_right : (a : ℕ) → op a 0 ≡ a
  pub middle : (a b c d : ℕ) → op (op a b) (op c d) ≡ op (op a c) (op b d)

pub plus_joins : Joins plus
plus_joins = record { none_left = λ a. omega arith; none_right = λ a. omega arith; middle = λ a b c d. omega arith }

pub max_joins : Joins max
max_joins = record { none_left = λ a. omega arith; none_right = λ a. omega arith; middle = λ a b c d. omega arith }

-- ---- parts of the tests of boxes

pub record Fitting (ts : List ℕ) (t : ℕ) (x : Side) (xs : List Side) : Type 0 where
  pub order : x.low ≤ x.high
  pub under : x.high ≤ t
  pub rest : fits ts xs ≡ true

pub fitting : (ts : List ℕ) (t : ℕ) (x : Side) (xs : List Side) → fits (t ∷ ts) (x ∷ xs) ≡ true → Fitting ts t x xs
unfolding fits
fitting ts t x xs h =
    let r = and_right (nat_le x.low x.high) _ h in
    record { order = leb-true _ _ (and_left (nat_le x.low x.high) _ h); under = leb-true _ _ (and_left (nat_le x.high t) _ r); rest = and_right (nat_le x.high t) _ r }

pub record Fit (ts : List ℕ) (b : WeightedBox) (bs : List WeightedBox) : Type 0 where
  pub here : fits ts b.sides ≡ true
  pub some : 1 ≤ b.weight
  pub rest : fit_all ts bs ≡ true

pub fit : (ts : List ℕ) (b : WeightedBox) (bs : List WeightedBox) → fit_all ts (b ∷ bs) ≡ true → Fit ts b bs
unfolding fit_all
fit ts b bs h =
    let l = and_left (fits ts b.sides && nat_le 1 b.weight) _ h in
    record { here = and_left (fits ts b.sides) _ l; some = leb-true _ _ (and_right (fits ts b.sides) _ l); rest = and_right (fits ts b.sides && nat_le 1 b.weight) _ h }

-- ---- one side

-- n copies of c
unfoldable pub copies : (ℕ → ℕ → ℕ) → ℕ → ℕ → ℕ
copies op zero c = 0
copies op (suc n) c = op (copies op n c) c

-- a box full of c
unfoldable pub boxed : (ℕ → ℕ → ℕ) → List Side → ℕ → ℕ
boxed op [] c = c
boxed op (x ∷ xs) c = copies op (width x) (boxed op xs c)

one_more : (x : Side) (n : ℕ) → within x (suc n) ≡ true → x.low ≤ x.high → min (suc n) x.high + 1 - x.low ≡ suc (min n x.high + 1 - x.low)
unfolding within
one_more x n e h =
    let l = leb-true _ _ (and_left (nat_le x.low (suc n)) _ e) in
    let r = leb-true _ _ (and_right (nat_le x.low (suc n)) _ e) in omega arith

no_more : (x : Side) (n : ℕ) → within x (suc n) ≡ false → x.low ≤ x.high → min (suc n) x.high + 1 - x.low ≡ min n x.high + 1 - x.low
unfolding within
no_more x n e h = grind arith

module _ (op : ℕ → ℕ → ℕ) (j : Joins op) where
  -- the fold of two joined functions
  up_to_both : (n : ℕ) (f g : ℕ → ℕ) → up_to op n (λ v. op (f v) (g v)) ≡ op (up_to op n f) (up_to op n g)
  up_to_both zero f g = refl
  up_to_both (suc n) f g = ap (λ x. op x (op (f (suc n)) (g (suc n)))) (up_to_both n f g) ∙ j.middle _ _ _ _

  over_both : (ts : List ℕ) (f g : List ℕ → ℕ) → over_sheets op ts (λ s. op (f s) (g s)) ≡ op (over_sheets op ts f) (over_sheets op ts g)
  over_both [] f g = refl
  over_both (t ∷ ts) f g = up_to_cong op t _ _ (λ v. over_both ts (λ s. f (v ∷ s)) (λ s. g (v ∷ s))) ∙ up_to_both t _ _

  up_to_none : (n : ℕ) → up_to op n (λ v. 0) ≡ 0
  up_to_none zero = refl
  up_to_none (suc n) = ap (λ x. op x 0) (up_to_none n) ∙ j.none_left 0

  over_none : (ts : List ℕ) → over_sheets op ts (λ s. 0) ≡ 0
  over_none [] = refl
  over_none (t ∷ ts) = up_to_cong op t _ _ (λ v. over_none ts) ∙ up_to_none t

  -- one side: as many copies as it has values up to n
  side_step : (x : Side) (n c : ℕ) (b : Bool) → within x (suc n) ≡ b → x.low ≤ x.high → up_to op n (λ v. cond (within x v) c 0) ≡ copies op (min n x.high + 1 - x.low) c →
      op (up_to op n (λ v. cond (within x v) c 0)) (cond b c 0) ≡ copies op (min (suc n) x.high + 1 - x.low) c
  unfolding copies
  side_step x n c true e h ih = ap (λ z. op z c) ih ∙ ap (λ z. copies op z c) (sym (one_more x n e h))
  side_step x n c false e h ih = j.none_right _ ∙ ih ∙ ap (λ z. copies op z c) (sym (no_more x n e h))

  side_first : (x : Side) (c : ℕ) (b : Bool) → within x 0 ≡ b → x.low ≤ x.high → cond b c 0 ≡ copies op (min 0 x.high + 1 - x.low) c
  unfolding copies within
  side_first x c true e h = let z : x.low ≡ 0 = grind arith in let w : min 0 x.high + 1 - x.low ≡ suc 0 = omega arith in sym (ap (λ z. copies op z c) w ∙ j.none_left c)
  side_first x c false e h = let z : 0 < x.low = grind arith in let w : min 0 x.high + 1 - x.low ≡ 0 = omega arith in sym (ap (λ z. copies op z c) w)

  side_upto : (x : Side) (n c : ℕ) → x.low ≤ x.high → up_to op n (λ v. cond (within x v) c 0) ≡ copies op (min n x.high + 1 - x.low) c
  side_upto x zero c h = side_first x c (within x 0) refl h
  side_upto x (suc n) c h = side_step x n c (within x (suc n)) refl h (side_upto x n c h)

  row : (xs : List Side) (ts : List ℕ) (c : ℕ) (b : Bool) → over_sheets op ts (λ s. cond (inside xs s) c 0) ≡ boxed op xs c →
      over_sheets op ts (λ s. cond (b && inside xs s) c 0) ≡ cond b (boxed op xs c) 0
  row xs ts c true ih = ih
  row xs ts c false ih = over_none ts

  -- the fold over the sheets of a box
  box_fold : (xs : List Side) (ts : List ℕ) (c : ℕ) → fits ts xs ≡ true → over_sheets op ts (λ s. cond (inside xs s) c 0) ≡ boxed op xs c
  unfolding boxed inside width fits
  box_fold [] [] c h = refl
  box_fold [] (t ∷ ts) c h = never h
  box_fold (x ∷ xs) [] c h = never h
  box_fold (x ∷ xs) (t ∷ ts) c h =
      let p = fitting ts t x xs h in
      let u = p.under in
      let w : min t x.high + 1 - x.low ≡ x.high + 1 - x.low = omega arith in
      up_to_cong op t _ _ (λ v. row xs ts c (within x v) (box_fold xs ts c p.rest))
      ∙ side_upto x t (boxed op xs c) p.order ∙ ap (λ z. copies op z (boxed op xs c)) w

  -- the fold over all sheets of what they get from the boxes that they lie in
  pub boxes_fold : (c : WeightedBox → ℕ) (bs : List WeightedBox) (ts : List ℕ) → fit_all ts bs ≡ true →
      over_sheets op ts (λ s. over_boxes op (λ b. cond (inside b.sides s) (c b) 0) bs) ≡ over_boxes op (λ b. boxed op b.sides (c b)) bs
  unfolding over_boxes
  boxes_fold c [] ts h = over_none ts
  boxes_fold c (b ∷ bs) ts h =
      let f = fit ts b bs h in
      over_both ts (λ s. cond (inside b.sides s) (c b) 0) (λ s. over_boxes op (λ b. cond (inside b.sides s) (c b) 0) bs)
      ∙ ap (λ z. op z (over_sheets op ts (λ s. over_boxes op (λ b. cond (inside b.sides s) (c b) 0) bs))) (box_fold b.sides ts (c b) f.here)
      ∙ ap (λ z. op (boxed op b.sides (c b)) z) (boxes_fold c bs ts f.rest)

copies_plus : (n c : ℕ) → copies plus n c ≡ n * c
unfolding copies
copies_plus zero c = sym (zero-mul c)
copies_plus (suc n) c = let a = copies_plus n c in let e = add-mul n 1 c in let o = one-mul c in rw (← add-one n) (omega arith)

copies_max : (n c : ℕ) → copies max (suc n) c ≡ c
unfolding copies
copies_max zero c = omega arith
copies_max (suc n) c = let a = copies_max n c in omega (arith, a)

pub boxed_plus : (xs : List Side) (c : ℕ) → boxed plus xs c ≡ volume xs * c
unfolding boxed volume
boxed_plus [] c = sym (one-mul c)
boxed_plus (x ∷ xs) c = copies_plus (width x) _ ∙ ap (λ z. width x * z) (boxed_plus xs c) ∙ sym (mul_assoc (width x) (volume xs) c)

pub boxed_max : (xs : List Side) (ts : List ℕ) (c : ℕ) → fits ts xs ≡ true → boxed max xs c ≡ c
unfolding boxed width fits
boxed_max [] ts c h = refl
boxed_max (x ∷ xs) [] c h = never h
boxed_max (x ∷ xs) (t ∷ ts) c h =
    let p = fitting ts t x xs h in
    let o = p.order in
    let w : x.high + 1 - x.low ≡ suc (x.high - x.low) = omega arith in
    ap (λ z. copies max z (boxed max xs c)) w ∙ copies_max _ _ ∙ boxed_max xs ts c p.rest

-- two folds over the same boxes
pub boxes_cong : (op : ℕ → ℕ → ℕ) (f g : WeightedBox → ℕ) → ((b : WeightedBox) → f b ≡ g b) → (bs : List WeightedBox) → over_boxes op f bs ≡ over_boxes op g bs
unfolding over_boxes
boxes_cong op f g h [] = refl
boxes_cong op f g h (b ∷ bs) = let a = h b in let r = boxes_cong op f g h bs in cc

pub fitting_cong : (op : ℕ → ℕ → ℕ) (f g : WeightedBox → ℕ) (ts : List ℕ) → ((b : WeightedBox) → fits ts b.sides ≡ true → f b ≡ g b) → (bs : List WeightedBox) → fit_all ts bs ≡ true → over_boxes op f bs ≡ over_boxes op g bs
unfolding over_boxes
fitting_cong op f g ts h [] k = refl
fitting_cong op f g ts h (b ∷ bs) k = let p = fit ts b bs k in let a = h b p.here in let r = fitting_cong op f g ts h bs p.rest in cc
