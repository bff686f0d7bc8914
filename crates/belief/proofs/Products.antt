-- A fold over all sheets of a product is the product of the folds.
use Rattle.std.proofs.Common.{◌≡◌, ℕ, zero, suc, ◌+◌, ◌*◌, ◌≤◌, max, Bool, true, false, nat_le, List, [], ◌∷◌, length, get_or, sym, refl, ap, ◌∙◌, mul-le-mul_right, mul_comm, add-mul, arith, leb-false, leb-true}
use Rattle.question.proofs.Questions.{impossible}
use Rattle.belief.specs.Sheets.{up_to, over_sheets, plus, both}
use Rattle.belief.specs.Joined.{joined}
use Rattle.belief.proofs.Sums.{up_to_cong, over_cong}

-- op distributes over a factor, on the right and on the left
pub record Scales {A : Type 0} (op mul : A → A → A) : Type 0 where
  pub right : (a b c : A) → op (mul a c) (mul b c) ≡ mul (op a b) c
  pub left : (a b c : A) → op (mul c a) (mul c b) ≡ mul c (op a b)

-- f looks only at the fields that own names
abbrev pub Local : {A : Type 0} → (ℕ → Bool) → (List ℕ → A) → Type 0
Local own f = (s t : List ℕ) → ((k : ℕ) → own k ≡ true → get_or s k 0 ≡ get_or t k 0) → f s ≡ f t

agree : (own : ℕ → Bool) (v : ℕ) (s t : List ℕ) → ((k : ℕ) → own (suc k) ≡ true → get_or s k 0 ≡ get_or t k 0) → (k : ℕ) → own k ≡ true → get_or (v ∷ s) k 0 ≡ get_or (v ∷ t) k 0
agree own v s t h zero e = refl
agree own v s t h (suc k) e = h k e

head_agree : (own : ℕ → Bool) → own 0 ≡ false → (v w : ℕ) (s : List ℕ) (k : ℕ) → own k ≡ true → get_or (v ∷ s) k 0 ≡ get_or (w ∷ s) k 0
head_agree own n v w s zero e = impossible (own 0) n e
head_agree own n v w s (suc k) e = refl

module _ {A : Type 0} where
  tail_local : (own : ℕ → Bool) (f : List ℕ → A) → Local own f → (v : ℕ) → Local (λ k. own (suc k)) (λ s. f (v ∷ s))
  tail_local own f l v s t h = l (v ∷ s) (v ∷ t) (agree own v s t h)

  head_free : (own : ℕ → Bool) (f : List ℕ → A) → Local own f → own 0 ≡ false → (v w : ℕ) (s : List ℕ) → f (v ∷ s) ≡ f (w ∷ s)
  head_free own f l n v w s = l (v ∷ s) (w ∷ s) (head_agree own n v w s)

module _ {A : Type 0} (op mul : A → A → A) (d : Scales op mul) where
  up_to_right : (n : ℕ) (f : ℕ → A) (c : A) → up_to op n (λ v. mul (f v) c) ≡ mul (up_to op n f) c
  up_to_right zero f c = refl
  up_to_right (suc n) f c = ap (λ x. op x (mul (f (suc n)) c)) (up_to_right n f c) ∙ d.right _ _ c

  up_to_left : (n : ℕ) (f : ℕ → A) (c : A) → up_to op n (λ v. mul c (f v)) ≡ mul c (up_to op n f)
  up_to_left zero f c = refl
  up_to_left (suc n) f c = ap (λ x. op x (mul c (f (suc n)))) (up_to_left n f c) ∙ d.left _ _ c

  -- one field more, which one side owns
  one_more : (x y : ℕ) (tl tr : List ℕ) (own other : ℕ → Bool) (f g : List ℕ → A) → Local own f → Local other g →
      ((v : ℕ) → over_sheets op (joined tl tr) (λ s. mul (f (v ∷ s)) (g (v ∷ s))) ≡ mul (over_sheets op tl (λ s. f (v ∷ s))) (over_sheets op tr (λ s. g (v ∷ s)))) →
      (own 0 ≡ true → other 0 ≡ false) → (own 0 ≡ false → x ≡ 0) → (other 0 ≡ false → y ≡ 0) →
      (b : Bool) → own 0 ≡ b →
      over_sheets op (joined (x ∷ tl) (y ∷ tr)) (λ s. mul (f s) (g s)) ≡ mul (over_sheets op (x ∷ tl) f) (over_sheets op (y ∷ tr) g)
  one_more x y tl tr own other f g lf lg ih o zl zr true is =
      let y0 : y ≡ 0 = zr (o is) in
      let xy : x + y ≡ x = omega arith in
      let step : (v : ℕ) → over_sheets op (joined tl tr) (λ s. mul (f (v ∷ s)) (g (v ∷ s))) ≡ mul (over_sheets op tl (λ s. f (v ∷ s))) (over_sheets op tr (λ s. g (0 ∷ s)))
      = λ v. ih v ∙ ap (λ z. mul (over_sheets op tl (λ s. f (v ∷ s))) z) (over_cong op tr _ _ (λ s. head_free other g lg (o is) v 0 s)) in
      ap (λ n. up_to op n (λ v. over_sheets op (joined tl tr) (λ s. mul (f (v ∷ s)) (g (v ∷ s))))) xy
      ∙ up_to_cong op x _ _ step
      ∙ up_to_right x (λ v. over_sheets op tl (λ s. f (v ∷ s))) (over_sheets op tr (λ s. g (0 ∷ s)))
      ∙ ap (λ n. mul (up_to op x (λ v. over_sheets op tl (λ s. f (v ∷ s)))) (up_to op n (λ v. over_sheets op tr (λ s. g (v ∷ s))))) (sym y0)
  one_more x y tl tr own other f g lf lg ih o zl zr false is =
      let x0 : x ≡ 0 = zl is in
      let xy : x + y ≡ y = omega arith in
      let step : (v : ℕ) → over_sheets op (joined tl tr) (λ s. mul (f (v ∷ s)) (g (v ∷ s))) ≡ mul (over_sheets op tl (λ s. f (0 ∷ s))) (over_sheets op tr (λ s. g (v ∷ s)))
      = λ v. ih v ∙ ap (λ z. mul z (over_sheets op tr (λ s. g (v ∷ s)))) (over_cong op tl _ _ (λ s. head_free own f lf is v 0 s)) in
      ap (λ n. up_to op n (λ v. over_sheets op (joined tl tr) (λ s. mul (f (v ∷ s)) (g (v ∷ s))))) xy
      ∙ up_to_cong op y _ _ step
      ∙ up_to_left y (λ v. over_sheets op tr (λ s. g (v ∷ s))) (over_sheets op tl (λ s. f (0 ∷ s)))
      ∙ ap (λ n. mul (up_to op n (λ v. over_sheets op tl (λ s. f (v ∷ s)))) (up_to op y (λ v. over_sheets op tr (λ s. g (v ∷ s))))) (sym x0)

  pub product : (tl tr : List ℕ) (own : ℕ → Bool) (other : ℕ → Bool) (f g : List ℕ → A) → length tl ≡ length tr → Local own f → Local other g →
      ((k : ℕ) → own k ≡ true → other k ≡ false) →
      ((k : ℕ) → own k ≡ false → get_or tl k 0 ≡ 0) → ((k : ℕ) → other k ≡ false → get_or tr k 0 ≡ 0) →
      over_sheets op (joined tl tr) (λ s. mul (f s) (g s)) ≡ mul (over_sheets op tl f) (over_sheets op tr g)
  product [] [] own other f g e lf lg o zl zr = refl
  product [] (y ∷ tr) own other f g e lf lg o zl zr = let z : ⊥ = omega arith in elim z [ ]
  product (x ∷ tl) [] own other f g e lf lg o zl zr = let z : ⊥ = omega arith in elim z [ ]
  product (x ∷ tl) (y ∷ tr) own other f g e lf lg o zl zr =
      one_more x y tl tr own other f g lf lg
      (λ v. product tl tr (λ k. own (suc k)) (λ k. other (suc k)) (λ s. f (v ∷ s)) (λ s. g (v ∷ s)) (omega arith) (tail_local own f lf v) (tail_local other g lg v) (λ k. o (suc k)) (λ k. zl (suc k)) (λ k. zr (suc k)))
      (o 0) (zl 0) (zr 0) (own 0) refl

abbrev pub times : ℕ → ℕ → ℕ
times a b = a * b

pub plus_scales : Scales plus times
plus_scales = record { right = λ a b c. sym (add-mul a b c); left = λ a b c. ap (λ z. z + c * b) (mul_comm c a) ∙ ap (λ z. a * c + z) (mul_comm c b) ∙ sym (add-mul a b c) ∙ mul_comm (a + b) c }

max_times : (a b c : ℕ) (t : Bool) → nat_le a b ≡ t → max (a * c) (b * c) ≡ max a b * c
max_times a b c true e =
    let h = leb-true a b e in let k : a * c ≤ b * c = mul-le-mul_right c h in
    let x : max a b ≡ b = omega arith in rw x (omega arith)
max_times a b c false e =
    let h = leb-false a b e in let k : b * c ≤ a * c = mul-le-mul_right {m = b} {n = a} c (omega arith) in
    let x : max a b ≡ a = omega arith in rw x (omega arith)

pub max_scales : Scales max times
max_scales = record {
  right = λ a b c. max_times a b c (nat_le a b) refl;
  left = λ a b c. ap (λ z. max z (c * b)) (mul_comm c a) ∙ ap (λ z. max (a * c) z) (mul_comm c b) ∙ max_times a b c (nat_le a b) refl ∙ mul_comm (max a b) c;
}

both_right : (a b c : Bool) → both (both a c) (both b c) ≡ both (both a b) c
both_right true true true = refl
both_right true true false = refl
both_right true false true = refl
both_right true false false = refl
both_right false b c = refl

both_left : (a b c : Bool) → both (both c a) (both c b) ≡ both c (both a b)
both_left a b true = refl
both_left a b false = refl

pub both_scales : Scales both both
both_scales = record { right = both_right; left = both_left }
