-- The folds of a pair from those of its sides.
use Rattle.std.specs.Prelude.{◌≡◌, ℕ, ◌+◌, ◌*◌, ◌^◌, ◌≤◌, max, Bool, true, false, cond, ◌&&◌, nat_le, List, ◌==◌}
use Rattle.std.proofs.Math.Path.{refl, ap}
use Rattle.std.proofs.Common.{sym, ◌∙◌, arith, zero-mul, mul-zero, mul-le-mul, leb-true, le-leb, leb-false, eqb-true}
use Rattle.question.specs.Questions.{answers, in_span, reads_in}
use Rattle.question.proofs.Questions.{and_left, and_right, answers_span}
use Rattle.belief.specs.Sheets.{over_sheets, plus, both}
use Rattle.belief.specs.Joined.{joined}
use Rattle.belief.specs.Meaning.{Meaning, Laws, kept, total_of, peak_of, whole_of, mass_of, heaviest_of}
use Rattle.belief.proofs.Sums.{over_cong, mass_total, heaviest_mass, peak_total}
use Rattle.belief.proofs.Products.{product, Scales, plus_scales, max_scales, both_scales, times, Local}
use Rattle.pair.specs.Pairs.{paired, sides, light, within}

-- what a sound pair has
pub record Parts (l r : Meaning) : Type 0 where
  pub left : l.sound ≡ true
  pub right : r.sound ≡ true
  pub lawful_left : Laws l
  pub lawful_right : Laws r
  pub meets : r.first ≡ l.first + l.count
  pub small : total_of l * total_of r ≤ 2 ^ 40

pub parts : (l r : Meaning) → (l.sound ≡ true → Laws l) → (r.sound ≡ true → Laws r) → (paired l r).sound ≡ true → Parts l r
parts l r ll rl e =
    let a = and_left (sides l r) (light l r) e in
    let b = and_left (l.sound && r.sound) (r.first == l.first + l.count) a in
    let sl = and_left l.sound r.sound b in
    let sr = and_right l.sound r.sound b in
    record {
      left = sl;
      right = sr;
      lawful_left = ll sl;
      lawful_right = rl sr;
      meets = eqb-true _ _ (and_right (l.sound && r.sound) (r.first == l.first + l.count) a);
      small = leb-true _ _ (and_right (sides l r) (light l r) e);
    }

pub apart : (f c g d k : ℕ) → g ≡ f + c → in_span f c k ≡ true → in_span g d k ≡ false
unfolding in_span
apart f c g d k e h = grind arith

cond_left : (b : Bool) (x y : ℕ) → cond b (x * y) 0 ≡ cond b x 0 * y
cond_left true x y = refl
cond_left false x y = sym (zero-mul y)

cond_right : (b : Bool) (x y : ℕ) → cond b (x * y) 0 ≡ x * cond b y 0
cond_right true x y = refl
cond_right false x y = sym (mul-zero x)

pub kept_left : (q : List ℕ) (a : ℕ) (u w : List ℕ → ℕ) (s : List ℕ) → kept q a (λ t. u t * w t) s ≡ kept q a u s * w s
unfolding kept
kept_left q a u w s = cond_left (answers q s == a) (u s) (w s)

pub kept_right : (q : List ℕ) (a : ℕ) (u w : List ℕ → ℕ) (s : List ℕ) → kept q a (λ t. u t * w t) s ≡ u s * kept q a w s
unfolding kept
kept_right q a u w s = cond_right (answers q s == a) (u s) (w s)

kept_local : (f c : ℕ) (q : List ℕ) (a : ℕ) (w : List ℕ → ℕ) → reads_in f c q ≡ true → Local (in_span f c) w → Local (in_span f c) (kept q a w)
unfolding kept
kept_local f c q a w e lw s t h =
    let k : answers q s ≡ answers q t = answers_span f c q s t e h in
    let v : w s ≡ w t = lw s t h in
    simp (k, v)

leb_product : (x y : ℕ) (b c : Bool) → nat_le 1 x ≡ b → nat_le 1 y ≡ c → nat_le 1 (x * y) ≡ both (nat_le 1 x) (nat_le 1 y)
leb_product x y true true e h =
    let a = leb-true 1 x e in let b = leb-true 1 y h in
    let k : 1 * 1 ≤ x * y = mul-le-mul {n₁ = 1} {m₁ = 1} {n₂ = x} {m₂ = y} a b in
    le-leb 1 (x * y) (omega arith) ∙ simp (e, h)
leb_product x y true false e h =
    let b = leb-false 1 y h in let z : y ≡ 0 = omega arith in
    ap (λ t. nat_le 1 (x * t)) z ∙ ap (nat_le 1) (mul-zero x) ∙ simp (e, h)
leb_product x y false c e h =
    let b = leb-false 1 x e in let z : x ≡ 0 = omega arith in
    ap (λ t. nat_le 1 (t * y)) z ∙ ap (nat_le 1) (zero-mul y) ∙ simp e

-- a fold over the sheets of a pair
module _ (l r : Meaning) (p : Parts l r) where
  fold_pair : {A : Type 0} (op mul : A → A → A) → Scales op mul → (f g : List ℕ → A) → Local (in_span l.first l.count) f → Local (in_span r.first r.count) g →
      over_sheets op (joined l.tops r.tops) (λ s. mul (f s) (g s)) ≡ mul (over_sheets op l.tops f) (over_sheets op r.tops g)
  fold_pair op mul d f g lf lg = product op mul d l.tops r.tops (in_span l.first l.count) (in_span r.first r.count) f g
      (p.lawful_left.four ∙ sym p.lawful_right.four) lf lg (λ k. apart _ _ _ _ k p.meets) p.lawful_left.outside p.lawful_right.outside

  pub pair_total : total_of (paired l r) ≡ total_of l * total_of r
  unfolding total_of
  pair_total = fold_pair plus times plus_scales l.weight r.weight p.lawful_left.local p.lawful_right.local

  pub pair_peak : peak_of (paired l r) ≡ peak_of l * peak_of r
  unfolding peak_of
  pair_peak = fold_pair max times max_scales l.weight r.weight p.lawful_left.local p.lawful_right.local

  pub pair_whole : whole_of (paired l r) ≡ both (whole_of l) (whole_of r)
  unfolding whole_of
  pair_whole = over_cong both (joined l.tops r.tops) _ _ (λ s. leb_product (l.weight s) (r.weight s) _ _ refl refl)
      ∙ fold_pair both both both_scales (λ s. nat_le 1 (l.weight s)) (λ s. nat_le 1 (r.weight s)) (λ s t h. ap (nat_le 1) (p.lawful_left.local s t h)) (λ s t h. ap (nat_le 1) (p.lawful_right.local s t h))

  module _ (q : List ℕ) (a : ℕ) where
    pub mass_left : within l q ≡ true → mass_of (paired l r) q a ≡ mass_of l q a * total_of r
    unfolding total_of mass_of
    mass_left e = over_cong plus (joined l.tops r.tops) _ _ (kept_left q a l.weight r.weight)
        ∙ fold_pair plus times plus_scales (kept q a l.weight) r.weight (kept_local _ _ q a _ e p.lawful_left.local) p.lawful_right.local

    pub mass_right : within r q ≡ true → mass_of (paired l r) q a ≡ total_of l * mass_of r q a
    unfolding total_of mass_of
    mass_right e = over_cong plus (joined l.tops r.tops) _ _ (kept_right q a l.weight r.weight)
        ∙ fold_pair plus times plus_scales l.weight (kept q a r.weight) p.lawful_left.local (kept_local _ _ q a _ e p.lawful_right.local)

    pub heaviest_left : within l q ≡ true → heaviest_of (paired l r) q a ≡ heaviest_of l q a * peak_of r
    unfolding peak_of heaviest_of
    heaviest_left e = over_cong max (joined l.tops r.tops) _ _ (kept_left q a l.weight r.weight)
        ∙ fold_pair max times max_scales (kept q a l.weight) r.weight (kept_local _ _ q a _ e p.lawful_left.local) p.lawful_right.local

    pub heaviest_right : within r q ≡ true → heaviest_of (paired l r) q a ≡ peak_of l * heaviest_of r q a
    unfolding peak_of heaviest_of
    heaviest_right e = over_cong max (joined l.tops r.tops) _ _ (kept_right q a l.weight r.weight)
        ∙ fold_pair max times max_scales l.weight (kept q a r.weight) p.lawful_left.local (kept_local _ _ q a _ e p.lawful_right.local)

  -- none of them passes the limit of the total
  pub total_most : total_of (paired l r) ≤ 2 ^ 40
  total_most = let t = pair_total in let k = p.small in omega arith

  pub peak_most : peak_of (paired l r) ≤ 2 ^ 40
  peak_most = let t = total_most in let k = peak_total (paired l r) in omega arith

  pub mass_most : (q : List ℕ) (a : ℕ) → mass_of (paired l r) q a ≤ 2 ^ 40
  mass_most q a = let t = total_most in let k = mass_total (paired l r) q a in omega arith

  pub heaviest_most : (q : List ℕ) (a : ℕ) → heaviest_of (paired l r) q a ≤ 2 ^ 40
  heaviest_most q a = let t = mass_most q a in let k = heaviest_mass (paired l r) q a in omega arith
