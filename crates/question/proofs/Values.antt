-- No value passes its bound, and within the limit a number fits 64 bits.
use Rattle.std.proofs.Common.{◌≡◌, ℕ, zero, suc, ◌+◌, ◌*◌, ◌≤◌, max, Bool, true, false, cond, not, ◌&&◌, ◌||◌, eqb, List, get_or, ℤ, pos, negsuc, ◌+ℤ◌, ◌-ℤ◌, ◌*ℤ◌, neg_ℤ, nat_abs, sym, refl, ap, ◌∙◌, subst, mul-le-mul, arith, w64, SFits, to_z, of_z}
use Rattle.std.proofs.lemmas.Int.{ints, to_z-of_z}
use Rattle.std.specs.Int.{from_bool}
use lib.Signed.{lt_z}
use Rattle.question.specs.Expressions.{limit, Op, plus, minus, times, less, equal, and, or, index, Expression, field, number, two, nought, choose, truth, is_zero, same, applied, worth, bound}
use Rattle.std.proofs.lemmas.Bool.Decides.{nat_tests}
use Rattle.question.specs.Reading.{command, a_field, a_number, a_two, a_nought, a_choose}
use Rattle.question.specs.Fronts.{Small, Begins, Each, Worth}
use Rattle.question.proofs.Operands.{head, tail, tail2, tail3, tail_tail, tail2_tail, tail_at, each_field, each_number, each_one, each_two, each_three}

abs_plus : (x y : ℤ) → nat_abs (x +ℤ y) ≤ nat_abs x + nat_abs y
abs_plus x y = omega (arith, ints)

abs_minus : (x y : ℤ) → nat_abs (x -ℤ y) ≤ nat_abs x + nat_abs y
abs_minus x y = omega (arith, ints)

abs_neg : (n : ℕ) → nat_abs (neg_ℤ (pos n)) ≡ n
abs_neg zero = refl
abs_neg (suc n) = refl

pub abs_times : (x y : ℤ) → nat_abs (x *ℤ y) ≤ nat_abs x * nat_abs y
abs_times (pos x) (pos y) = omega arith
abs_times (pos x) (negsuc y) = omega (arith, abs_neg (x * suc y))
abs_times (negsuc x) (pos y) = omega (arith, abs_neg (suc x * y))
abs_times (negsuc x) (negsuc y) = omega arith

abs_truth : (b : Bool) → nat_abs (truth b) ≤ 1
abs_truth true = omega arith
abs_truth false = omega arith

abs_choose : (b : Bool) (x y : ℤ) (m n : ℕ) → nat_abs x ≤ m → nat_abs y ≤ n → nat_abs (cond b y x) ≤ max m n
abs_choose true x y m n h k = omega arith
abs_choose false x y m n h k = omega arith

pub within : (t : Expression) (s : List ℕ) → ((k : ℕ) → get_or s k 0 ≤ 255) → nat_abs (worth t s) ≤ bound t
within (field k) s h = h (index k)
within (number hi lo) s h = omega arith
within (two plus a b) s h = omega (arith, abs_plus (worth a s) (worth b s), within a s h, within b s h)
within (two minus a b) s h = omega (arith, abs_minus (worth a s) (worth b s), within a s h, within b s h)
within (two times a b) s h = omega (arith, abs_times (worth a s) (worth b s), mul-le-mul (within a s h) (within b s h))
within (two less a b) s h = abs_truth (lt_z (worth a s) (worth b s))
within (two equal a b) s h = abs_truth (same (worth a s) (worth b s))
within (two and a b) s h = abs_truth (not (is_zero (worth a s)) && not (is_zero (worth b s)))
within (two or a b) s h = abs_truth (not (is_zero (worth a s)) || not (is_zero (worth b s)))
within (nought a) s h = abs_truth (is_zero (worth a s))
within (choose a b c) s h = abs_choose (is_zero (worth a s)) (worth b s) (worth c s) (bound b) (bound c) (within b s h) (within c s h)

pub small_bound : (t : Expression) → Small t → bound t ≤ limit
small_bound (field k) h = h
small_bound (number hi lo) h = h
small_bound (two o a b) h = h.2
small_bound (nought a) h = omega arith
small_bound (choose a b c) h = omega (arith, small_bound b h.1, small_bound c h.2)

pub fits64 : (z : ℤ) → nat_abs z ≤ limit * limit → SFits w64 z
fits64 z h = omega (arith, ints)

-- a number within the limit, which 64 bits hold as it is
pub record Ranged (x : ℤ) : Type 0 where
  pub within : nat_abs x ≤ limit
  pub exact : to_z w64 (of_z w64 x) ≡ x

-- so is the value of an expression that is small
pub ranged : (bs s : List ℕ) {x : ℤ} {next : List ℕ} → ((k : ℕ) → get_or s k 0 ≤ 255) → Begins Small bs → Each (Worth s x) bs next → Ranged x
ranged bs s {x} f r w =
    let h : nat_abs x ≤ limit = subst (λ v. nat_abs v ≤ limit) (sym (w.has r.tree r.rest r.is)) (omega (arith, within r.tree s f, small_bound r.tree r.has)) in
    record { within = h; exact = to_z-of_z w64 x (fits64 x (omega arith)) }

pub times_fits : (x y : ℤ) → nat_abs x ≤ limit → nat_abs y ≤ limit → SFits w64 (x *ℤ y)
times_fits x y h k = fits64 (x *ℤ y) (omega (arith, abs_times x y, mul-le-mul h k))

pub zero_bits : (x : ℤ) → nat_abs x ≤ limit → eqb (of_z w64 x) 0 ≡ is_zero x
zero_bits (pos a) h = refl
zero_bits (negsuc a) h = grind (arith, nat_tests)

-- a test as a number
pub truth_bit : (b : Bool) → pos (from_bool b) ≡ truth b
truth_bit true = refl
truth_bit false = refl

-- ---- the value of a command from those of its operands

pub field_worth : (bs s : List ℕ) → command (head bs) ≡ a_field → Each (Worth s (pos (get_or s (get_or bs 1 0) 0))) bs (tail2 bs)
field_worth bs s h =
    let P = Worth s (pos (get_or s (get_or bs 1 0) 0)) in
    subst (λ next. Each P bs next) (tail_tail bs) (each_field P bs h (λ k e. ap (λ i. pos (get_or s i 0)) (sym (e ∙ tail_at bs 0))))

pub number_worth : (bs s : List ℕ) → command (head bs) ≡ a_number → Each (Worth s (pos (get_or bs 1 0 * 256 + get_or bs 2 0))) bs (tail3 bs)
number_worth bs s h =
    let P = Worth s (pos (get_or bs 1 0 * 256 + get_or bs 2 0)) in
    let x = tail_at bs 0 in
    let y = tail_at bs 1 in
    subst (λ next. Each P bs next) (tail2_tail bs) (each_number P bs h (cc))

pub one_worth : (bs s : List ℕ) {x : ℤ} {r1 : List ℕ} → command (head bs) ≡ a_nought → Each (Worth s x) (tail bs) r1 → Each (Worth s (truth (is_zero x))) bs r1
one_worth bs s {x} h w = each_one (Worth s (truth (is_zero x))) bs h w (λ a p. ap (λ z. truth (is_zero z)) p)

pub two_worth : (o : Op) (bs s : List ℕ) {x y : ℤ} {r1 r2 : List ℕ} → command (head bs) ≡ a_two o → Each (Worth s x) (tail bs) r1 → Each (Worth s y) r1 r2 → Each (Worth s (applied o x y)) bs r2
two_worth o bs s {x} {y} h w v = each_two (Worth s (applied o x y)) o bs h w v (λ a b p q. ap (λ z. applied o z y) p ∙ ap (λ z. applied o (worth a s) z) q)

pub three_worth : (bs s : List ℕ) {x y z : ℤ} {r1 r2 r3 : List ℕ} → command (head bs) ≡ a_choose → Each (Worth s x) (tail bs) r1 → Each (Worth s y) r1 r2 → Each (Worth s z) r2 r3 → Each (Worth s (cond (is_zero x) z y)) bs r3
three_worth bs s {x} {y} {z} h w v u =
    each_three (Worth s (cond (is_zero x) z y)) bs h w v u (λ a b c p q r. ap (λ i. cond (is_zero i) z y) p ∙ (ap (λ i. cond (is_zero (worth a s)) z i) q ∙ ap (λ i. cond (is_zero (worth a s)) i (worth b s)) r))
