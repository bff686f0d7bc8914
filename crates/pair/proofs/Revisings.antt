-- Revising a side revises the pair.
use Rattle.std.proofs.Common.{◌≡◌, ℕ, ◌*◌, ◌≤◌, Bool, true, false, ◌&&◌, eqb, nat_le, List, [], ◌∷◌, Ok, Err, Result, sym, refl, ap, ◌∙◌, mul-le-mul_right, mul_comm, mul-le-mul, zero-mul, arith, ne_eqb, eqb-true, le-leb, leb-true}
use borrow.Author.Tests.{eqb-false}
use Rattle.refusal.specs.declared.list.Refusal.{Refusal}
use Rattle.refusal.specs.Replies.{Reply}
use Rattle.belief.specs.Meaning.{Meaning, Asked, total_of, mass_of, revised}
use Rattle.belief.specs.Calls.{revising, leaving}
use Rattle.belief.proofs.Sums.{mass_total}
use Rattle.belief.proofs.Revisings.{ext, same}
use Rattle.belief.proofs.Replies.{revising_map}
use Rattle.pair.specs.Pairs.{paired, pair_carries, within}
use Rattle.pair.specs.Folds.{Parts, kept_left, kept_right, mass_left, mass_right}

-- which side carries
pub by_left : (l r : Meaning) (q : List ℕ) → within l q ≡ true → (paired l r).carries [] q ≡ l.carries [] q
by_left l r q e = simp e

pub by_right : (l r : Meaning) (q : List ℕ) → within l q ≡ false → within r q ≡ true → (paired l r).carries [] q ≡ r.carries [] q
by_right l r q e h = simp (e, h)

carries_left : (l r : Meaning) (q : List ℕ) (a : ℕ) (h : List Asked) (p : List ℕ) → within l q ≡ true →
    pair_carries (revised l q a) r h p ≡ pair_carries l r (record { question = q; answer = a } ∷ h) p
unfolding revised
carries_left l r q a h p e = simp e

carries_right : (l r : Meaning) (q : List ℕ) (a : ℕ) (h : List Asked) (p : List ℕ) → within l q ≡ false → within r q ≡ true →
    pair_carries l (revised r q a) h p ≡ pair_carries l r (record { question = q; answer = a } ∷ h) p
unfolding revised
carries_right l r q a h p e f = simp (e, f)

total_falls : (m : Meaning) (q : List ℕ) (a : ℕ) → total_of (revised m q a) ≤ total_of m
unfolding total_of revised mass_of
total_falls m q a = mass_total m q a

and_leb : (b : Bool) (x y n : ℕ) → x ≤ y → (b && nat_le y n) ≡ true → (b && nat_le x n) ≡ (b && nat_le y n)
and_leb true x y n h e = let k : y ≤ n = leb-true y n e in le-leb x n (omega arith) ∙ sym e
and_leb false x y n h e = refl

still_left : (l r : Meaning) (q : List ℕ) (a : ℕ) → (paired l r).sound ≡ true → (paired (revised l q a) r).sound ≡ (paired l r).sound
unfolding revised
still_left l r q a e = let h = mul-le-mul_right (total_of r) (total_falls l q a) in and_leb _ _ _ _ h e

still_right : (l r : Meaning) (q : List ℕ) (a : ℕ) → (paired l r).sound ≡ true → (paired l (revised r q a)).sound ≡ (paired l r).sound
unfolding revised
still_right l r q a e =
    let h : total_of l * total_of (revised r q a) ≤ total_of l * total_of r = mul-le-mul {n₁ = total_of l} {m₁ = total_of (revised r q a)} {n₂ = total_of l} {m₂ = total_of r} (omega arith) (total_falls r q a) in
    and_leb _ _ _ _ h e

pub revised_left : (l r : Meaning) (q : List ℕ) (a : ℕ) → (paired l r).sound ≡ true → within l q ≡ true → paired (revised l q a) r ≡ revised (paired l r) q a
unfolding revised
revised_left l r q a e h =
    same _ _ refl refl refl (ext (λ s. sym (kept_left q a l.weight r.weight s))) (ext (λ p. ext (λ t. carries_left l r q a p t h))) (still_left l r q a e)

pub revised_right : (l r : Meaning) (q : List ℕ) (a : ℕ) → (paired l r).sound ≡ true → within l q ≡ false → within r q ≡ true → paired l (revised r q a) ≡ revised (paired l r) q a
unfolding revised
revised_right l r q a e h k =
    same _ _ refl refl refl (ext (λ s. sym (kept_right q a l.weight r.weight s))) (ext (λ p. ext (λ t. carries_right l r q a p t h k))) (still_right l r q a e)

pub leaves_left : (l r n : Meaning) (q : List ℕ) (a : ℕ) → (paired l r).sound ≡ true → within l q ≡ true → (o : Result (Unit {0}) Refusal) →
    n ≡ leaving o l q a → paired n r ≡ leaving o (paired l r) q a
leaves_left l r n q a e h (Ok u) x = ap (λ z. paired z r) x ∙ revised_left l r q a e h
leaves_left l r n q a e h (Err y) x = ap (λ z. paired z r) x

pub leaves_right : (l r n : Meaning) (q : List ℕ) (a : ℕ) → (paired l r).sound ≡ true → within l q ≡ false → within r q ≡ true → (o : Result (Unit {0}) Refusal) →
    n ≡ leaving o r q a → paired l n ≡ leaving o (paired l r) q a
leaves_right l r n q a e h k (Ok u) x = ap (λ z. paired l z) x ∙ revised_right l r q a e h k
leaves_right l r n q a e h k (Err y) x = ap (λ z. paired l z) x

times_zero : (x y : ℕ) → 1 ≤ y → (b : Bool) → eqb x 0 ≡ b → eqb (x * y) 0 ≡ eqb x 0
times_zero x y h true is = ap (λ z. eqb z 0) (ap (λ z. z * y) (eqb-true x 0 is) ∙ zero-mul y) ∙ sym is
times_zero x y h false is =
    let d = eqb-false x 0 is in
    let k : 1 * 1 ≤ x * y = mul-le-mul {n₁ = 1} {m₁ = 1} {n₂ = x} {m₂ = y} (omega arith) h in
    ne_eqb (x * y) 0 (omega arith) ∙ sym is

module _ (l r : Meaning) (p : Parts l r) (q : List ℕ) (a : ℕ) where
  pub revising_left : (x : Reply (Unit {0})) → within l q ≡ true → x ≡ revising l q a → x ≡ revising (paired l r) q a
  revising_left x e k =
      k ∙ revising_map l (paired l r) q a (by_left l r q e) (ap (λ z. eqb z 0) (mass_left l r p q a e) ∙ times_zero (mass_of l q a) (total_of r) p.lawful_right.least _ refl)

  pub revising_right : (x : Reply (Unit {0})) → within l q ≡ false → within r q ≡ true → x ≡ revising r q a → x ≡ revising (paired l r) q a
  revising_right x e h k =
      k ∙ revising_map r (paired l r) q a (by_right l r q e h)
      (ap (λ z. eqb z 0) (mass_right l r p q a h ∙ mul_comm (total_of l) (mass_of r q a)) ∙ times_zero (mass_of r q a) (total_of l) p.lawful_left.least _ refl)
