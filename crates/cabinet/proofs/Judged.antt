-- One answer more is judged.
use Rattle.std.proofs.Common.{◌≡◌, ℕ, zero, suc, ◌+◌, ◌≤◌, Bool, true, false, not, ◌&&◌, ◌||◌, eqb, ltb, List, [], refl, ◌∙◌, add-one, arith}
use Rattle.std.proofs.lemmas.Bool.Decides.{nat_tests}
use Rattle.refusal.specs.Replies.{Reply, given, declined, and_then, refuse_if}
use Rattle.question.specs.Expressions.{Expression}
use Rattle.question.specs.Reading.{reading}
use Rattle.belief.specs.Meaning.{Meaning, mass_of, heaviest_of}
use Rattle.belief.specs.Calls.{replied}
use Rattle.belief.proofs.Sums.{heaviest_mass}
use Rattle.history.specs.Judging.{some_below, exceeds, is_telling_at}

pub some_none : (p : ℕ → Bool) → false ≡ some_below 0 p
unfolding some_below
some_none p = refl

pub some_more : (p : ℕ → Bool) (k : ℕ) (f x : Bool) → f ≡ some_below k p → x ≡ p k → (f || x) ≡ some_below (k + 1) p
unfolding some_below
some_more p k f x e h = rw add-one (rw (e, h))

-- what was looked for among the numbers below a is there among those below a + 1
pub own_more : (p : ℕ → Bool) (x a : ℕ) (f v : Bool) → f ≡ (ltb x a && p x) → v ≡ p a → (f || (eqb a x && v)) ≡ (ltb x (a + 1) && p x)
own_more p x a f v e i = grind (arith, nat_tests)

-- a value that was given is the one that is owed
pub value_is : {V : Type 0} (m : Meaning) (q : List ℕ) (x v : V) → ◌≡◌ {A = Reply V} (given x) (replied m q v) → x ≡ v
value_is {V} m q x v e = go (reading q) (m.carries [] q) e
  where
    go : (o : Reply Expression) (b : Bool) → ◌≡◌ {A = Reply V} (given x) (and_then o (λ _. refuse_if (not b) 12 (given v))) → x ≡ v
    go (given t) true i = cc
    go (given t) false i = cc
    go (declined n p) b i = cc

-- the test of one answer, from its mass and its heaviest
pub telling_is : (m : Meaning) (q : List ℕ) (n d a x y : ℕ) (r : Bool) → r ≡ (ltb 0 x && exceeds n d y x) → x ≡ mass_of m q a → y ≡ heaviest_of m q a → r ≡ is_telling_at m q n d a
telling_is m q n d a x y r e f h = e ∙ rw (f, h)

-- the same without asking for mass: an answer without mass is not above any threshold
pub exceeds_is : (m : Meaning) (q : List ℕ) (n d a x y : ℕ) (r : Bool) → r ≡ exceeds n d y x → x ≡ mass_of m q a → y ≡ heaviest_of m q a → r ≡ is_telling_at m q n d a
exceeds_is m q n d a x y r e f h = telling_is m q n d a x y r (e ∙ rw (f, h) (by (mass_of m q a) (heaviest_of m q a) (heaviest_mass m q a))) f h
  where
    by : (mass most : ℕ) → most ≤ mass → exceeds n d most mass ≡ (ltb 0 mass && exceeds n d most mass)
    by zero most l = let z : most ≡ 0 = omega arith in rw z (grind (arith, nat_tests))
    by (suc mass) most l = grind (arith, nat_tests)

-- what was given is what was owed
pub given_is : {V : Type 0} (x v : V) → ◌≡◌ {A = Reply V} (given x) (given v) → x ≡ v
given_is x v e = cc
