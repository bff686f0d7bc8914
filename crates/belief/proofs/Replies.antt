-- Which reply a belief owes, from what its parts replied.
use Rattle.std.proofs.Common.{◌≡◌, ℕ, ◌≤◌, Bool, true, false, not, eqb, List, [], None, Option, sym, refl, ap, ◌∙◌, arith, eq-eqb, ne_eqb}
use Rattle.refusal.specs.Replies.{Reply, given, declined, mapped, and_then, refuse_if}
use Rattle.question.specs.Expressions.{Expression}
use Rattle.question.specs.Reading.{reading}
use Rattle.belief.specs.Meaning.{Meaning, mass_of}
use Rattle.belief.specs.Calls.{carrying, replied, revising}

module _ (m : Meaning) (q : List ℕ) (e : Expression) (n : reading q ≡ given e) where
  pub carrying_is : (x : Bool) → x ≡ m.carries [] q → ◌≡◌ {A = Reply Bool} (given x) (carrying m q)
  carrying_is x i = simp (n, i)

  pub replied_ok : {V : Type 0} (x v : V) → m.carries [] q ≡ true → x ≡ v → ◌≡◌ {A = Reply V} (given x) (replied m q v)
  replied_ok x v c i = simp (n, c, i)

  pub replied_not : {V : Type 0} (v : V) → m.carries [] q ≡ false → ◌≡◌ {A = Reply V} (declined 12 None) (replied m q v)
  replied_not v c = simp (n, c)

  pub revising_not : (a : ℕ) → m.carries [] q ≡ false → ◌≡◌ {A = Reply (Unit {0})} (declined 12 None) (revising m q a)
  revising_not a c = simp (n, c)

  pub revising_none : (a x : ℕ) → m.carries [] q ≡ true → x ≡ mass_of m q a → x ≡ 0 → ◌≡◌ {A = Reply (Unit {0})} (declined 13 None) (revising m q a)
  revising_none a x c i z = let h : eqb (mass_of m q a) 0 ≡ true = eq-eqb _ _ (sym i ∙ z) in simp (n, c, h)

  pub revising_ok : (a x : ℕ) → m.carries [] q ≡ true → x ≡ mass_of m q a → 1 ≤ x → ◌≡◌ {A = Reply (Unit {0})} (given tt) (revising m q a)
  revising_ok a x c i z = let h : eqb (mass_of m q a) 0 ≡ false = ne_eqb _ _ (λ w. omega arith) in simp (n, c, h)

-- a question that got a value was one, and was carried
pub record Carried (m : Meaning) (q : List ℕ) : Type 0 where
  pub expression : Expression
  pub reads : reading q ≡ given expression
  pub carried : m.carries [] q ≡ true

carried_by : {V : Type 0} (o : Reply Expression) (b : Bool) (x v : V) → ◌≡◌ {A = Reply V} (given x) (and_then o (λ e. refuse_if (not b) 12 (given v))) →
    (e : Expression) × (o ≡ given e) × (b ≡ true) × (x ≡ v)
carried_by (given e) true x v i = let k : x ≡ v = cc in (e, refl, refl, k)
carried_by (given e) false x v i = let k : ◌≡◌ {A = ℕ} 0 1 = cc in absurd (omega arith)
carried_by (declined n p) b x v i = let k : ◌≡◌ {A = ℕ} 0 1 = cc in absurd (omega arith)

pub replied_carried : {V : Type 0} (m : Meaning) (q : List ℕ) (x v : V) → ◌≡◌ {A = Reply V} (given x) (replied m q v) → Carried m q
replied_carried m q x v i = let k = carried_by (reading q) (m.carries [] q) x v i in record { expression = k.0; reads = k.1; carried = k.2 }

pub replied_value : {V : Type 0} (m : Meaning) (q : List ℕ) (x v : V) → ◌≡◌ {A = Reply V} (given x) (replied m q v) → x ≡ v
replied_value m q x v i = (carried_by (reading q) (m.carries [] q) x v i).3

-- a reply carried over from one belief to another that carries the question alike
module _ {V : Type 0} where
  map_ok : (o : Reply Expression) (b : Bool) (x v z w : V) → ◌≡◌ {A = Reply V} (given x) (and_then o (λ e. refuse_if (not b) 12 (given v))) → (x ≡ v → z ≡ w) →
      ◌≡◌ {A = Reply V} (given z) (and_then o (λ e. refuse_if (not b) 12 (given w)))
  map_ok (given e) true x v z w i h = let k : x ≡ v = cc in ap given (h k)
  map_ok (given e) false x v z w i h = let k : ◌≡◌ {A = ℕ} 0 1 = cc in absurd (omega arith)
  map_ok (declined n p) b x v z w i h = let k : ◌≡◌ {A = ℕ} 0 1 = cc in absurd (omega arith)

  map_err : (o : Reply Expression) (b : Bool) (n : ℕ) (p : Option ℕ) (v w : V) → ◌≡◌ {A = Reply V} (declined n p) (and_then o (λ e. refuse_if (not b) 12 (given v))) →
      ◌≡◌ {A = Reply V} (declined n p) (and_then o (λ e. refuse_if (not b) 12 (given w)))
  map_err (given e) true n p v w i = let k : ◌≡◌ {A = ℕ} 0 1 = cc in absurd (omega arith)
  map_err (given e) false n p v w i = let k : n ≡ 12 = cc in let l : p ≡ None = cc in cc
  map_err (declined a c) b n p v w i = let k : n ≡ a = cc in let l : p ≡ c = cc in cc

  pub replied_map : (l p : Meaning) (q : List ℕ) (x v z w : V) → p.carries [] q ≡ l.carries [] q → ◌≡◌ {A = Reply V} (given x) (replied l q v) → (x ≡ v → z ≡ w) →
      ◌≡◌ {A = Reply V} (given z) (replied p q w)
  replied_map l p q x v z w c i h = map_ok (reading q) (l.carries [] q) x v z w i h ∙ ap (λ b. and_then (reading q) (λ e. refuse_if (not b) 12 (given w))) (sym c)

  pub replied_err : (l p : Meaning) (q : List ℕ) (n : ℕ) (o : Option ℕ) (v w : V) → p.carries [] q ≡ l.carries [] q → ◌≡◌ {A = Reply V} (declined n o) (replied l q v) →
      ◌≡◌ {A = Reply V} (declined n o) (replied p q w)
  replied_err l p q n o v w c i = map_err (reading q) (l.carries [] q) n o v w i ∙ ap (λ b. and_then (reading q) (λ e. refuse_if (not b) 12 (given w))) (sym c)

pub carrying_map : (l p : Meaning) (q : List ℕ) → p.carries [] q ≡ l.carries [] q → carrying l q ≡ carrying p q
carrying_map l p q c = ap (λ b. mapped (λ e. b) (reading q)) (sym c)

pub revising_map : (l p : Meaning) (q : List ℕ) (a : ℕ) → p.carries [] q ≡ l.carries [] q → eqb (mass_of p q a) 0 ≡ eqb (mass_of l q a) 0 → revising l q a ≡ revising p q a
revising_map l p q a c i =
    ap (λ b. and_then (reading q) (λ e. refuse_if (not (l.carries [] q)) 12 (refuse_if b 13 (given tt)))) (sym i)
    ∙ ap (λ b. and_then (reading q) (λ e. refuse_if (not b) 12 (refuse_if (eqb (mass_of p q a) 0) 13 (given tt)))) (sym c)
