-- The first of some commands whose bound passes the limit.
use Rattle.std.proofs.Common.{◌≡◌, ℕ, ◌<◌, ◌≤◌, Bool, true, false, cond, nat_le, List, [], ◌∷◌, ◌++◌, Some, None, Option, refl, ap, ◌∙◌, arith, leb-false, leb-true}
use Rattle.std.proofs.lemmas.Bool.Decides.{nat_tests}
use Rattle.question.specs.Expressions.{limit, Placed}
use Rattle.question.specs.Reading.{first_over}
use Rattle.question.specs.Laws.{Within, Passing}

none_by : (x : Bool) (p : ℕ) (u v w : Option ℕ) → (u ≡ None → v ≡ w) → cond x u (Some p) ≡ None → cond x v (Some p) ≡ w
none_by true p u v w f e = f e
none_by false p u v w f e = cc

some_by : (x : Bool) (p q : ℕ) (u v : Option ℕ) → (u ≡ Some q → v ≡ Some q) → cond x u (Some p) ≡ Some q → cond x v (Some p) ≡ Some q
some_by true p q u v f e = f e
some_by false p q u v f e = e

-- it is the second list's if the first has none, and else the first's
pub first_none : (cs ds : List Placed) → first_over cs ≡ None → first_over (cs ++ ds) ≡ first_over ds
first_none [] ds e = refl
first_none (c ∷ cs) ds e = none_by (nat_le c.size limit) c.place (first_over cs) (first_over (cs ++ ds)) (first_over ds) (first_none cs ds) e

pub first_some : (cs ds : List Placed) {q : ℕ} → first_over cs ≡ Some q → first_over (cs ++ ds) ≡ Some q
first_some [] ds e = cc
first_some (c ∷ cs) ds {q} e = some_by (nat_le c.size limit) c.place q (first_over cs) (first_over (cs ++ ds)) (first_some cs ds) e

pub here : (c : Placed) (cs : List Placed) → limit < c.size → first_over (c ∷ cs) ≡ Some c.place
here c cs h = let e : nat_le c.size limit ≡ false = grind (arith, nat_tests) in rw e

pub clear : (c : Placed) (cs : List Placed) → c.size ≤ limit → first_over (c ∷ cs) ≡ first_over cs
clear c cs h = let e : nat_le c.size limit ≡ true = grind (arith, nat_tests) in rw e

-- where two lists have none, neither has one
split_by : (x : Bool) (p : ℕ) (u v w : Option ℕ) → (v ≡ None → (u ≡ None) × (w ≡ None)) → cond x v (Some p) ≡ None → (cond x u (Some p) ≡ None) × (w ≡ None)
split_by true p u v w f e = f e
split_by false p u v w f e = cc

pub both_none : (cs ds : List Placed) → first_over (cs ++ ds) ≡ None → (first_over cs ≡ None) × (first_over ds ≡ None)
both_none [] ds e = (refl, e)
both_none (c ∷ cs) ds e = split_by (nat_le c.size limit) c.place (first_over cs) (first_over (cs ++ ds)) (first_over ds) (both_none cs ds) e

-- ---- and what it is

within_by : (c : Placed) (cs : List Placed) (x : Bool) → nat_le c.size limit ≡ x → (first_over cs ≡ None → Within cs) → cond x (first_over cs) (Some c.place) ≡ None → Within (c ∷ cs)
within_by c cs true l f e = (leb-true c.size limit l, f e)
within_by c cs false l f e = cc

pub none_within : (cs : List Placed) → first_over cs ≡ None → Within cs
none_within [] e = tt
none_within (c ∷ cs) e = within_by c cs (nat_le c.size limit) refl (none_within cs) e

pub within_none : (cs : List Placed) → Within cs → first_over cs ≡ None
within_none [] w = refl
within_none (c ∷ cs) w = clear c cs w.0 ∙ within_none cs w.1

passing_by : (c : Placed) (cs : List Placed) {p : ℕ} (x : Bool) → nat_le c.size limit ≡ x → (first_over cs ≡ Some p → Passing cs p) → cond x (first_over cs) (Some c.place) ≡ Some p → Passing (c ∷ cs) p
passing_by c cs true l f e =
    let r = f e in
    record {
      before = c ∷ r.before;
      here = r.here;
      after = r.after;
      is = ap (λ ds. c ∷ ds) r.is;
      within = (leb-true c.size limit l, r.within);
      passes = r.passes;
      at = r.at;
    }
passing_by c cs {p} false l f e =
    record {
      before = [];
      here = c;
      after = cs;
      is = refl;
      within = tt;
      passes = leb-false c.size limit l;
      at = (let z : c.place ≡ p = cc in z);
    }

pub some_passing : (cs : List Placed) {p : ℕ} → first_over cs ≡ Some p → Passing cs p
some_passing [] e = cc
some_passing (c ∷ cs) e = passing_by c cs (nat_le c.size limit) refl (some_passing cs) e

pub passing_some : (cs : List Placed) {p : ℕ} → Passing cs p → first_over cs ≡ Some p
passing_some cs r =
    ap first_over r.is ∙ (first_none r.before (r.here ∷ r.after) (within_none r.before r.within) ∙ (here r.here r.after r.passes ∙ ap Some r.at))
