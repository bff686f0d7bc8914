-- What `value` leaves to show, of a sheet that is handed on value by value too.
use Rattle.std.proofs.Common.{◌≡◌, ℕ, ◌≤◌, [], get_or, pos, nat_abs, sym, ap, ◌∙◌, subst, arith, w64, to_z, of_z, rules}
use Rattle.std.proofs.lemmas.Int.{to_z-of_z}
use Rattle.question.specs.Expressions.{worth, bound}
use Rattle.question.specs.Fronts.{Begins, Small}
use Rattle.question.specs.Questions.{read_or, value_of, bound_of}
use Rattle.question.specs.Texts.{text}
use Rattle.question.proofs.Values.{within, small_bound, fits64}
use Rattle.question.proofs.Asked.{held, begins}
use Rattle.question.proofs.Fours.{fours}
use Rattle.question.proofs.checked.Question.value.Goals as goal

pub value-requires : goal.value-requires
value-requires c = subst (Begins Small) (sym c.text.ensures) (begins (held c.args.self.now))

pub returns : goal.returns
unfolding value_of bound_of
returns c =
    let s = c.args.sheet in
    let q = text c.args.self.now in
    let a = held c.args.self.now in
    let f : (k : ℕ) → get_or s k 0 ≤ 255 = search rules in
    let X = c.value.result.0 in
    let has = c.value.ensures.has a.tree [] (c.text.ensures ∙ a.is) in
    let four = sym (fours s (search rules)) in
    let e : X ≡ worth a.tree s = search (rules, has, four) in
    let w : nat_abs X ≤ bound a.tree = subst (λ v. nat_abs v ≤ bound a.tree) (sym e) (within a.tree s f) in
    let x = fits64 X (omega (arith, w, small_bound a.tree a.small)) in
    let r = to_z-of_z w64 X x in
    let v : to_z w64 (of_z w64 X) ≡ value_of q s = r ∙ (e ∙ sym (ap (read_or (pos 0) (λ t. worth t s)) a.reads)) in
    record {
      is = v;
      within = subst (λ v. nat_abs v ≤ bound_of q) (sym r) (subst (λ n. nat_abs X ≤ n) (sym (ap (read_or 0 bound) a.reads)) w);
    }
