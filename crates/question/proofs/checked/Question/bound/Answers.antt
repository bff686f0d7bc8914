-- What `bound` leaves to show.
use Rattle.std.proofs.Common.{◌≡◌, ◌≤◌, [], sym, ap, ◌∙◌, subst, arith, rules}
use Rattle.question.specs.Expressions.{limit, bound}
use Rattle.question.specs.Fronts.{Begins, Any}
use Rattle.question.specs.Questions.{read_or, bound_of}
use Rattle.question.specs.Texts.{text}
use Rattle.question.proofs.Values.{small_bound}
use Rattle.question.proofs.Asked.{held, begins_any}
use Rattle.question.proofs.checked.Question.bound.Goals as goal

pub bound-requires : goal.bound-requires
bound-requires c = subst (Begins Any) (sym c.text.ensures) (begins_any (held c.args.self.now))

pub unreachable-requires : goal.unreachable-requires
unreachable-requires c =
    let a = held c.args.self.now in
    let p = c.in-Err.ensures.place a.tree [] (c.text.ensures ∙ a.is) 0 in
    cc (p, a.clear)

pub returns : goal.returns
unfolding bound_of
returns c =
    let a = held c.args.self.now in
    let b = c.in-Ok.ensures.has a.tree [] (c.text.ensures ∙ a.is) in
    let is : c.in-Ok.n ≡ bound_of (text c.args.self.now) = b.is ∙ sym (ap (read_or 0 bound) a.reads) in
    let low : c.in-Ok.n ≤ limit = omega (arith, b.is, small_bound a.tree b.small) in
    record { is = search (rules, is); low = search (rules, low) }
