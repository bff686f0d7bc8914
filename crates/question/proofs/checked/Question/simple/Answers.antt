-- What `simple` leaves to show.
use Rattle.std.proofs.Common.{◌≡◌, ◌<◌, [], get_or, IfSome, None, sym, ap, ◌∙◌, subst, append-nil, rules}
use Rattle.question.specs.Expressions.{written}
use Rattle.question.specs.Steps.{Simply, simple}
use Rattle.question.specs.Fronts.{front_step}
use Rattle.question.specs.Questions.{read_or, simple_as}
use Rattle.question.specs.Texts.{text}
use Rattle.question.proofs.Gathered.{front_simple, simple_step}
use Rattle.question.proofs.Asked.{held}
use Rattle.question.proofs.Questions.{step_simple}
use Rattle.question.proofs.checked.Question.simple.Goals as goal

pub returns : goal.returns
unfolding simple_as
returns c =
    let q = text c.args.self.now in
    let a = held c.args.self.now in
    let w : q ≡ written a.tree = a.is ∙ append-nil (written a.tree) in
    let s : c.step_at.result ≡ simple a.tree = c.step_at.ensures.is ∙ (ap front_step (c.text.ensures ∙ a.is) ∙ front_simple a.tree []) in
    let is : c.step_at.result ≡ simple_as q = s ∙ sym (ap (read_or None simple) a.reads) in
    let bytes : Simply q c.step_at.result = record {
      told = λ t e. w ∙ simple_step a.tree t (subst (λ x. get_or x 5 0 < 256) (c.text.ensures ∙ w) (subst (λ r. IfSome r (λ x. get_or c.text.result.now 5 0 < 256)) e c.step_at.ensures.low)) (sym s ∙ e);
      all = λ k v h l e. is ∙ (ap simple_as e ∙ step_simple k v h l);
    } in
    record { is = search (rules, is); bytes = subst (Simply q) (search rules) bytes }
