-- The pieces that give the answer.
use Rattle.std.proofs.Common.{rules}
use Rattle.question.specs.Questions.{is_stepped}
use Rattle.question.specs.Texts.{text}
use Rattle.question.proofs.Questions.{impossible, none_stepped}
use Rattle.boxes.specs.Holding.{held}
use Rattle.boxes.proofs.Asking.{sifts}
use Rattle.boxes.proofs.holding.Boxes.sifted.Goals as goal

pub returns-in_default : goal.returns-in_default
returns-in_default c = λ e. let q = text c.args.wanted.question in impossible (is_stepped q) (none_stepped q c.in_default.ensures) e

pub returns : goal.returns
returns c = λ e.
    let b = c.args.self.now in
    sifts b.span.first b.span.count c.args.wanted.question (held b) c.in-Some.ensures c.args.wanted.answer _ _ c.none-2.result _ c.as_slice.ensures c.held.ensures c.none-2.ensures (search rules) c.hand_all.ensures
