-- A piece gives the answer of its lowest sheet.
use Rattle.std.proofs.Common.{ap, ◌∙◌, arith}
use Rattle.question.specs.Questions.{answers}
use Rattle.question.specs.Texts.{text}
use Rattle.question.proofs.Questions.{answers_small}
use Rattle.boxes.proofs.takers.Wanted.given_by.Goals as goal

pub returns : goal.returns
returns c =
    let q = text c.args.self.now.question in
    record { is = c.answer.ensures ∙ ap (answers q) c.corner_of.ensures; small = omega (arith, c.answer.ensures, answers_small q c.corner_of.result) }
