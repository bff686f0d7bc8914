-- What `answer` leaves to show, of a sheet that is handed on value by value too.
use Rattle.std.proofs.Common.{◌≡◌, sym, ap, ◌∙◌, rules}
use Rattle.question.specs.Expressions.{clamped}
use Rattle.question.specs.Questions.{value_of, answers}
use Rattle.question.specs.Texts.{text}
use Rattle.question.proofs.Fours.{fours}
use Rattle.question.proofs.Questions.{answers_value}
use Rattle.question.proofs.checked.Question.answer.Goals as goal

pub returns : goal.returns
returns c =
    let q = text c.args.self.now in
    let s = c.args.sheet in
    let four = sym (fours s (search rules)) in
    let value : c.value.result ≡ value_of q s = search (rules, four) in
    let by : clamped c.value.result ≡ answers q s = ap clamped value ∙ sym (answers_value q s) in
    search (rules, by)
