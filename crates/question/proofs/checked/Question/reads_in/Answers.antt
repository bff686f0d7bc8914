-- What `reads_in` leaves to show.
use Rattle.std.proofs.Common.{ℕ, not, ◌||◌, refl, ◌∙◌, rules, tests}
use Rattle.std.proofs.lemmas.Iterator.{YieldsList-from_range}
use Rattle.std.proofs.lemmas.Iterator.Search.{all_from_yields_List}
use Rattle.question.specs.Questions.{reads_field, reads_in, in_span}
use Rattle.question.specs.Texts.{text}
use Rattle.question.proofs.Questions.{all_four}
use Rattle.question.proofs.checked.Question.reads_in.Goals as goal

pub returns : goal.returns
unfolding reads_in
returns c =
    let test = λ (j : ℕ). not (reads_field (text c.args.self.now) j) || in_span c.args.first c.args.count j in
    all_from_yields_List test _ _ c.all.result c.all.ensures.ran (YieldsList-from_range 0 4 4 refl refl) (λ x b r k. search (rules, tests)) ∙ all_four test
