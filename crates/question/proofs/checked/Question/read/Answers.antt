-- What `read` leaves to show.
use Rattle.std.proofs.Common.{rules, ap, sym, ◌∙◌}
use Rattle.refusal.specs.Replies.{given, mapped}
use Rattle.question.specs.Questions.{is_question}
use Rattle.question.specs.Texts.{text}
use Rattle.question.proofs.Laws.{unique, only, bytes_from}
use Rattle.question.proofs.Cases.{worked}
use Rattle.question.proofs.Front.{accepted}
use Rattle.question.proofs.Asked.{asks}
use Rattle.question.proofs.checked.Question.read.Goals as goal

pub returns-in_err-check : goal.returns-in_err-check
returns-in_err-check c =
    let bs = c.args.bytes.now in
    record { gives = search rules; law = only bs (bytes_from bs (search rules)); unique = unique; cases = worked }

pub invariant_of-result : goal.invariant_of-result
invariant_of-result c =
    let bs = c.args.bytes.now in
    let short = (accepted bs c.in_ok-check.ensures).short in
    record { fits = short; asked = ap is_question (c.padded.ensures.front short) ∙ asks bs c.in_ok-check.ensures }

pub returns : goal.returns
unfolding text
returns c =
    let bs = c.args.bytes.now in
    let a = accepted bs c.in_ok-check.ensures in
    record {
      gives = ap given (c.padded.ensures.front a.short) ∙ sym (ap (mapped (λ e. bs)) a.reads);
      law = only bs (bytes_from bs (search rules));
      unique = unique;
      cases = worked;
    }
