-- What `gather` leaves to show.
use Rattle.std.proofs.Common.{◌∙◌}
use Rattle.question.specs.Texts.{taken}
use Rattle.question.proofs.Gathered.{after_step}
use Rattle.question.proofs.walks.+gather.Goals as goal

pub returns-in-Some : goal.returns-in-Some
returns-in-Some t c = c.gather.ensures ∙ after_step c.args.bytes.now (taken c.args.so_far) c.in-Some.ensures.is c.with.ensures.steps
