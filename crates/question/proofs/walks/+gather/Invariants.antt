-- The number that falls with each call of `gather`.
use Rattle.std.proofs.Common.{length}
use Rattle.question.proofs.walks.+gather.Given as goal

abbrev pub decreases-gather : goal.decreases-gather
decreases-gather l = length l.bytes.now
