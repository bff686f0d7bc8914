-- The number that falls with each call of `bound`.
use Rattle.std.proofs.Common.{length}
use Rattle.question.proofs.walks.+bound.Given as goal

abbrev pub decreases-bound : goal.decreases-bound
decreases-bound l = length l.bytes.now
