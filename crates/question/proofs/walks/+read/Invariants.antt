-- The number that falls with each call of `read`.
use Rattle.std.proofs.Common.{length}
use Rattle.question.proofs.walks.+read.Given as goal

abbrev pub decreases-read : goal.decreases-read
decreases-read l = length l.bytes.now
