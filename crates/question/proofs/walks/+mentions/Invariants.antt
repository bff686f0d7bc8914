-- The number that falls with each call of `mentions`.
use Rattle.std.proofs.Common.{length}
use Rattle.question.proofs.walks.+mentions.Given as goal

abbrev pub decreases-mentions : goal.decreases-mentions
decreases-mentions l = length l.bytes.now
