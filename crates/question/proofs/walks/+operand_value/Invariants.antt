-- The numbers that fall with each call of `value` and of `operand`.
use Rattle.std.proofs.Common.{◌+◌, ◌*◌, length}
use Rattle.question.proofs.walks.+operand_value.Given as goal

abbrev pub decreases-value : goal.decreases-value
decreases-value l = 2 * length l.bytes.now

abbrev pub decreases-operand : goal.decreases-operand
decreases-operand l = 2 * length l.bytes.now + 1
