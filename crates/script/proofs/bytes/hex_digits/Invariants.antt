use Rattle.std.proofs.Common.{◌≡◌, ◌%◌, length, vec_items}
use Rattle.script.specs.Text.{pairs}
use Rattle.script.proofs.Pairs.{onto}
use Rattle.script.proofs.bytes.hex_digits.Given as goal

abbrev pub invariant-loop-rest : goal.invariant-loop-rest
invariant-loop-rest l = (onto (vec_items l.bytes) (pairs l.rest) ≡ pairs l.word) × (length l.rest % 2 ≡ 0)

abbrev pub decreases-loop-rest : goal.decreases-loop-rest
decreases-loop-rest l = length l.rest
