use Rattle.std.proofs.Common.{◌≡◌, drop}
use Rattle.script.specs.Text.{decimal_from}
use Rattle.script.proofs.words.digits.Given as goal

abbrev pub invariant-loop-b : goal.invariant-loop-b
invariant-loop-b l = decimal_from l.most l.n (drop l.b-index l.word) ≡ decimal_from l.most 0 l.word
