use Rattle.std.proofs.Common.{◌≡◌, get_or, Some, arith}
use Rattle.script.specs.Text.{nibble}
use Rattle.script.proofs.Pairs.{one_more}
use Rattle.script.proofs.bytes.hex_digits.Goals as goal

pub loop-rest-preserved : goal.loop-rest-preserved
loop-rest-preserved c =
    let e : nibble (get_or c.loop-rest.rest.now 0 0) ≡ Some c.in_ok-digit.field-0 = grind arith in
    let f : nibble (get_or c.loop-rest.rest.now 1 0) ≡ Some c.in_ok-digit-2.field-0 = grind arith in
    (rw (c.in_ok-push.ensures).items (one_more c.loop-rest.rest.now c.in-len2-up.len_at_least _ _ _ _ (c.loop-rest.invariant).0 e f), omega (arith, (c.loop-rest.invariant).1))
