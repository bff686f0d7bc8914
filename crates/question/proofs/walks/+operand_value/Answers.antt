-- What `value` leaves to show; `operand` leaves nothing.
use Rattle.std.proofs.Common.{◌≡◌, ℕ, ◌<◌, ◌≤◌, cond, length, get_or, sym, refl, ap, ◌∙◌, arith, w64, SFits, rules}
use Rattle.std.proofs.lemmas.Int.{to_z-of_z}
use Rattle.question.specs.Expressions.{applied, truth, is_zero}
use Rattle.question.specs.Reading.{command}
use Rattle.question.specs.Fronts.{Small, op_in, is_sign}
use Rattle.question.proofs.Operands.{head, tail, fair, operand_one, operand_two, operand_two_2, operand_three, operand_three_2, operand_three_3}
use Rattle.question.proofs.Scan.{signs, no_command}
use Rattle.question.proofs.Values.{ranged, truth_bit, zero_bits, one_worth, two_worth, three_worth}
use Rattle.question.proofs.walks.+operand_value.Goals as goal

pub value-unreachable-requires : goal.value-unreachable-requires
value-unreachable-requires t c =
    let bs = c.args.bytes.now in
    let h : length bs < 1 = search rules in
    omega (arith, (fair bs c.requires).some, h)

pub value-operand-x-requires : goal.value-operand-x-requires
value-operand-x-requires t c =
    let bs = c.args.bytes.now in
    let s = signs (head bs) c.takes_two.ensures c.if-takes_two.true in
    let n = operand_two {Q = Small} s.0 bs s.1 c.requires (λ a b h. h.0) in
    (omega arith, n.begins)

pub value-operand-y-requires : goal.value-operand-y-requires
value-operand-y-requires t c =
    let bs = c.args.bytes.now in
    let s = signs (head bs) c.takes_two.ensures c.if-takes_two.true in
    let n = operand_two_2 {Q = Small} s.0 bs s.1 c.requires c.operand-x.ensures (λ a b h. h.1) in
    (omega arith, n.begins)

pub value-apply-requires : goal.value-apply-requires
value-apply-requires t c =
    let bs = c.args.bytes.now in
    let s = signs (head bs) c.takes_two.ensures c.if-takes_two.true in
    let w = c.operand-x.ensures in
    let f : (k : ℕ) → get_or c.args.sheet k 0 ≤ 255 = search rules in
    let x = ranged (tail bs) c.args.sheet f (operand_two {Q = Small} s.0 bs s.1 c.requires (λ a b h. h.0)).begins w in
    let y = ranged _ c.args.sheet f (operand_two_2 {Q = Small} s.0 bs s.1 c.requires w (λ a b h. h.1)).begins c.operand-y.ensures in
    record { signs = ap is_sign s.1; small = rw (x.exact, y.exact) (record { first = x.within; second = y.within }) }

pub value-returns-then-takes_two : goal.value-returns-then-takes_two
value-returns-then-takes_two t c =
    let bs = c.args.bytes.now in
    let s = signs (head bs) c.takes_two.ensures c.if-takes_two.true in
    let w = c.operand-x.ensures in
    let X = c.operand-x.result.0 in
    let Y = c.operand-y.result.0 in
    let f : (k : ℕ) → get_or c.args.sheet k 0 ≤ 255 = search rules in
    let x = ranged (tail bs) c.args.sheet f (operand_two {Q = Small} s.0 bs s.1 c.requires (λ a b h. h.0)).begins w in
    let y = ranged _ c.args.sheet f (operand_two_2 {Q = Small} s.0 bs s.1 c.requires w (λ a b h. h.1)).begins c.operand-y.ensures in
    let z : SFits w64 c.apply.result = search rules in
    let E = c.apply.ensures in
    let e : c.apply.result ≡ applied (op_in (command (head bs))) X Y = rw (x.exact, y.exact) at E in
    let g = e ∙ ap (λ k. applied (op_in k) X Y) s.1 in
    rw (to_z-of_z w64 c.apply.result z, g) (two_worth s.0 bs c.args.sheet s.1 w c.operand-y.ensures)

pub value-operand-x-requires-in-33 : goal.value-operand-x-requires-in-33
value-operand-x-requires-in-33 t c =
    let n = operand_one {Q = Small} c.args.bytes.now (ap command c.in-33.is) c.requires (λ a h. h) in
    (omega arith, n.begins)

pub value-operand-x-requires-in-63 : goal.value-operand-x-requires-in-63
value-operand-x-requires-in-63 t c =
    let n = operand_three {Q = Small} c.args.bytes.now (ap command c.in-63.is) c.requires (λ a b c h. h.0) in
    (omega arith, n.begins)

pub value-operand-y-requires-in-63 : goal.value-operand-y-requires-in-63
value-operand-y-requires-in-63 t c =
    let n = operand_three_2 {Q = Small} c.args.bytes.now (ap command c.in-63.is) c.requires c.operand-x-in-63.ensures (λ a b c h. h.1) in
    (omega arith, n.begins)

pub value-operand-z-requires : goal.value-operand-z-requires
value-operand-z-requires t c =
    let n = operand_three_3 {Q = Small} c.args.bytes.now (ap command c.in-63.is) c.requires c.operand-x-in-63.ensures c.operand-y-in-63.ensures (λ a b c h. h.2) in
    (omega arith, n.begins)

pub value-unreachable-requires-in_default-command : goal.value-unreachable-requires-in_default-command
value-unreachable-requires-in_default-command t c =
    let bs = c.args.bytes.now in
    (fair bs c.requires).knows (no_command (head bs) (command (head bs)) refl (sym c.takes_two.ensures ∙ c.if-takes_two.false) (λ e. omega arith) (λ e. omega arith) (λ e. omega arith) (λ e. omega arith))

pub value-returns-in-33 : goal.value-returns-in-33
value-returns-in-33 t c =
    let bs = c.args.bytes.now in
    let q = ap command c.in-33.is in
    let f : (k : ℕ) → get_or c.args.sheet k 0 ≤ 255 = search rules in
    let X = c.operand-x-in-33.result.0 in
    let x = ranged (tail bs) c.args.sheet f (operand_one {Q = Small} bs q c.requires (λ a h. h)).begins c.operand-x-in-33.ensures in
    let z : SFits w64 c.from.result = search rules in
    let e : c.from.result ≡ truth (is_zero X) = c.from.ensures ∙ (truth_bit _ ∙ ap truth (zero_bits X x.within)) in
    rw (to_z-of_z w64 c.from.result z, e) (one_worth bs c.args.sheet q c.operand-x-in-33.ensures)

pub value-returns-in-63 : goal.value-returns-in-63
value-returns-in-63 t c =
    let bs = c.args.bytes.now in
    let q = ap command c.in-63.is in
    let w = c.operand-x-in-63.ensures in
    let v = c.operand-y-in-63.ensures in
    let f : (k : ℕ) → get_or c.args.sheet k 0 ≤ 255 = search rules in
    let X = c.operand-x-in-63.result.0 in
    let Y = c.operand-y-in-63.result.0 in
    let Z = c.operand-z.result.0 in
    let x = ranged (tail bs) c.args.sheet f (operand_three {Q = Small} bs q c.requires (λ a b c h. h.0)).begins w in
    let y = ranged _ c.args.sheet f (operand_three_2 {Q = Small} bs q c.requires w (λ a b c h. h.1)).begins v in
    let z = ranged _ c.args.sheet f (operand_three_3 {Q = Small} bs q c.requires w v (λ a b c h. h.2)).begins c.operand-z.ensures in
    let g : SFits w64 c.pick.result = search rules in
    let E = c.pick.ensures in
    let e : c.pick.result ≡ cond (is_zero X) Z Y = rw (x.exact, y.exact, z.exact) at E in
    rw (to_z-of_z w64 c.pick.result g, e) (three_worth bs c.args.sheet q w v c.operand-z.ensures)
