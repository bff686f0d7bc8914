-- What `bound` leaves to show.
use Rattle.std.proofs.Common.{◌≡◌, ◌+◌, ◌*◌, ◌<◌, ◌≤◌, length, get_or, sym, refl, ap, ◌∙◌, subst, arith, rules}
use Rattle.question.specs.Expressions.{limit, limited}
use Rattle.question.specs.Reading.{command}
use Rattle.question.specs.Fronts.{Any, Each, Bounded, op_in, is_sign}
use Rattle.question.proofs.Operands.{head, tail, tail2, fair, operand_one, operand_two, operand_two_2, operand_three, operand_three_2, operand_three_3}
use Rattle.question.proofs.Scan.{signs, no_command}
use Rattle.question.proofs.Bounds.{failed, low, field_bounded, number_bounded, one_bounded, two_bounded, three_bounded, pass_one, pass_two, pass_two_2, pass_here, pass_three, pass_three_2, pass_three_3}
use Rattle.question.proofs.walks.+bound.Goals as goal

pub unreachable-requires : goal.unreachable-requires
unreachable-requires t c =
    let bs = c.args.bytes.now in
    let h : length bs < 1 = search rules in
    omega (arith, (fair bs c.requires).some, h)

pub bound-requires : goal.bound-requires
bound-requires t c =
    let n = operand_one {Q = Any} c.args.bytes.now (ap command c.in-33.is) c.requires (λ a h. tt) in
    (omega arith, n.begins)

pub returns-in_err-rest-in-33 : goal.returns-in_err-rest-in-33
returns-in_err-rest-in-33 t c =
    failed c.args.bytes.now c.from_residual.result c.from_residual.ensures.1 (pass_one c.args.bytes.now (ap command c.in-33.is) c.in_err-rest-in-33.ensures)

pub bound-requires-in-63 : goal.bound-requires-in-63
bound-requires-in-63 t c =
    let n = operand_three {Q = Any} c.args.bytes.now (ap command c.in-63.is) c.requires (λ a b c h. tt) in
    (omega arith, n.begins)

pub returns-in_err-rest-in-63 : goal.returns-in_err-rest-in-63
returns-in_err-rest-in-63 t c =
    let bs = c.args.bytes.now in
    let q = ap command c.in-63.is in
    failed c.args.bytes.now c.from_residual-in_err-rest-in-63.result c.from_residual-in_err-rest-in-63.ensures.1 (pass_three bs q c.in_err-rest-in-63.ensures)

pub bound-requires-in-63-2 : goal.bound-requires-in-63-2
bound-requires-in-63-2 t c =
    let n = operand_three_2 {Q = Any} c.args.bytes.now (ap command c.in-63.is) c.requires c.in_ok-rest-in-63.ensures (λ a b c h. tt) in
    (omega arith, n.begins)

pub returns-in_err-y-in-63 : goal.returns-in_err-y-in-63
returns-in_err-y-in-63 t c =
    let bs = c.args.bytes.now in
    let q = ap command c.in-63.is in
    let w = c.in_ok-rest-in-63.ensures in
    let n = operand_three_2 {Q = Any} bs q c.requires w (λ a b c h. tt) in
    failed bs c.from_residual-in_err-y-in-63.result c.from_residual-in_err-y-in-63.ensures.1 (pass_three_2 bs q w n.fewer c.in_err-y-in-63.ensures)

pub bound-requires-in-63-3 : goal.bound-requires-in-63-3
bound-requires-in-63-3 t c =
    let n = operand_three_3 {Q = Any} c.args.bytes.now (ap command c.in-63.is) c.requires c.in_ok-rest-in-63.ensures c.in_ok-y-in-63.ensures (λ a b c h. tt) in
    (omega arith, n.begins)

pub returns-in_err-z-in-63 : goal.returns-in_err-z-in-63
returns-in_err-z-in-63 t c =
    let bs = c.args.bytes.now in
    let q = ap command c.in-63.is in
    let w = c.in_ok-rest-in-63.ensures in
    let v = c.in_ok-y-in-63.ensures in
    let n = operand_three_3 {Q = Any} bs q c.requires w v (λ a b c h. tt) in
    failed bs c.from_residual-in_err-z-in-63.result c.from_residual-in_err-z-in-63.ensures.1 (pass_three_3 bs q w v n.fewer c.in_err-z-in-63.ensures)

pub bound-requires-in_default-command : goal.bound-requires-in_default-command
bound-requires-in_default-command t c =
    let bs = c.args.bytes.now in
    let s = signs (head bs) c.takes_two.ensures c.if-takes_two.true in
    let n = operand_two {Q = Any} s.0 bs s.1 c.requires (λ a b h. tt) in
    (omega arith, n.begins)

pub returns-in_err-x-in_default-command : goal.returns-in_err-x-in_default-command
returns-in_err-x-in_default-command t c =
    let bs = c.args.bytes.now in
    let s = signs (head bs) c.takes_two.ensures c.if-takes_two.true in
    failed c.args.bytes.now c.from_residual-in_err-x-in_default-command.result c.from_residual-in_err-x-in_default-command.ensures.1 (pass_two s.0 bs s.1 c.in_err-x-in_default-command.ensures)

pub bound-requires-in_default-command-2 : goal.bound-requires-in_default-command-2
bound-requires-in_default-command-2 t c =
    let bs = c.args.bytes.now in
    let s = signs (head bs) c.takes_two.ensures c.if-takes_two.true in
    let n = operand_two_2 {Q = Any} s.0 bs s.1 c.requires c.in_ok-x-in_default-command.ensures (λ a b h. tt) in
    (omega arith, n.begins)

pub returns-in_err-y-in_default-command : goal.returns-in_err-y-in_default-command
returns-in_err-y-in_default-command t c =
    let bs = c.args.bytes.now in
    let s = signs (head bs) c.takes_two.ensures c.if-takes_two.true in
    let w = c.in_ok-x-in_default-command.ensures in
    let n = operand_two_2 {Q = Any} s.0 bs s.1 c.requires w (λ a b h. tt) in
    failed bs c.from_residual-in_err-y-in_default-command.result c.from_residual-in_err-y-in_default-command.ensures.1 (pass_two_2 s.0 bs s.1 w n.fewer c.in_err-y-in_default-command.ensures)

pub bound_by-n-requires : goal.bound_by-n-requires
bound_by-n-requires t c =
    let bs = c.args.bytes.now in
    let s = signs (head bs) c.takes_two.ensures c.if-takes_two.true in
    let w = c.in_ok-x-in_default-command.ensures in
    record {
      signs = ap is_sign s.1;
      first = low (tail bs) (operand_two s.0 bs s.1 c.requires (λ a b h. tt)).begins w;
      second = low _ (operand_two_2 s.0 bs s.1 c.requires w (λ a b h. tt)).begins c.in_ok-y-in_default-command.ensures;
    }

pub returns-then-n-gt-LIMIT : goal.returns-then-n-gt-LIMIT
returns-then-n-gt-LIMIT t c =
    let bs = c.args.bytes.now in
    let s = signs (head bs) c.takes_two.ensures c.if-takes_two.true in
    let w = c.in_ok-x-in_default-command.ensures in
    let e : c.bound_by-n.result ≡ limited s.0 c.in_ok-x-in_default-command.x c.in_ok-y-in_default-command.y = c.bound_by-n.ensures ∙ ap (λ k. limited (op_in k) c.in_ok-x-in_default-command.x c.in_ok-y-in_default-command.y) s.1 in
    pass_here s.0 bs s.1 w c.in_ok-y-in_default-command.ensures (subst (λ n. limit < n) e c.if-n-gt-LIMIT.true)

pub unreachable-requires-in_default-rest : goal.unreachable-requires-in_default-rest
unreachable-requires-in_default-rest t c =
    let bs = c.args.bytes.now in
    let h : length (tail bs) < 1 = search rules in
    omega (arith, (fair bs c.requires).one (ap command c.in-f.is), h)

pub returns-in-len1-up-rest : goal.returns-in-len1-up-rest
returns-in-len1-up-rest t c =
    field_bounded c.args.bytes.now (ap command c.in-f.is)

pub unreachable-requires-in_default-rest-2 : goal.unreachable-requires-in_default-rest-2
unreachable-requires-in_default-rest-2 t c =
    let bs = c.args.bytes.now in
    let h : length (tail bs) < 2 = search rules in
    omega (arith, (fair bs c.requires).both (ap command c.in-c.is), h)

pub returns-in-len2-up : goal.returns-in-len2-up
returns-in-len2-up t c =
    let bs = c.args.bytes.now in
    let hi : get_or (tail bs) 0 0 ≤ 255 = search rules in
    let lo : get_or (tail bs) 1 0 ≤ 255 = search rules in
    let e : c.from.result ≡ get_or (tail bs) 0 0 * 256 + get_or (tail bs) 1 0 = omega arith in
    subst (λ n. Each (Bounded n) bs (tail2 (tail bs))) (sym e) (number_bounded bs (ap command c.in-c.is) hi lo)

pub returns-in_ok-rest-in-33 : goal.returns-in_ok-rest-in-33
returns-in_ok-rest-in-33 t c =
    one_bounded c.args.bytes.now (ap command c.in-33.is) c.in_ok-rest-in-33.ensures

pub returns-in_ok-z-in-63 : goal.returns-in_ok-z-in-63
returns-in_ok-z-in-63 t c =
    let bs = c.args.bytes.now in
    subst (λ n. Each (Bounded n) bs c.in_ok-z-in-63.rest.now) (sym c.max.ensures) (three_bounded bs (ap command c.in-63.is) c.in_ok-rest-in-63.ensures c.in_ok-y-in-63.ensures c.in_ok-z-in-63.ensures)

pub returns-else-n-gt-LIMIT : goal.returns-else-n-gt-LIMIT
returns-else-n-gt-LIMIT t c =
    let bs = c.args.bytes.now in
    let s = signs (head bs) c.takes_two.ensures c.if-takes_two.true in
    let w = c.in_ok-x-in_default-command.ensures in
    let e : c.bound_by-n.result ≡ limited s.0 c.in_ok-x-in_default-command.x c.in_ok-y-in_default-command.y = c.bound_by-n.ensures ∙ ap (λ k. limited (op_in k) c.in_ok-x-in_default-command.x c.in_ok-y-in_default-command.y) s.1 in
    subst (λ n. Each (Bounded n) bs c.in_ok-y-in_default-command.rest.now) (sym e) (two_bounded s.0 bs s.1 w c.in_ok-y-in_default-command.ensures (subst (λ n. n ≤ limit) e c.if-n-gt-LIMIT.false))

pub unreachable-requires-in_default-2 : goal.unreachable-requires-in_default-2
unreachable-requires-in_default-2 t c =
    let bs = c.args.bytes.now in
    (fair bs c.requires).knows (no_command (head bs) (command (head bs)) refl (sym c.takes_two.ensures ∙ c.if-takes_two.false) (λ e. omega arith) (λ e. omega arith) (λ e. omega arith) (λ e. omega arith))
