-- What `number_value` leaves to show.
use Rattle.std.proofs.Common.{◌≡◌, ◌+◌, ◌*◌, ◌<◌, length, get_or, pos, sym, refl, subst, arith, w64, to_z, of_z, rules}
use Rattle.std.proofs.lemmas.Int.{ints}
use Rattle.question.specs.Fronts.{Each, Worth}
use Rattle.question.proofs.Operands.{tail3, longer, fair}
use Rattle.question.proofs.Values.{number_worth}
use Rattle.question.proofs.walks.number_value.Goals as goal

pub unreachable-requires : goal.unreachable-requires
unreachable-requires c =
    let bs = c.args.bytes.now in
    let q = c.requires.number in
    let h : length bs < 3 = search rules in
    omega (arith, longer bs q refl, (fair bs c.requires.begins).both q, h)

pub returns : goal.returns
returns c =
    let bs = c.args.bytes.now in
    let e : to_z w64 (of_z w64 c.from.result) ≡ pos (get_or bs 1 0 * 256 + get_or bs 2 0) = omega (arith, ints) in
    λ s. subst (λ v. Each (Worth s v) bs (tail3 bs)) (sym e) (number_worth bs s c.requires.number)
