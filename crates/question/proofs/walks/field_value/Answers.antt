-- What `field_value` leaves to show.
use Rattle.std.proofs.Common.{◌≡◌, ◌<◌, length, get_or, pos, sym, refl, ap, subst, arith, w64, to_z, of_z, rules}
use Rattle.std.proofs.lemmas.Int.{ints}
use Rattle.question.specs.Fronts.{Each, Worth}
use Rattle.question.proofs.Operands.{tail2, longer, fair, tail_at}
use Rattle.question.proofs.Values.{field_worth}
use Rattle.question.proofs.walks.field_value.Goals as goal
use Rattle.question.proofs.walks.field_value.Goals.{in_default-via-then-bytes-lt2, in_default-via-in-len2-up+else-k-le3}

pub unreachable-requires : goal.unreachable-requires
unreachable-requires c =
    let bs = c.args.bytes.now in
    let q = c.requires.field in
    let f = fair bs c.requires.begins in
    elim c.in_default.branch [ in_default-via-then-bytes-lt2 w ↦ (let h : length bs < 2 = search rules in omega (arith, longer bs q refl, f.one q, h)) | in_default-via-in-len2-up+else-k-le3 w ↦ omega (arith, f.low q, tail_at bs 0, w.if-k-le3.false) ]

pub returns : goal.returns
returns c =
    let bs = c.args.bytes.now in
    let i = ap (λ k. get_or c.args.sheet k 0) c.from.ensures in
    let e : to_z w64 (of_z w64 c.from-in-len2-up.result) ≡ pos (get_or c.args.sheet (get_or bs 1 0) 0) = omega (arith, ints) in
    subst (λ v. Each (Worth c.args.sheet v) bs (tail2 bs)) (sym e) (field_worth bs c.args.sheet c.requires.field)
