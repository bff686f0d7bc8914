-- What `apply` leaves to show.
use Rattle.std.proofs.Common.{◌*ℤ◌, arith, w64}
use Rattle.std.proofs.lemmas.Int.{to_z-of_z}
use Rattle.question.proofs.Values.{fits64, times_fits}
use Rattle.question.proofs.walks.apply.Goals as goal

pub returns-in-42 : goal.returns-in-42
returns-in-42 c =
    let X = c.args.x in
    let Y = c.args.y in
    let x = fits64 X (omega (arith, c.requires.small.first)) in
    let y = fits64 Y (omega (arith, c.requires.small.second)) in
    rw (to_z-of_z w64 X x, to_z-of_z w64 Y y, to_z-of_z w64 (X *ℤ Y) (times_fits X Y c.requires.small.first c.requires.small.second), c.in-42.is)
