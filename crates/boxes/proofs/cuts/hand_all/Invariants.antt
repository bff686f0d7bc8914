-- What the loop keeps true.
use Rattle.std.proofs.Common.{◌≡◌, drop, fold}
use Rattle.ranges.specs.Pieces.{cut_all}
use Rattle.boxes.proofs.cuts.hand_all.Given as goal

abbrev pub invariant-loop-b : goal.invariant-loop-b
invariant-loop-b g l = fold g.T.Taker.taken l.out (cut_all l.steps (drop l.b-index l.boxes)) ≡ fold g.T.Taker.taken l.initial.out (cut_all l.steps l.boxes)
