-- The pieces of all boxes go on one after another.
use Rattle.boxes.proofs.Handing.{hand_more, hand_end}
use Rattle.boxes.proofs.cuts.hand_all.Goals as goal

pub loop-b-preserved : goal.loop-b-preserved
loop-b-preserved g c =
    hand_more g.T.Taker.taken c.loop-b.out _ _ c.args.steps.now c.args.boxes.now c.loop-b.b-index c.loop-b-test.true c.loop-b.invariant c.hand_pieces.ensures

pub returns : goal.returns
returns g c = hand_end g.T.Taker.taken c.loop-b.out _ c.args.steps.now c.args.boxes.now c.loop-b.b-index c.loop-b-test.false c.loop-b.invariant
