-- The pieces of a box go on one after another.
use Rattle.std.proofs.Common.{rules}
use Rattle.boxes.proofs.Handing.{hand_last, hand_whole, hand_parts}
use Rattle.boxes.proofs.cuts.+hand_pieces.Goals as goal

pub returns-in_default : goal.returns-in_default
returns-in_default g t c = hand_last g.T.Taker.taken c.args.out.now _ c.args.steps.now c.args.b (search rules) c.take.ensures

pub returns-then-is_cut : goal.returns-then-is_cut
returns-then-is_cut g t c =
    hand_parts g.T.Taker.taken c.args.steps.now c.args.b _ (search rules) c.from-k.ensures c.args.out.now c.hand_pieces.new.out _ c.with_side.result c.with_side-then-is_cut.result
    c.if-is_cut.ensures.is c.with_side.ensures c.with_side-then-is_cut.ensures c.hand_pieces.ensures c.hand_pieces-then-is_cut.ensures

pub returns-else-is_cut : goal.returns-else-is_cut
returns-else-is_cut g t c =
    hand_whole g.T.Taker.taken c.args.steps.now c.args.b _ (search rules) c.from-k.ensures c.args.out.now _ c.if-is_cut.ensures.is c.hand_pieces-else-is_cut.ensures
