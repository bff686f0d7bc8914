-- The steps that are left fall.
use Rattle.std.proofs.Common.{length}
use Rattle.boxes.proofs.cuts.+hand_pieces.Given as goal

abbrev pub decreases-hand_pieces : goal.decreases-hand_pieces
decreases-hand_pieces g l = length l.steps.now
