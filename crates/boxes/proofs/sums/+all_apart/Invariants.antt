-- The boxes that are left fall.
use Rattle.std.proofs.Common.{length}
use Rattle.boxes.proofs.sums.+all_apart.Given as goal

abbrev pub decreases-all_apart : goal.decreases-all_apart
decreases-all_apart l = length l.boxes.now
