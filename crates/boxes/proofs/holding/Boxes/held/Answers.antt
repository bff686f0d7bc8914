-- The boxes that are kept.
use Rattle.std.proofs.Common.{refl}
use Rattle.boxes.specs.Holding.{held}
use Rattle.boxes.proofs.holding.Boxes.held.Goals as goal

pub returns : goal.returns
unfolding held
returns c = refl
