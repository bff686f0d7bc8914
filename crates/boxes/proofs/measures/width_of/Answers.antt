-- The width of a side.
use Rattle.std.proofs.Common.{rules}
use Rattle.ranges.specs.Boxes.{width}
use Rattle.boxes.proofs.measures.width_of.Goals as goal

pub returns-clause-is : goal.returns-clause-is
unfolding width
returns-clause-is c = search rules
