-- The lowest values of the four sides.
use Rattle.std.proofs.Common.{rules}
use Rattle.boxes.proofs.Fours.{four_corner}
use Rattle.boxes.proofs.measures.corner_of.Goals as goal

pub returns : goal.returns
returns c = four_corner c.args.sides (search rules)
