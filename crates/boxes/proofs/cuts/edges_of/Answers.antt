-- The eight edges of a box.
use Rattle.std.proofs.Common.{rules}
use Rattle.boxes.proofs.Fours.{four_edges}
use Rattle.boxes.proofs.cuts.edges_of.Goals as goal

pub returns : goal.returns
returns c = let e = four_edges c.args.sides (search rules) in cc
