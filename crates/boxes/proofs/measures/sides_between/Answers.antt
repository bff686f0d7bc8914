-- The four sides between two sheets.
use Rattle.std.proofs.Common.{rules}
use Rattle.boxes.proofs.Fours.{four_between}
use Rattle.boxes.proofs.measures.sides_between.Goals as goal

pub returns : goal.returns
returns c = four_between c.args.lowest c.args.highest (search rules) (search rules)
