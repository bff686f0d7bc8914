-- The box of all sheets lies between nothing and the tops.
use Rattle.std.proofs.Common.{◌∙◌, rules}
use Rattle.boxes.proofs.Fours.{between_entire}
use Rattle.boxes.proofs.measures.entire_of.Goals as goal

pub returns : goal.returns
returns c = c.sides_between.ensures ∙ between_entire c.args.tops (search rules)
