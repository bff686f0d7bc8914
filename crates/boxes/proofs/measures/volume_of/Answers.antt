-- The product of four widths.
use Rattle.std.proofs.Common.{rules}
use Rattle.boxes.proofs.Fours.{four_volume, products}
use Rattle.boxes.proofs.measures.volume_of.Goals as goal

pub returns-clause-is : goal.returns-clause-is
returns-clause-is c = simp (c.width_of.ensures.is, c.width_of-2.ensures.is, c.width_of-3.ensures.is, c.width_of-4.ensures.is) (four_volume c.args.sides (search rules))

pub returns-clause-small : goal.returns-clause-small
returns-clause-small c = (products _ _ _ _ c.width_of.ensures.small c.width_of-2.ensures.small c.width_of-3.ensures.small c.width_of-4.ensures.small).fourth
