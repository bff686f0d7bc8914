-- The product of the four counts is the size.
use Rattle.std.proofs.Common.{rules}
use Rattle.table.proofs.Fours.{size_four}
use Rattle.table.proofs.places.size_of.Goals as goal

pub returns : goal.returns
returns c = simp (c.from.ensures, c.from-2.ensures, c.from-3.ensures, c.from-4.ensures) (size_four c.args.tops (search rules))
