-- The place by the four counts is the place.
use Rattle.std.proofs.Common.{rules}
use Rattle.table.proofs.Fours.{place_four}
use Rattle.table.proofs.places.place_of.Goals as goal

pub returns : goal.returns
returns c = simp (c.from-last.ensures, c.from.ensures, c.from-2.ensures, c.from-3.ensures, c.from-4.ensures, c.from-5.ensures, c.from-6.ensures) (place_four c.args.tops c.args.sheet (search rules) (search rules))
