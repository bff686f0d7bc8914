-- The values are those of a box of the span.
use Rattle.std.proofs.Common.{ap, ◌∙◌}
use Rattle.ranges.specs.Boxes.{fits}
use Rattle.boxes.specs.Holding.{good_edges}
use Rattle.boxes.proofs.holding.Boxes.good_edges.Goals as goal

pub returns : goal.returns
unfolding good_edges
returns c = let e = c.box_fits.ensures ∙ ap (fits c.args.self.now.span.tops) c.sides_between.ensures in cc
