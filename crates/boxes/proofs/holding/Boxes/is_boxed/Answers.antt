-- The tests of all boxes.
use Rattle.boxes.specs.Returns.{boxed_is}
use Rattle.boxes.proofs.holding.Boxes.is_boxed.Goals as goal

pub returns : goal.returns
returns c = boxed_is c.args.self.now _ c.held-boxes.ensures _ _ _ _ c.all_fit.ensures c.all_apart.ensures c.total_of.ensures c.good_total.ensures
