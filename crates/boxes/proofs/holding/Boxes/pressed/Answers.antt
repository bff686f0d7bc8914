-- The pieces that were pressed.
use Rattle.std.proofs.Common.{rules}
use Rattle.boxes.proofs.Leans.{press_holds}
use Rattle.boxes.proofs.holding.Boxes.pressed.Goals as goal

pub returns : goal.returns
returns c =
    press_holds c.args.around c.args.factor c.none.result _ _ _ _ _ c.edges_of.ensures c.held.ensures c.none.ensures (search rules) c.hand_all.ensures
