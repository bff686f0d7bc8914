-- The weight of a sheet in sound boxes.
use Rattle.boxes.specs.Returns.{parts, weight_returns}
use Rattle.boxes.proofs.holding.kind.BoxesBelief.weight.Goals as goal

pub returns : goal.returns
returns c = λ e. weight_returns c.args.self.now _ c.held.ensures (parts _ e) _ c.args.sheet _ c.only.ensures c.weight_of.ensures
