-- The total of sound boxes.
use Rattle.boxes.specs.Returns.{parts, total_returns}
use Rattle.boxes.proofs.holding.kind.BoxesBelief.total.Goals as goal

pub returns : goal.returns
returns c = λ e. total_returns c.args.self.now _ c.held.ensures (parts _ e) _ c.total_of.ensures
