-- The peak of sound boxes.
use Rattle.boxes.specs.Returns.{parts, peak_returns}
use Rattle.boxes.proofs.holding.kind.BoxesBelief.peak.Goals as goal

pub returns : goal.returns
returns c = λ e. peak_returns c.args.self.now _ c.held.ensures (parts _ e) _ c.peak_of.ensures
