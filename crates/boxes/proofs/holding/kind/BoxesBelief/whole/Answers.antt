-- Sound boxes are whole if they hold as many sheets as the span.
use Rattle.boxes.specs.Returns.{parts, whole_returns}
use Rattle.boxes.proofs.holding.kind.BoxesBelief.whole.Goals as goal

pub returns : goal.returns
returns c = λ e. whole_returns c.args.self.now _ c.held.ensures (parts _ e) _ _ c.volumes_of.ensures c.sheets.ensures.is c.sheets.ensures.small
