-- No boxes over no span.
use Rattle.std.proofs.Common.{refl}
use Rattle.boxes.proofs.Makings.{blank}
use Rattle.boxes.proofs.holding.making.BoxesDefault.default.Goals as goal

pub returns : goal.returns
returns c = blank _ refl refl refl c.none.ensures
