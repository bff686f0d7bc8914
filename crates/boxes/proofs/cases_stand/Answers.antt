-- The worked cases, computed.
use Rattle.boxes.proofs.Standing.{hold}
use Rattle.boxes.proofs.cases_stand.Goals as goal

pub returns : goal.returns
returns c = hold
