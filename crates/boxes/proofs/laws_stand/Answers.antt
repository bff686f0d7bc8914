-- The laws stand.
use Rattle.boxes.proofs.Standing.{combined, sorts, answer, soundness}
use Rattle.boxes.proofs.laws_stand.Goals as goal

pub returns : goal.returns
returns c = record { combined = combined; sorts = sorts; answers = answer; sound = soundness }
