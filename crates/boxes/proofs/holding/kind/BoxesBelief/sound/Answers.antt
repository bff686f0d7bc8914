-- Soundness in its two parts.
use Rattle.boxes.specs.Holding.{sound_in}
use Rattle.boxes.proofs.holding.kind.BoxesBelief.sound.Goals as goal

pub returns : goal.returns
unfolding sound_in
returns c = let a = c.is_good.ensures in let b = c.is_boxed.ensures in cc
