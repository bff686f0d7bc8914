-- What is left of the words falls with each item.
use Rattle.std.proofs.Common.{length}
use Rattle.programs.proofs.plans.Plan.read.Given as goal

abbrev pub decreases-loop-items : goal.decreases-loop-items
decreases-loop-items g l = length l.words.rest.now
