-- What is left of the script falls with each line.
use Rattle.std.proofs.Common.{◌≤◌, length}
use Rattle.programs.proofs.reading.ScriptIterator.next.Given as goal

abbrev pub invariant-loop-text : goal.invariant-loop-text
invariant-loop-text l = length l.self.lines.rest.now ≤ length l.initial.self.lines.rest.now

abbrev pub decreases-loop-text : goal.decreases-loop-text
decreases-loop-text l = length l.self.lines.rest.now
