use Rattle.std.proofs.Common.{◌≡◌, ◌++◌, map, take, drop}
use Rattle.register.proofs.Register.new.Given as goal

abbrev pub invariant-loop-entry : goal.invariant-loop-entry
invariant-loop-entry g l = l.entries ≡ map (g.E.Coded.recoded 0) (take l.entry-index l.initial.entries) ++ drop l.entry-index l.initial.entries
