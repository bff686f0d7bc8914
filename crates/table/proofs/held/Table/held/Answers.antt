-- The weights are those of all sheets in their order.
use Rattle.std.proofs.Common.{rules}
use Rattle.table.proofs.Loops.{held_in_order}
use Rattle.table.proofs.held.Table.held.Goals as goal

pub returns-clause-ordered : goal.returns-clause-ordered
returns-clause-ordered c = λ s. held_in_order c.args.self.now s _ (search rules)
