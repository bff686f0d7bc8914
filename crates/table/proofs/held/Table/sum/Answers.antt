-- The sum of the weights that are held.
use Rattle.std.proofs.Common.{◌≡◌, ap, ◌∙◌, rules}
use Rattle.std.specs.List.{sum}
use Rattle.table.proofs.Loops.{total_in_order}
use Rattle.table.specs.Tables.{meaning}
use Rattle.table.proofs.held.Table.sum.Goals as goal

pub returns : goal.returns
returns c = λ s.
    let e : c.sum.result ≡ sum c.held.result.now = search rules in
    e ∙ ap sum (c.held.ensures.ordered s) ∙ total_in_order (meaning c.args.self.now)
