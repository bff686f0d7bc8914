-- The sum of the shares.
use Rattle.std.proofs.Common.{◌≡◌, refl, ap, ◌∙◌}
use Rattle.std.specs.List.{sum}
use Rattle.std.proofs.lemmas.Iterator.Consumers.{YieldsList-from_first, sum_from_yields_List}
use Rattle.table.specs.Walks.{shares_left}
use Rattle.table.proofs.Loops.{mass_in_order}
use Rattle.table.specs.Tables.{meaning}
use Rattle.table.proofs.held.Table.mass_of.Goals as goal

pub returns : goal.returns
returns c = λ s.
    let e : c.sum.result ≡ sum (shares_left c.shares.result) = sum_from_yields_List _ _ c.sum.ensures.ran (YieldsList-from_first (λ x. x) shares_left _ refl) in
    e ∙ ap sum (c.shares.ensures.ordered s) ∙ mass_in_order (meaning c.args.self.now) _ _
