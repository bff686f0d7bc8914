-- The greatest of the shares.
use Rattle.std.proofs.Common.{max, refl, ap, ◌∙◌}
use Rattle.std.specs.List.{fold}
use Rattle.std.specs.Option.{unwrap_or}
use Rattle.std.specs.Ordering.{max_by_ordering, nat_cmp}
use Rattle.std.proofs.lemmas.Iterator.Consumers.{YieldsList-from_first, reduce_from_yields_List}
use Rattle.table.specs.Walks.{shares_left}
use Rattle.table.proofs.Loops.{greatest, heaviest_in_order}
use Rattle.table.specs.Tables.{meaning}
use Rattle.table.proofs.held.Table.heaviest_of.Goals as goal

pub returns : goal.returns
returns c = λ s.
    let most = reduce_from_yields_List (λ p z. max_by_ordering (nat_cmp p z) p z) _ c.max.result c.max.ensures.ran (YieldsList-from_first (λ x. x) shares_left _ refl) in
    c.unwrap_or.ensures ∙ ap (λ z. unwrap_or z 0) most ∙ greatest (shares_left c.shares.result) ∙ ap (fold max 0) (c.shares.ensures.ordered s) ∙ heaviest_in_order (meaning c.args.self.now) _ _
