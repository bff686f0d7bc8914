-- The greatest of the weights that are held.
use Rattle.std.proofs.Common.{max, ap, ◌∙◌, rules}
use Rattle.std.specs.List.{fold}
use Rattle.std.specs.Option.{unwrap_or}
use Rattle.std.specs.Ordering.{max_by_ordering, nat_cmp}
use Rattle.std.proofs.lemmas.Iterator.{YieldsList-from_slice, YieldsList-from_map}
use Rattle.std.proofs.lemmas.Iterator.Consumers.{reduce_from_yields_List}
use Rattle.std.proofs.lemmas.List.Folds.{max_of_map}
use Rattle.table.proofs.Loops.{peak_in_order}
use Rattle.table.specs.Soundness.{shaped_is}
use Rattle.table.specs.Tables.{meaning}
use Rattle.table.proofs.kind.TableBelief.peak.Goals as goal

pub returns : goal.returns
returns c = λ s.
    let us = c.held-held.result.now in
    let most = reduce_from_yields_List (λ p z. max_by_ordering (nat_cmp p z) p z) _ c.max.result c.max.ensures.ran (YieldsList-from_map _ (λ x. x) (YieldsList-from_slice us cc) c.map.ensures.closure (λ x r q k. search rules)) in
    c.unwrap_or.ensures ∙ ap (λ z. unwrap_or z 0) most ∙ max_of_map (λ x. x) us ∙ ap (fold max 0) (c.held-held.ensures.ordered (shaped_is c.args.self.now s)) ∙ peak_in_order (meaning c.args.self.now)
