-- No weight that is held is 0.
use Rattle.std.proofs.Common.{◌≡◌, nat_le, ap, ◌∙◌, rules}
use Rattle.std.specs.List.{list_all}
use Rattle.std.proofs.lemmas.Iterator.{YieldsList-from_slice}
use Rattle.std.proofs.lemmas.Iterator.Search.{all_from_yields_List}
use Rattle.table.proofs.Loops.{whole_in_order}
use Rattle.table.specs.Soundness.{shaped_is}
use Rattle.table.specs.Tables.{meaning}
use Rattle.table.proofs.kind.TableBelief.whole.Goals as goal

pub returns : goal.returns
returns c = λ s.
    let us = c.held.result.now in
    let e : c.all.result ≡ list_all (nat_le 1) us = all_from_yields_List (nat_le 1) _ _ _ c.all.ensures.ran (YieldsList-from_slice us cc) (λ x b q k. search rules) in
    e ∙ ap (list_all (nat_le 1)) (c.held.ensures.ordered (shaped_is c.args.self.now s)) ∙ whole_in_order (meaning c.args.self.now)
