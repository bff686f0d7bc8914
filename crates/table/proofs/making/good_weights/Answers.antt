-- Each weight is tested.
use Rattle.std.proofs.Common.{◌≡◌, ◌∙◌, rules}
use borrow.Author.Tests.{tests}
use Rattle.std.specs.List.{list_all}
use Rattle.std.proofs.lemmas.Iterator.{YieldsList-from_slice}
use Rattle.std.proofs.lemmas.Iterator.Search.{all_from_yields_List}
use Rattle.table.specs.Tables.{good_weight, good_weights}
use Rattle.table.proofs.Loops.{all_items}
use Rattle.table.proofs.making.good_weights.Goals as goal

pub returns : goal.returns
unfolding good_weights
returns c =
    let e : c.all.result ≡ list_all good_weight c.args.list.now = all_from_yields_List good_weight _ _ _ c.all.ensures.ran (YieldsList-from_slice c.args.list.now cc) (λ x b q k. search (rules, tests)) in
    e ∙ all_items good_weight c.args.list.now
