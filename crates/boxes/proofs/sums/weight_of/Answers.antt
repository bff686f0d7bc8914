-- The first box in which the sheet lies.
use Rattle.std.proofs.Common.{ap, ◌∙◌, rules}
use Rattle.std.specs.Option.{unwrap_or, option_map}
use Rattle.std.proofs.lemmas.Iterator.{YieldsList-from_slice}
use Rattle.std.proofs.lemmas.Iterator.Search.{find_from_yields_List}
use borrow.Author.Tests.{tests}
use Rattle.ranges.specs.Boxes.{inside}
use Rattle.boxes.proofs.Chains.{map_or_is, weight_first}
use Rattle.boxes.proofs.sums.weight_of.Goals as goal

pub returns : goal.returns
returns c =
    let e = find_from_yields_List (λ b. inside b.sides c.args.sheet) _ _ c.find.result c.find.ensures.ran (YieldsList-from_slice c.args.boxes.now cc) (λ x b q k. search (rules, tests)) in
    λ d.
    map_or_is c.find.result (λ x. x.now) (λ b. b.weight) _ c.map_or.ensures (λ x k. search rules) ∙ ap (λ o. unwrap_or (option_map (λ b. b.weight) o) 0) e ∙ weight_first c.args.boxes.now c.args.sheet d
