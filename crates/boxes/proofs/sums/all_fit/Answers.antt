-- Each box against the tops.
use Rattle.std.proofs.Common.{◌&&◌, nat_le, ◌∙◌, rules}
use Rattle.std.proofs.lemmas.Iterator.{YieldsList-from_slice}
use Rattle.std.proofs.lemmas.Iterator.Search.{all_from_yields_List}
use borrow.Author.Tests.{tests}
use Rattle.ranges.specs.Boxes.{fits}
use Rattle.boxes.proofs.Chains.{fit_tests}
use Rattle.boxes.proofs.sums.all_fit.Goals as goal

pub returns : goal.returns
returns c =
    all_from_yields_List (λ b. fits c.args.tops b.sides && nat_le 1 b.weight) _ _ _ c.all.ensures.ran (YieldsList-from_slice c.args.boxes.now cc) (λ x b q k. search (rules, tests))
    ∙ fit_tests c.args.tops c.args.boxes.now
