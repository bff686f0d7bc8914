-- One box against each of the others.
use Rattle.std.proofs.Common.{◌∙◌, rules}
use Rattle.std.proofs.lemmas.Iterator.{YieldsList-from_slice}
use Rattle.std.proofs.lemmas.Iterator.Search.{all_from_yields_List}
use borrow.Author.Tests.{tests}
use Rattle.ranges.specs.Boxes.{apart}
use Rattle.boxes.proofs.Chains.{apart_tests}
use Rattle.boxes.proofs.sums.apart_from.Goals as goal

pub returns : goal.returns
returns c =
    all_from_yields_List (λ b. apart c.args.sides b.sides) _ _ _ c.all.ensures.ran (YieldsList-from_slice c.args.boxes.now cc) (λ x b q k. search (rules, tests))
    ∙ apart_tests c.args.sides c.args.boxes.now
