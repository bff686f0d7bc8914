-- The answers, one by one.
use Rattle.std.proofs.Common.{nat_le, ◌∙◌, rules}
use Rattle.std.proofs.lemmas.Iterator.{YieldsList-from_slice}
use Rattle.std.proofs.lemmas.Iterator.Search.{all_from_yields_List}
use borrow.Author.Tests.{tests}
use Rattle.boxes.specs.Holding.{most_boxes}
use Rattle.boxes.proofs.Chains.{below_tests}
use Rattle.boxes.proofs.takers.Tally.is_few.Goals as goal

pub returns : goal.returns
returns c =
    let xs = c.args.self.now.pieces in
    all_from_yields_List (λ n. nat_le n most_boxes) _ _ _ c.all.ensures.ran (YieldsList-from_slice xs cc) (λ x b q k. search (rules, tests))
    ∙ below_tests (λ n. nat_le n most_boxes) 16 xs (search rules)
