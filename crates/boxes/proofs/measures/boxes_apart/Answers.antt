-- Boxes are apart if some side is.
use Rattle.std.proofs.Common.{◌||◌, nat_lt, ◌∙◌, rules}
use Rattle.std.proofs.lemmas.Iterator.{YieldsList-from_slice, YieldsList-from_zip}
use Rattle.std.proofs.lemmas.Iterator.Search.{any_from_yields_List}
use borrow.Author.Tests.{tests}
use Rattle.boxes.proofs.Fours.{apart_pairs}
use Rattle.boxes.proofs.measures.boxes_apart.Goals as goal

pub returns : goal.returns
returns c =
    any_from_yields_List (λ p. nat_lt p.0.high p.1.low || nat_lt p.1.high p.0.low) c.any.new.self _ _ c.any.ensures.ran (YieldsList-from_zip (YieldsList-from_slice c.args.left cc) (YieldsList-from_slice c.args.right cc)) (λ x b q k. search (rules, tests))
    ∙ apart_pairs c.args.left c.args.right
