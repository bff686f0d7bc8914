-- A sheet lies in a box value by value.
use Rattle.std.proofs.Common.{◌&&◌, nat_le, ◌∙◌, rules}
use Rattle.std.proofs.lemmas.Iterator.{YieldsList-from_slice, YieldsList-from_zip}
use Rattle.std.proofs.lemmas.Iterator.Search.{all_from_yields_List}
use borrow.Author.Tests.{tests}
use Rattle.boxes.proofs.Fours.{inside_pairs}
use Rattle.boxes.proofs.measures.is_inside.Goals as goal

pub returns : goal.returns
returns c =
    all_from_yields_List (λ p. nat_le p.0.low p.1 && nat_le p.1 p.0.high) c.all.new.self _ _ c.all.ensures.ran (YieldsList-from_zip (YieldsList-from_slice c.args.sides cc) (YieldsList-from_slice c.args.sheet cc)) (λ x b q k. search (rules, tests))
    ∙ inside_pairs c.args.sides c.args.sheet (search rules)
