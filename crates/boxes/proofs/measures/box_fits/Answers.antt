-- A box fits the tops side by side.
use Rattle.std.proofs.Common.{◌&&◌, nat_le, ◌∙◌, rules}
use Rattle.std.proofs.lemmas.Iterator.{YieldsList-from_slice, YieldsList-from_zip}
use Rattle.std.proofs.lemmas.Iterator.Search.{all_from_yields_List}
use borrow.Author.Tests.{tests}
use Rattle.boxes.proofs.Fours.{fits_pairs}
use Rattle.boxes.proofs.measures.box_fits.Goals as goal

pub returns : goal.returns
returns c =
    all_from_yields_List (λ p. nat_le p.1.low p.1.high && nat_le p.1.high p.0) c.all.new.self _ _ c.all.ensures.ran (YieldsList-from_zip (YieldsList-from_slice c.args.tops cc) (YieldsList-from_slice c.args.sides cc)) (λ x b q k. search (rules, tests))
    ∙ fits_pairs c.args.tops c.args.sides (search rules)
