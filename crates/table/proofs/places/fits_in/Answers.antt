-- Each value is tested against its top.
use Rattle.std.proofs.Common.{◌≡◌, nat_le, ◌∙◌, rules}
use borrow.Author.Tests.{tests}
use Rattle.std.specs.List.{list_all, zip}
use Rattle.std.proofs.lemmas.Iterator.{YieldsList-from_slice, YieldsList-from_zip}
use Rattle.std.proofs.lemmas.Iterator.Search.{all_from_yields_List}
use Rattle.table.proofs.Fours.{fits_zip}
use Rattle.table.proofs.places.fits_in.Goals as goal

pub returns : goal.returns
returns c =
    let e : c.all.result ≡ list_all (λ p. nat_le p.1 p.0) (zip c.args.tops c.args.sheet) =
    all_from_yields_List (λ p. nat_le p.1 p.0) c.all.new.self _ _ c.all.ensures.ran (YieldsList-from_zip (YieldsList-from_slice c.args.tops cc) (YieldsList-from_slice c.args.sheet cc)) (λ x b q k. search (rules, tests)) in
    e ∙ fits_zip c.args.tops c.args.sheet
