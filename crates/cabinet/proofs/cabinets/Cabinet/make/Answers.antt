use Rattle.std.proofs.Common.{◌≡◌, true, false, length, sym, ◌∙◌, ltb, rules, tests}
use Rattle.std.proofs.lemmas.Iterator.{YieldsList-from_slice, YieldsList-from_zip}
use Rattle.std.proofs.lemmas.Iterator.Consumers.{YieldsList-at}
use Rattle.std.proofs.lemmas.Iterator.Search.{any_from_yields_List}
use Rattle.cabinet.proofs.Made.{over, unspanned, spanned}
use Rattle.cabinet.proofs.Standing.{begins}
use Rattle.cabinet.proofs.cabinets.Cabinet.make.Goals as goal

pub returns-in_err-make-clause-result : goal.returns-in_err-make-clause-result
returns-in_err-make-clause-result c =
    let by = unspanned c.args.count c.args.tops c.args.sheet (search rules) (search rules) in
    search (rules, by)

pub returns-then-any-clause-result : goal.returns-then-any-clause-result
returns-then-any-clause-result c =
    let found : c.any.result ≡ over c.args.tops c.args.sheet
    = any_from_yields_List (λ p. ltb p.1 p.0) c.any.new.self _ c.any.result c.any.ensures.ran (YieldsList-from_zip (YieldsList-at c.zip.ensures.first (YieldsList-from_slice c.args.sheet c.iter.ensures.rest)) (YieldsList-at c.zip.ensures.second (YieldsList-from_slice c.args.tops c.iter-2.ensures.rest))) (λ x b q k. search (rules, tests)) in
    spanned c.args.count c.args.tops c.args.sheet (search rules) (search rules) _ true c.in_ok-make.ensures (sym c.if-any.true ∙ found)

pub returns : goal.returns
returns c =
    let found : c.any.result ≡ over c.args.tops c.args.sheet
    = any_from_yields_List (λ p. ltb p.1 p.0) c.any.new.self _ c.any.result c.any.ensures.ran (YieldsList-from_zip (YieldsList-at c.zip.ensures.first (YieldsList-from_slice c.args.sheet c.iter.ensures.rest)) (YieldsList-at c.zip.ensures.second (YieldsList-from_slice c.args.tops c.iter-2.ensures.rest))) (λ x b q k. search (rules, tests)) in
    let four : length c.args.tops ≡ 4 = search rules in
    let sheet-four : length c.args.sheet ≡ 4 = search rules in
    let result = spanned c.args.count c.args.tops c.args.sheet four sheet-four _ false c.in_ok-make.ensures (sym c.if-any.false ∙ found) in
    record { result = result; begins = begins c.args.count c.args.tops c.args.sheet four sheet-four result }
