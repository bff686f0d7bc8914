-- Where every test is passed, the copy is the table of the list.
use Rattle.std.proofs.Common.{sym, ap, ◌∙◌, subst, rules}
use Rattle.belief.proofs.Spanned.{made_span}
use Rattle.table.specs.Tables.{tabled, Filled}
use Rattle.table.specs.Soundness.{Good, made_few, made_is, made_filled, table_copied}
use Rattle.table.proofs.held.Table.make.Goals as goal

pub returns : goal.returns
returns c =
    let f = c.args.first in
    let n = c.args.count in
    let t = c.args.tops in
    let ws = c.args.weights.now in
    let s = made_span f n t _ c.in_ok-span.ensures in
    let g : Good f n t ws = record {
      span = s.0;
      zeros = s.1;
      weights = sym c.good_list.ensures ∙ c.if-not-good_list.false;
      four = search rules;
    } in
    let same = ap (λ z. tabled z.first z.count z.tops c.padded.result) s.2 ∙ table_copied f n t ws g c.padded.result (c.padded.ensures.front (made_few f n t ws g)) in
    record {
      makes = made_is f n t ws g _ same;
      filled = subst (Filled ws) (sym same) (made_filled f n t ws g);
    }
