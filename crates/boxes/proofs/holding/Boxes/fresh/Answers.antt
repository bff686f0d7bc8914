-- Fresh boxes are one box over the whole span.
use Rattle.std.proofs.Common.{◌≡◌, ◌<◌, length, get_or, ap, ◌∙◌, rules}
use Rattle.refusal.specs.Replies.{given, mapped}
use Rattle.boxes.specs.Holding.{most_boxes, held, boxed, single}
use Rattle.boxes.proofs.Makings.{made_good, fresh_is, entire_small, one_few, one_single}
use Rattle.boxes.proofs.holding.Boxes.fresh.Goals as goal

pub invariant_of-result : goal.invariant_of-result
invariant_of-result c =
    let l : length c.in_ok-span.span.tops ≡ 4 = search rules in
    let m : length c.none-kept.result.boxes ≡ most_boxes = search rules in
    record { four = l; few = one_few _ c.none-kept.result _ c.in_ok-span.span.tops c.single_of.ensures c.none-kept.ensures m c.push.ensures }

pub returns : goal.returns
unfolding held
returns c =
    let x = c.in_ok-span.span in
    let l : length x.tops ≡ 4 = search rules in
    let m : length c.none-kept.result.boxes ≡ most_boxes = search rules in
    let t0 : get_or x.tops 0 0 < 256 = search rules in
    let t1 : get_or x.tops 1 0 < 256 = search rules in
    let t2 : get_or x.tops 2 0 < 256 = search rules in
    let t3 : get_or x.tops 3 0 < 256 = search rules in
    let one = one_single _ c.none-kept.result _ x.tops c.single_of.ensures c.none-kept.ensures m c.push.ensures in
    let g = made_good c.args.first c.args.count c.args.tops x c.in_ok-span.ensures in
    record {
      makes = ap (λ z. given (boxed x.first x.count x.tops z)) one ∙ ap (mapped (λ x. boxed x.first x.count x.tops (single x.tops))) c.in_ok-span.ensures;
      fresh = rw one (fresh_is x.first x.count x.tops g.0 g.1 l (entire_small x.tops l t0 t1 t2 t3));
    }
