-- One sheet more, and all.
use Rattle.std.proofs.Common.{◌<◌, cond, eqb, length, sym, refl, ap, ◌∙◌, arith}
use Rattle.question.specs.Questions.{answers}
use Rattle.question.specs.Texts.{text}
use Rattle.table.proofs.Fours.{stands_first}
use Rattle.table.specs.Order.{place_below}
use Rattle.table.proofs.Loops.{share_is, write_more, write_rest, next_along}
use Rattle.table.proofs.held.Table.keep.Goals as goal

pub loop-i-init : goal.loop-i-init
loop-i-init c = (refl, λ j h. absurd (omega arith), λ j h. refl, λ h. stands_first c.args.self.now.span.tops c.args.self.now.four)

pub loop-i-preserved : goal.loop-i-preserved
loop-i-preserved c =
    let t = c.args.self.now in
    let u = c.loop-i.self in
    let i = c.loop-i.i in
    let v = c.loop-i.invariant in
    let q = text c.args.question.now in
    let a = c.args.answer in
    let here = v.3 (omega arith) in
    let long : i < length u.weights = let p = u.places in omega arith in
    let is = share_is q t.span.tops t.weights c.loop-i.sheet a i _ t.four here (c.share.ensures ∙ ap (λ z. cond (eqb (answers q c.loop-i.sheet) a) z 0) (v.2 i (omega arith))) in
    (v.0, write_more _ u.weights i _ long v.1 is, write_rest u.weights t.weights i _ v.2, next_along u.span.tops t.span.tops _ _ i (ap (λ z. z.tops) v.0) c.next-after.ensures.stands here)

pub returns : goal.returns
returns c =
    let t = c.args.self.now in
    let v = c.loop-i.invariant in
    record {
      span = v.0;
      weights = λ s l f p.
          let b = place_below t.span.tops s (l ∙ sym t.four) f in
          v.1 _ (omega arith) ∙ sym (share_is _ t.span.tops t.weights s c.args.answer _ _ t.four (record { four = l; fits = f; place = refl }) refl);
    }
