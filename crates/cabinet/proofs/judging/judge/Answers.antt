use Rattle.std.proofs.Common.{◌≡◌, ℕ, ltb, ap, arith}
use Rattle.belief.specs.Meaning.{mass_of, heaviest_of}
use Rattle.history.specs.Judging.{is_telling_at}
use Rattle.cabinet.proofs.Judged.{some_more, own_more, given_is, exceeds_is}
use Rattle.cabinet.proofs.Left.{from_next}
use Rattle.cabinet.proofs.judging.judge.Goals as goal

pub loop-a-preserved : goal.loop-a-preserved
loop-a-preserved g c =
    let m = g.B.Belief.means c.args.folder.now.belief in
    let q = c.args.question.now in
    let a = c.loop-a.a in
    let f = c.args.folder.now in
    let e = given_is _ (mass_of m q a, heaviest_of m q a) c.in_ok-mass.ensures in
    let mass : c.in_ok-mass.mass ≡ mass_of m q a = ap (λ (p : ℕ × ℕ). p.0) e in
    let most : c.in_ok-mass.heaviest ≡ heaviest_of m q a = ap (λ (p : ℕ × ℕ). p.1) e in (
      own_more (λ k. ltb 0 (mass_of m q k)) c.args.answer a _ _ c.loop-a.invariant.0 (ap (ltb 0) mass),
      some_more (is_telling_at m q f.threshold.n f.threshold.d) a _ _ c.loop-a.invariant.1 (exceeds_is m q f.threshold.n f.threshold.d a _ _ _ c.is_exceeded_by.ensures mass most),
      omega (arith, mass, c.loop-a.invariant.2, from_next m q a),
    )
