use Rattle.std.proofs.Common.{◌≡◌, ◌&&◌, ltb}
use Rattle.belief.specs.Meaning.{mass_of}
use Rattle.history.specs.Judging.{some_below, is_telling_at}
use Rattle.cabinet.proofs.Left.{mass_from}
use Rattle.cabinet.proofs.judging.judge.Given as goal

-- the answers before this one, and what the others weigh
abbrev pub invariant-loop-a : goal.invariant-loop-a
invariant-loop-a g l =
    let m = g.B.Belief.means l.folder.belief in
    (l.possible ≡ (ltb l.answer l.a && ltb 0 (mass_of m l.question l.answer))) ×
    (l.telling ≡ some_below l.a (is_telling_at m l.question l.folder.threshold.n l.folder.threshold.d)) ×
    (l.left ≡ mass_from m l.question l.a)
