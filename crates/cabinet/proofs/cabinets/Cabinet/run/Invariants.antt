use Rattle.std.proofs.Common.{◌≡◌, ℕ, List, [], take, drop}
use Rattle.history.specs.Events.{Setting, Past}
use Rattle.cabinet.specs.Memory.{understood, state}
use Rattle.cabinet.specs.Standing.{Stands}
use Rattle.cabinet.specs.Sessions.{events, left}
use Rattle.cabinet.proofs.cabinets.Cabinet.run.Given as goal

abbrev pub invariant-loop-i : goal.invariant-loop-i
invariant-loop-i g l =
    ((w : Setting) (x before : List ℕ) (past : Past) →
    Stands w x before past (understood g.B.Belief.means (state l.initial.self l.initial.register.entries.now l.initial.audit)) →
    Stands w x before (events g.B.Belief.means g.B.Belief.LETTER (take l.i l.calls) (take l.i l.returns) past)
    (understood g.B.Belief.means (state l.self l.register.entries.now l.audit)))
    × (understood g.B.Belief.means (state l.self l.register.entries.now l.audit)
    ≡ left (understood g.B.Belief.means (state l.initial.self l.initial.register.entries.now l.initial.audit))
    (events g.B.Belief.means g.B.Belief.LETTER (take l.i l.calls) (take l.i l.returns) []))
    × (drop l.i l.returns ≡ drop l.i l.initial.returns)
    × (l.register.entries.ghost_name ≡ l.initial.register.entries.ghost_name)
