use Rattle.std.proofs.Common.{[], rules}
use Rattle.cabinet.specs.Sessions.{events}
use Rattle.cabinet.proofs.Turning.{session_served}
use Rattle.cabinet.proofs.sessions.session.Goals as goal

pub returns-clause-served : goal.returns-clause-served
returns-clause-served g c =
    let m = g.B.Belief.means in
    let made = c.in_ok-cabinet.ensures in
    let h = events m g.B.Belief.LETTER c.args.calls.now c.run.new.returns [] in
    session_served m c.args.count c.args.tops c.args.sheet c.in_ok-cabinet.cabinet c.run.new.self
    c.args.folders.now c.new-register.result.entries.now c.run.new.register.entries.now _ c.args.audit.now c.run.new.audit h
    made.result made.begins c.new-register.ensures.freed (search rules) (λ w x bytes. c.run.ensures.stands w x bytes []) c.run.ensures.memory
