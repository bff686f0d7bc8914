use Rattle.std.proofs.Common.{sym, subst}
use Rattle.refusal.specs.Replies.{reply}
use Rattle.cabinet.specs.Memory.{state, understood}
use Rattle.cabinet.specs.Sessions.{event, Turns}
use Rattle.cabinet.specs.declared.requests.Call.{Call}
use Rattle.cabinet.specs.declared.requests.Return.TheVariants.{Enrolled}
use Rattle.cabinet.proofs.Turning.{enrol_memory}
use Rattle.cabinet.proofs.cabinets.Cabinet.call.Goals as goal

pub returns-in-Enrol-clause-turns : goal.returns-in-Enrol-clause-turns
returns-in-Enrol-clause-turns g c =
    let e = c.enrol.ensures in
    let m = g.B.Belief.means in
    let k = g.B.Belief.LETTER in
    let s = state c.args.self.now c.args.register.now.entries.now c.args.audit.now in
    let t = state c.enrol.new.self c.enrol.new.register.entries.now c.enrol.new.audit in
    subst (λ (call : Call g.row.B.Denot). Turns (understood m s) (event m k call (Enrolled c.enrol.result)) (understood m t)) (sym c.in-Enrol.is)
    (record { memory = enrol_memory m s t k c.in-Enrol.folder (reply c.enrol.result) e.memory; goes = e.runs })
