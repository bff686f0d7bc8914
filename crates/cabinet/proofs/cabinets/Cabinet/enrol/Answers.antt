use Rattle.std.proofs.Common.{arith, rules}
use Rattle.std.proofs.lemmas.Grind.{common_steps}
use Rattle.refusal.specs.Replies.{reply, given}
use Rattle.cabinet.specs.Memory.{state}
use Rattle.cabinet.proofs.Places.{set_changed}
use Rattle.cabinet.proofs.Standing.{enrols_on}
use Rattle.cabinet.proofs.cabinets.Cabinet.enrol.Goals as goal

pub returns-in_err-at-clause-runs : goal.returns-in_err-at-clause-runs
returns-in_err-at-clause-runs g c =
    let s = state c.args.self.now c.args.register.now.entries.now c.args.audit.now in
    enrols_on g.B.Belief.means s g.B.Belief.LETTER c.args.folder (reply c.from_residual.result) s (search rules) (search rules)

pub returns-clause-runs : goal.returns-clause-runs
returns-clause-runs g c =
    let s = state c.args.self.now c.args.register.now.entries.now c.args.audit.now in
    let t = state c.write.new.self c.put.new.self.entries.now c.write.new.audit in
    enrols_on g.B.Belief.means s g.B.Belief.LETTER c.args.folder (given c.in_ok-at.at) t (search rules) (grind (arith, common_steps, set_changed))
