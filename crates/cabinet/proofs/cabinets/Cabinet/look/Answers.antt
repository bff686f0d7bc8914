use Rattle.std.proofs.Common.{rules}
use Rattle.refusal.specs.Replies.{reply, given}
use Rattle.cabinet.specs.declared.views.View.{View}
use Rattle.cabinet.specs.Memory.{state}
use Rattle.cabinet.proofs.Standing.{looks_on}
use Rattle.cabinet.proofs.cabinets.Cabinet.look.Goals as goal

pub returns-in_err-at-clause-runs : goal.returns-in_err-at-clause-runs
returns-in_err-at-clause-runs g c = λ audit. looks_on g.B.Belief.means (state c.args.self.now c.args.register.now.entries.now audit) c.args.code (reply c.from_residual.result) (search rules)

pub returns-clause-runs : goal.returns-clause-runs
returns-clause-runs g c =
    let shown : View = record { total = c.total.result; peak = c.peak.result; threshold = c.index-folders-at.result.threshold } in
    λ audit. looks_on g.B.Belief.means (state c.args.self.now c.args.register.now.entries.now audit) c.args.code (given shown) (search rules)
