use Rattle.std.proofs.Common.{◌≡◌, ℕ, get_or, set, refl, ap, rules}
use Rattle.refusal.specs.Replies.{Reply, reply, given, declined, number_of, place_of}
use Rattle.cabinet.specs.Calls.{hearing, after_asking}
use Rattle.cabinet.specs.Memory.{state, filed, meant, understood}
use Rattle.cabinet.proofs.Heard.{heard, others}
use Rattle.cabinet.proofs.Standing.{asks_on}
use Rattle.cabinet.proofs.Weighed.{replies, same_state}
use Rattle.cabinet.proofs.cabinets.Cabinet.ask.Goals as goal

pub returns-in_err-at-clause-runs : goal.returns-in_err-at-clause-runs
returns-in_err-at-clause-runs g c =
    let s = state c.args.self.now c.args.register.now.entries.now c.args.audit.now in
    asks_on g.B.Belief.means s c.args.code c.args.question.now (reply c.from_residual.result) s (search rules) (search rules)

pub returns-in_ok-revise-in-Ok : goal.returns-in_ok-revise-in-Ok
returns-in_ok-revise-in-Ok g c =
    let m = g.B.Belief.means in
    let found = c.in_ok-at.ensures in
    let q = c.args.question.now in
    let a = c.in-Ok.answer in
    let fs = c.args.register.now.entries.now in
    let d = c.index-register-at-in-Ok.result in
    let old = get_or fs c.in_ok-at.at d in
    let f = filed old.code old.threshold c.revise.new.self in
    let s = state c.args.self.now fs c.args.audit.now in
    let t = state c.write.new.self (set fs c.in_ok-at.at f) c.write.new.audit in
    let memory : understood m t ≡ after_asking (understood m s) c.args.code q (given a)
    = same_state c.write.ensures.counts (heard m c.args.code (hearing q a) f d fs c.in_ok-at.at found.at (ap (filed _ _) (c.in_ok-revise-in-Ok.ensures.leaves (found.sound d)))) c.write.ensures.writes in
    record {
      result = search rules;
      memory = memory;
      others = λ k. others c.args.code f d k fs c.in_ok-at.at found.at refl;
      lent = refl;
      runs = asks_on m s c.args.code q (given a) t (search rules) memory;
    }

pub returns-then-is_written-clause-runs : goal.returns-then-is_written-clause-runs
returns-then-is_written-clause-runs g c =
    let s = state c.args.self.now c.args.register.now.entries.now c.args.audit.now in
    let t = state c.write-then-is_written.new.self c.args.register.now.entries.now c.write-then-is_written.new.audit in
    asks_on g.B.Belief.means s c.args.code c.args.question.now (declined (number_of c.in-Err.refusal) (place_of c.in-Err.refusal)) t (search rules) (search rules)

pub returns-else-is_written-clause-runs : goal.returns-else-is_written-clause-runs
returns-else-is_written-clause-runs g c =
    let s = state c.args.self.now c.args.register.now.entries.now c.args.audit.now in
    let f = meant g.B.Belief.means (get_or s.folders c.in_ok-at.at c.index-register-at.result) in
    let r : Reply ℕ = declined (number_of c.in-Err.refusal) (place_of c.in-Err.refusal) in
    let result = replies (understood g.B.Belief.means s) c.args.question.now f c.args.code r (c.in-Err.ensures.result s.folders c.args.code) (c.in_ok-at.ensures.folder c.index-register-at.result) in
    asks_on g.B.Belief.means s c.args.code c.args.question.now r s result (search rules)
