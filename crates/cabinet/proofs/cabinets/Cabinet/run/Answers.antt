use Rattle.std.proofs.Common.{◌≡◌, ◌<◌, ◌≤◌, min, [], length, ◌∙◌, subst, arith}
use Rattle.history.specs.Events.{Past}
use Rattle.cabinet.specs.Memory.{state, understood}
use Rattle.cabinet.specs.Standing.{Stands}
use Rattle.cabinet.specs.Sessions.{event, left, Turns}
use Rattle.cabinet.specs.declared.requests.Call.{Call}
use Rattle.cabinet.proofs.Turning.{events_cut, stands_more, left_more, rest_more, rest_all}
use Rattle.cabinet.proofs.cabinets.Cabinet.run.Goals as goal

pub loop-i-preserved : goal.loop-i-preserved
loop-i-preserved g c =
    let m = g.B.Belief.means in
    let k = g.B.Belief.LETTER in
    let cs = c.args.calls.now in
    let rs = c.loop-i.returns in
    let i = c.loop-i.i in
    let d = c.index-calls-i.result in
    let r = c.call.result in
    let h : i < length cs = omega arith in
    let l : i < length rs = omega arith in
    let s = understood m (state c.loop-i.self c.loop-i.register.entries.now c.loop-i.audit) in
    let t = understood m (state c.call.new.self c.call.new.register.entries.now c.call.new.audit) in
    let begun = understood m (state c.args.self.now c.args.register.now.entries.now c.args.audit.now) in
    let turns = subst (λ (call : Call g.row.B.Denot). Turns s (event m k call r) t) c.index-calls-i.is c.call.ensures.turns in (
      (λ w x before past st. stands_more m k cs rs i d r h l s t w x before past turns (c.loop-i.invariant.0 w x before past st)),
      left_more m k cs rs i d r h l begun s t turns c.loop-i.invariant.1,
      rest_more m k c.args.returns.now rs i r c.loop-i.invariant.2,
      c.call.ensures.lent ∙ c.loop-i.invariant.3,
    )

pub returns : goal.returns
returns g c =
    let m = g.B.Belief.means in
    let k = g.B.Belief.LETTER in
    let cs = c.args.calls.now in
    let rs = c.loop-i.returns in
    let i = c.loop-i.i in
    let h : min (length cs) (length rs) ≤ i = omega arith in
    let n : i ≡ min (length cs) (length rs) = omega arith in
    let l : length rs ≡ length c.args.returns.now = omega arith in
    let t = understood m (state c.loop-i.self c.loop-i.register.entries.now c.loop-i.audit) in
    let begun = understood m (state c.args.self.now c.args.register.now.entries.now c.args.audit.now) in
    record {
      stands = λ w x before past st. subst (λ (p : Past). Stands w x before p t) (events_cut m k i cs rs past h) (c.loop-i.invariant.0 w x before past st);
      memory = subst (λ (p : Past). t ≡ left begun p) (events_cut m k i cs rs [] h) c.loop-i.invariant.1;
      others = rest_all m k (length cs) i c.args.returns.now rs l n c.loop-i.invariant.2;
      lent = c.loop-i.invariant.3;
    }
