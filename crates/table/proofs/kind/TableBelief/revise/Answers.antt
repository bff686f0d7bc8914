-- The weights that are kept are the revised table's.
use Rattle.std.proofs.Common.{◌≡◌, ap, ◌∙◌, subst, arith}
use Rattle.belief.specs.Meaning.{mass_of}
use Rattle.belief.proofs.Replies.{replied_carried, replied_value}
use Rattle.table.specs.Tables.{meaning}
use Rattle.table.specs.Walks.{Kept}
use Rattle.table.specs.Soundness.{shaped_is, kept_revised}
use Rattle.table.proofs.kind.TableBelief.revise.Goals as goal

pub returns-clause-leaves : goal.returns-clause-leaves
returns-clause-leaves c = λ e.
    let t = c.args.self.now in
    let u = c.keep.new.self in
    let q = c.args.question.now in
    let a = c.args.answer in
    let got = c.in_ok-question.ensures in
    let known = replied_carried (meaning t) q _ _ got in
    let same = replied_value (meaning t) q _ _ got in
    let m : c.mass_of.result ≡ mass_of (meaning t) q a = c.mass_of.ensures (shaped_is t e) ∙ ap (λ z. mass_of (meaning t) z a) same in
    let d = c.if-mass_of-eq0.false in
    kept_revised t u q a e known.carried (omega arith) (subst (λ z. Kept z a t u) same c.keep.ensures)
