-- The shape and the total are tested.
use Rattle.std.proofs.Common.{◌≡◌, ◌&&◌, sym, ap, ◌∙◌, rules}
use Rattle.belief.specs.Meaning.{total_of}
use Rattle.belief.specs.Spans.{good_total}
use Rattle.table.specs.Tables.{meaning}
use Rattle.table.proofs.kind.TableBelief.sound.Goals as goal

pub returns-then-is_shaped : goal.returns-then-is_shaped
unfolding total_of
returns-then-is_shaped c =
    let e = sym c.is_shaped.ensures ∙ c.if-is_shaped.true in
    let sum = c.sum.ensures (record { is = e }) in
    let total : c.good_total.result ≡ good_total c.sum.result = search rules in
    total ∙ ap good_total sum ∙ ap (λ b. b && good_total (total_of (meaning c.args.self.now))) (sym e)
