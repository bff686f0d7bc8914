-- A field has its top on one side, and 0 on the other.
use Rattle.std.proofs.Common.{get_or, refl, ap, rules}
use Rattle.pair.specs.Folds.{parts}
use Rattle.pair.specs.Soundness.{tops_fit, four_tops}
use Rattle.pair.proofs.kind.PairBelief.tops.Goals as goal

pub returns : goal.returns
returns g c = λ e.
    let l = g.L.Belief.means c.args.self.now.left in
    let r = g.R.Belief.means c.args.self.now.right in
    let p = parts l r (g.met.L.Belief.laws _) (g.met.R.Belief.laws _) e in
    let a = c.tops.ensures p.left in
    let b = c.tops-2.ensures p.right in
    let u = c.tops.result in
    let v = c.tops-2.result in
    four_tops l r p _ _ _ _
    (tops_fit l r p 0 (get_or u 0 0) (get_or v 0 0) _ (ap (λ z. get_or z 0 0) a) (ap (λ z. get_or z 0 0) b) (search rules) (search rules) c.saturating_add.ensures _ refl)
    (tops_fit l r p 1 (get_or u 1 0) (get_or v 1 0) _ (ap (λ z. get_or z 1 0) a) (ap (λ z. get_or z 1 0) b) (search rules) (search rules) c.saturating_add-2.ensures _ refl)
    (tops_fit l r p 2 (get_or u 2 0) (get_or v 2 0) _ (ap (λ z. get_or z 2 0) a) (ap (λ z. get_or z 2 0) b) (search rules) (search rules) c.saturating_add-3.ensures _ refl)
    (tops_fit l r p 3 (get_or u 3 0) (get_or v 3 0) _ (ap (λ z. get_or z 3 0) a) (ap (λ z. get_or z 3 0) b) (search rules) (search rules) c.saturating_add-4.ensures _ refl)
