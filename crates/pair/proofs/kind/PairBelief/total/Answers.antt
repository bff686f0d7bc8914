-- The totals multiply.
use Rattle.pair.specs.Folds.{parts}
use Rattle.pair.proofs.Calls.{total_is}
use Rattle.pair.proofs.kind.PairBelief.total.Goals as goal

pub returns : goal.returns
returns g c = λ e.
    let p = parts (g.L.Belief.means c.args.self.now.left) (g.R.Belief.means c.args.self.now.right) (g.met.L.Belief.laws _) (g.met.R.Belief.laws _) e in
    total_is _ _ p _ _ _ c.product.ensures (c.total.ensures p.left) (c.total-2.ensures p.right)
