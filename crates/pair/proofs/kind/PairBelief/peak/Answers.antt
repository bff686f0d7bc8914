-- The peaks multiply.
use Rattle.pair.specs.Folds.{parts}
use Rattle.pair.proofs.Calls.{peak_is}
use Rattle.pair.proofs.kind.PairBelief.peak.Goals as goal

pub returns : goal.returns
returns g c = λ e.
    let p = parts (g.L.Belief.means c.args.self.now.left) (g.R.Belief.means c.args.self.now.right) (g.met.L.Belief.laws _) (g.met.R.Belief.laws _) e in
    peak_is _ _ p _ _ _ c.product.ensures (c.peak.ensures p.left) (c.peak-2.ensures p.right)
