-- Both sides have to be whole.
use Rattle.pair.specs.Folds.{parts}
use Rattle.pair.proofs.Calls.{whole_is}
use Rattle.pair.proofs.kind.PairBelief.whole.Goals as goal

pub returns : goal.returns
returns g c = λ e.
    let p = parts (g.L.Belief.means c.args.self.now.left) (g.R.Belief.means c.args.self.now.right) (g.met.L.Belief.laws _) (g.met.R.Belief.laws _) e in
    whole_is _ _ p _ _ (c.whole.ensures p.left) (c.whole-2.ensures p.right)
