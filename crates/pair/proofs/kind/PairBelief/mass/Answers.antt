-- The mass of one side times the total of the other.
use Rattle.pair.specs.Folds.{parts}
use Rattle.pair.proofs.Calls.{left_found, right_found, mass_left_is, mass_right_is}
use Rattle.pair.proofs.kind.PairBelief.mass.Goals as goal

pub returns-in_ok-share-in-Some-Left : goal.returns-in_ok-share-in-Some-Left
returns-in_ok-share-in-Some-Left g c = λ e.
    let l = g.L.Belief.means c.args.self.now.left in
    let r = g.R.Belief.means c.args.self.now.right in
    let p = parts l r (g.met.L.Belief.laws _) (g.met.R.Belief.laws _) e in
    let q = c.args.question.now in
    mass_left_is l r p q c.args.answer _ _ _ c.product.ensures (left_found l r q _ _ c.in-Some-Left.is (c.in_ok-side_of.ensures e) c.in-Some-Left.field-0-is)
    (c.in_ok-share-in-Some-Left.ensures p.left) (c.total.ensures p.right)

pub returns-in_ok-part-in-Some-Right : goal.returns-in_ok-part-in-Some-Right
returns-in_ok-part-in-Some-Right g c = λ e.
    let l = g.L.Belief.means c.args.self.now.left in
    let r = g.R.Belief.means c.args.self.now.right in
    let p = parts l r (g.met.L.Belief.laws _) (g.met.R.Belief.laws _) e in
    let q = c.args.question.now in
    let s = right_found l r q _ _ c.in-Some-Right.is (c.in_ok-side_of.ensures e) c.in-Some-Right.field-0-is in
    mass_right_is l r p q c.args.answer _ _ _ c.product-in-Some-Right.ensures s.0 s.1
    (c.total-in-Some-Right.ensures p.left) (c.in_ok-part-in-Some-Right.ensures p.right)
