-- Revising one side revises the pair.
use Rattle.pair.specs.Folds.{parts}
use Rattle.pair.proofs.Calls.{left_found, right_found}
use Rattle.pair.proofs.Revisings.{revising_left, revising_right, leaves_left, leaves_right}
use Rattle.pair.proofs.kind.PairBelief.revise.Goals as goal

pub returns-in-Some-Left-clause-replies : goal.returns-in-Some-Left-clause-replies
returns-in-Some-Left-clause-replies g c = λ e.
    let l = g.L.Belief.means c.args.self.now.left in
    let r = g.R.Belief.means c.args.self.now.right in
    let p = parts l r (g.met.L.Belief.laws _) (g.met.R.Belief.laws _) e in
    let q = c.args.question.now in
    revising_left l r p q c.args.answer _ (left_found l r q _ _ c.in-Some-Left.is (c.in_ok-side_of.ensures e) c.in-Some-Left.field-0-is) (c.revise.ensures.replies p.left)

pub returns-in-Some-Left-clause-leaves : goal.returns-in-Some-Left-clause-leaves
returns-in-Some-Left-clause-leaves g c = λ e.
    let l = g.L.Belief.means c.args.self.now.left in
    let r = g.R.Belief.means c.args.self.now.right in
    let p = parts l r (g.met.L.Belief.laws _) (g.met.R.Belief.laws _) e in
    let q = c.args.question.now in
    leaves_left l r _ q c.args.answer e (left_found l r q _ _ c.in-Some-Left.is (c.in_ok-side_of.ensures e) c.in-Some-Left.field-0-is) c.revise.result (c.revise.ensures.leaves p.left)

pub returns-in-Some-Right-clause-replies : goal.returns-in-Some-Right-clause-replies
returns-in-Some-Right-clause-replies g c = λ e.
    let l = g.L.Belief.means c.args.self.now.left in
    let r = g.R.Belief.means c.args.self.now.right in
    let p = parts l r (g.met.L.Belief.laws _) (g.met.R.Belief.laws _) e in
    let q = c.args.question.now in
    let s = right_found l r q _ _ c.in-Some-Right.is (c.in_ok-side_of.ensures e) c.in-Some-Right.field-0-is in
    revising_right l r p q c.args.answer _ s.0 s.1 (c.revise-in-Some-Right.ensures.replies p.right)

pub returns-in-Some-Right-clause-leaves : goal.returns-in-Some-Right-clause-leaves
returns-in-Some-Right-clause-leaves g c = λ e.
    let l = g.L.Belief.means c.args.self.now.left in
    let r = g.R.Belief.means c.args.self.now.right in
    let p = parts l r (g.met.L.Belief.laws _) (g.met.R.Belief.laws _) e in
    let q = c.args.question.now in
    let s = right_found l r q _ _ c.in-Some-Right.is (c.in_ok-side_of.ensures e) c.in-Some-Right.field-0-is in
    leaves_right l r _ q c.args.answer e s.0 s.1 c.revise-in-Some-Right.result (c.revise-in-Some-Right.ensures.leaves p.right)
