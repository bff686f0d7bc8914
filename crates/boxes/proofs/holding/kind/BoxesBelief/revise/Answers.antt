-- Revising, by what was tested.
use Rattle.boxes.specs.Holding.{held}
use Rattle.boxes.specs.Returns.{parts, kept_few, revise_not, revise_none, revise_ok, revise_leaves}
use Rattle.boxes.proofs.holding.kind.BoxesBelief.revise.Goals as goal

pub returns-in_default-clause-replies : goal.returns-in_default-clause-replies
returns-in_default-clause-replies c =
    let q = c.in_ok-question in
    λ e. revise_not c.args.self.now c.args.question.now q.question q.ensures.gives c.args.answer c.in_default.ensures.carries

pub returns-then-tally-eq0-clause-replies : goal.returns-then-tally-eq0-clause-replies
returns-then-tally-eq0-clause-replies c =
    let b = c.args.self.now in
    let q = c.in_ok-question in
    let w = c.in-Some.ensures in
    λ e. revise_none b c.args.question.now q.question q.ensures.gives c.args.answer c.in-Some.tally w.carries w.weighs (parts b e) c.if-tally-eq0.true

pub invariant_of-self-clause-few : goal.invariant_of-self-clause-few
invariant_of-self-clause-few c =
    let b = c.args.self.now in
    let q = c.in_ok-question in
    let w = c.in-Some.ensures in
    kept_few b c.args.question.now q.question q.ensures.gives c.args.answer c.in-Some.tally w.carries w.weighs c.sifted-self.result c.sifted-self.ensures

pub returns-clause-replies : goal.returns-clause-replies
returns-clause-replies c =
    let b = c.args.self.now in
    let q = c.in_ok-question in
    let w = c.in-Some.ensures in
    λ e. revise_ok b c.args.question.now q.question q.ensures.gives c.args.answer c.in-Some.tally w.carries w.weighs (parts b e) c.if-tally-eq0.false

pub returns-clause-leaves : goal.returns-clause-leaves
unfolding held
returns-clause-leaves c =
    let b = c.args.self.now in
    let q = c.in_ok-question in
    let w = c.in-Some.ensures in
    λ e.
    revise_leaves b c.args.question.now q.question q.ensures.gives c.args.answer c.in-Some.tally w.carries w.weighs (parts b e) c.if-tally-eq0.false c.sifted-self.result
    c.sifted-self.ensures
