-- A question is carried if its tally has few pieces for each answer.
use Rattle.boxes.proofs.Asking.{not_stepped, not_inside, is_carried, weighs}
use Rattle.boxes.specs.Holding.{held}
use Rattle.boxes.proofs.holding.Boxes.tally.Goals as goal

pub returns-in_err-steps : goal.returns-in_err-steps
returns-in_err-steps c =
    let b = c.args.self.now in
    rw c.from_residual.ensures (record { carries = not_stepped b.span.first b.span.count c.args.wanted.question (held b) c.in_err-steps.ensures; weighs = tt })

pub returns-then-not-reads_in-clause-carries : goal.returns-then-not-reads_in-clause-carries
returns-then-not-reads_in-clause-carries c =
    let b = c.args.self.now in not_inside b.span.first b.span.count c.args.wanted.question (held b) c.in_ok-steps.ensures c.if-not-reads_in.ensures

pub returns-then-not-is_few-clause-carries : goal.returns-then-not-is_few-clause-carries
returns-then-not-is_few-clause-carries c =
    let b = c.args.self.now in
    is_carried b.span.first b.span.count c.args.wanted.question (held b) c.in_ok-steps.ensures c.args.wanted.answer _ _ _ _ c.as_slice.ensures c.held.ensures c.new-tally.ensures c.hand_all.ensures
    _ c.if-not-reads_in.ensures c.if-not-is_few.ensures

pub returns-clause-carries : goal.returns-clause-carries
returns-clause-carries c =
    let b = c.args.self.now in
    is_carried b.span.first b.span.count c.args.wanted.question (held b) c.in_ok-steps.ensures c.args.wanted.answer _ _ _ _ c.as_slice.ensures c.held.ensures c.new-tally.ensures c.hand_all.ensures
    _ c.if-not-reads_in.ensures c.if-not-is_few.ensures

pub returns-clause-weighs : goal.returns-clause-weighs
returns-clause-weighs c =
    let b = c.args.self.now in
    weighs b.span.first b.span.count c.args.wanted.question (held b) c.in_ok-steps.ensures c.args.wanted.answer _ _ _ _ c.as_slice.ensures c.held.ensures c.new-tally.ensures c.hand_all.ensures
