-- Whether the question is carried.
use Rattle.boxes.specs.Returns.{carries_returns}
use Rattle.boxes.proofs.holding.kind.BoxesBelief.carries.Goals as goal

pub returns : goal.returns
returns c = λ e.
    carries_returns c.args.self.now c.args.question.now c.in_ok-question.question c.in_ok-question.ensures.gives _ _ c.is_some.ensures c.tally.ensures.carries
