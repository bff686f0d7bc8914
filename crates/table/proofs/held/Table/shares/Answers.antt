-- The shares are the kept weights of all sheets in their order, and their sum fits.
use Rattle.std.proofs.Common.{arith, rules}
use Rattle.question.specs.Texts.{text}
use Rattle.table.specs.Walks.{first_sheet}
use Rattle.table.proofs.Loops.{shares_in_order, shares_sum}
use Rattle.table.proofs.held.Table.shares.Goals as goal

pub returns-clause-ordered : goal.returns-clause-ordered
returns-clause-ordered c = λ s. shares_in_order c.args.self.now s _ c.held-weights.ensures.are (text c.args.question.now) c.args.answer

pub returns-clause-small : goal.returns-clause-small
returns-clause-small c =
    let b = shares_sum (text c.args.question.now) c.args.answer c.args.self.now.span.tops 4294967295 first_sheet c.held-weights.result.now (λ i. search rules) in
    let f = c.held-weights.ensures.few in omega arith
