-- Each way, the sheet stands one place further.
use Rattle.std.proofs.Common.{rules}
use Rattle.table.specs.Walks.{next_sheet}
use Rattle.table.proofs.Fours.{next_law}
use Rattle.table.proofs.places.next.Goals as goal

pub returns-then-y-d-clause-stands : goal.returns-then-y-d-clause-stands
unfolding next_sheet
returns-then-y-d-clause-stands c = next_law c.args.tops c.args.sheet _ (search rules) (search rules)

pub returns-then-x-c-clause-stands : goal.returns-then-x-c-clause-stands
unfolding next_sheet
returns-then-x-c-clause-stands c = next_law c.args.tops c.args.sheet _ (search rules) (search rules)

pub returns-then-w-b-clause-stands : goal.returns-then-w-b-clause-stands
unfolding next_sheet
returns-then-w-b-clause-stands c = next_law c.args.tops c.args.sheet _ (search rules) (search rules)

pub returns-then-v-a-clause-stands : goal.returns-then-v-a-clause-stands
unfolding next_sheet
returns-then-v-a-clause-stands c = next_law c.args.tops c.args.sheet _ (search rules) (search rules)

pub returns-clause-stands : goal.returns-clause-stands
unfolding next_sheet
returns-clause-stands c = next_law c.args.tops c.args.sheet _ (search rules) (search rules)
