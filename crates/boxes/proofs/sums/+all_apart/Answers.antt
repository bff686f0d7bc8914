-- The first box against the others, and then those.
use Rattle.std.proofs.Common.{◌&&◌, ap, ◌∙◌}
use Rattle.ranges.specs.Boxes.{disjoint}
use Rattle.boxes.proofs.Chains.{rest_of, disjoint_none, disjoint_opened}
use Rattle.boxes.proofs.sums.+all_apart.Goals as goal

pub returns-in-empty : goal.returns-in-empty
returns-in-empty t c = disjoint_none c.args.boxes.now c.in-empty.len_below

pub returns-then-apart_from : goal.returns-then-apart_from
returns-then-apart_from t c =
    let bs = c.args.boxes.now in
    c.all_apart.ensures ∙ ap (λ z. z && disjoint (rest_of bs)) c.if-apart_from.ensures ∙ disjoint_opened bs c.in-len1-up.len_at_least

pub returns-else-apart_from : goal.returns-else-apart_from
returns-else-apart_from t c =
    let bs = c.args.boxes.now in
    c.if-apart_from.false ∙ ap (λ z. z && disjoint (rest_of bs)) c.if-apart_from.ensures ∙ disjoint_opened bs c.in-len1-up.len_at_least
