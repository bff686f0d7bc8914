-- What `check` leaves to show.
use Rattle.std.proofs.Common.{◌≡◌, ◌+◌, ◌-◌, ◌<◌, ◌≤◌, [], ◌∷◌, length, Some, None, sym, refl, ap, ◌∙◌, arith, rules}
use Rattle.question.specs.Expressions.{longest}
use Rattle.refusal.specs.Replies.{given, declined, mapped}
use Rattle.question.specs.Fronts.{question}
use Rattle.question.proofs.Front.{reading_long, left_least, checks, left_over, goes_wrong}
use Rattle.question.proofs.checked.calls.check.Goals as goal

pub returns-then-bytes-gt-LONGEST : goal.returns-then-bytes-gt-LONGEST
returns-then-bytes-gt-LONGEST c = sym (ap (mapped (λ t. tt)) (reading_long c.args.bytes.now c.if-bytes-gt-LONGEST.true))

pub overflow_sub-result-in-Err : goal.overflow_sub-result-in-Err
overflow_sub-result-in-Err c = left_least (question ∷ []) c.args.bytes.now c.in-Err.left (c.in-Err.ensures.whatever [])

pub returns-in-Ok-bound : goal.returns-in-Ok-bound
returns-in-Ok-bound c =
    let bs = c.args.bytes.now in
    let h : length bs ≤ longest = omega arith in
    checks bs _ None c.in-Ok-empty.ensures (search rules) h (λ t r e. (c.in-Ok-bound.ensures.has t r e).clear 0) (given tt) (λ t. refl)

pub returns-in-Err-bound : goal.returns-in-Err-bound
returns-in-Err-bound c =
    let bs = c.args.bytes.now in
    let h : length bs ≤ longest = omega arith in
    let p = length bs - c.in-Err-bound.left in
    let z : 0 + p ≡ p = omega arith in
    checks bs _ (Some p) c.in-Ok-empty.ensures (search rules) h (λ t r e. c.in-Err-bound.ensures.place t r e 0 ∙ ap Some z) (declined 10 (Some p)) (λ t. refl)

pub returns-in-Ok : goal.returns-in-Ok
returns-in-Ok c =
    let h : length c.args.bytes.now ≤ longest = omega arith in
    let z : 0 < length c.in-Ok.rest.now = search rules in
    sym (ap (mapped (λ t. tt)) (left_over c.args.bytes.now c.in-Ok.rest.now c.in-Ok.ensures z h))

pub returns-in-Err : goal.returns-in-Err
returns-in-Err c =
    let h : length c.args.bytes.now ≤ longest = omega arith in
    sym (ap (mapped (λ t. tt)) (goes_wrong c.args.bytes.now c.in-Err.left c.in-Err.ensures h))
