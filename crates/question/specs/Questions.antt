-- What bytes mean as a question, for whoever holds the bytes alone. Assumes nothing.
-- Bytes that are no question read no field, have no steps, and answer 0; calls refuse them before they ask any of this.
use Rattle.std.specs.Prelude.{ℕ, zero, suc, ◌+◌, Bool, true, false, cond, not, ◌&&◌, ◌||◌, List, [], ℤ, pos, Some, None, Option, nat_le, nat_lt}
use Rattle.refusal.specs.Replies.{Reply, given, declined}
use Rattle.question.specs.declared.steps.Step.{Step}
use Rattle.question.specs.Expressions.{Expression, worth, bound, clamped, mentions}
use Rattle.question.specs.Steps.{simple, stepped, steps}
use Rattle.question.specs.Reading.{reading}

-- x of the expression that was read, or d
abbrev pub read_or : {A : Type 0} → A → (Expression → A) → Reply Expression → A
read_or d x (given e) = x e
read_or d x (declined n p) = d

-- whether the bytes are a question
unfoldable pub is_question : List ℕ → Bool
is_question q = read_or false (λ e. true) (reading q)

-- the bound of the whole
unfoldable pub bound_of : List ℕ → ℕ
bound_of q = read_or 0 bound (reading q)

-- its value on a sheet
unfoldable pub value_of : List ℕ → List ℕ → ℤ
value_of q s = read_or (pos 0) (λ e. worth e s) (reading q)

-- the answer that a sheet gives
unfoldable pub answers : List ℕ → List ℕ → ℕ
answers q s = read_or 0 (λ e. clamped (worth e s)) (reading q)

-- whether field k is read
unfoldable pub reads_field : List ℕ → ℕ → Bool
reads_field q k = read_or false (mentions k) (reading q)

-- whether every field that is read belongs to a step, and the steps
unfoldable pub is_stepped : List ℕ → Bool
is_stepped q = read_or false stepped (reading q)

unfoldable pub steps_of : List ℕ → List Step
steps_of q = read_or [] steps (reading q)

-- the steps of a question that reads fields by steps alone
unfoldable pub stepped_as : List ℕ → Option (List Step)
stepped_as q = cond (is_stepped q) (Some (steps_of q)) None

-- the step that a question is, if it is one and nothing more
unfoldable pub simple_as : List ℕ → Option Step
simple_as q = read_or None simple (reading q)

-- whether a field lies in a span
unfoldable pub in_span : ℕ → ℕ → ℕ → Bool
in_span first count k = nat_le first k && nat_lt k (first + count)

-- p of every number below n
unfoldable pub all_below : ℕ → (ℕ → Bool) → Bool
all_below zero p = true
all_below (suc n) p = all_below n p && p n

-- whether all fields that are read lie in the span
unfoldable pub reads_in : ℕ → ℕ → List ℕ → Bool
reads_in first count q = all_below 4 (λ k. not (reads_field q k) || in_span first count k)
