-- Spans of fields, four values over one, and the totals of sound beliefs. Assumes nothing.
use Rattle.std.specs.Prelude.{ℕ, ◌+◌, ◌^◌, Bool, cond, not, ◌&&◌, ◌||◌, List, [], ◌∷◌, ◌==◌, nat_le, slice_index}
use Rattle.refusal.specs.Replies.{Reply, given, refuse_if}
use Rattle.question.specs.Questions.{in_span, all_below}
use Rattle.belief.specs.declared.spans.Span.{Span}

-- whether a span has a field, and ends with the last field at most
abbrev pub good_span : ℕ → ℕ → Bool
good_span first count = nat_le 1 count && nat_le (first + count) 4

-- whether the values outside the span are 0
unfoldable pub zero_outside : ℕ → ℕ → List ℕ → Bool
zero_outside first count s = all_below 4 (λ k. in_span first count k || slice_index s k == 0)

-- a value of the span, 0 outside
unfoldable pub span_value : ℕ → ℕ → List ℕ → ℕ → ℕ
span_value first count s k = cond (in_span first count k) (slice_index s k) 0

-- the four values with 0 outside the span
unfoldable pub span_only : ℕ → ℕ → List ℕ → List ℕ
span_only first count s =
    span_value first count s 0 ∷ span_value first count s 1 ∷ span_value first count s 2 ∷ span_value first count s 3 ∷ []

-- what making a span replies: 1, 2, or the span
abbrev pub span_made : ℕ → ℕ → List ℕ → Reply Span
span_made first count tops =
    refuse_if (not (good_span first count)) 1 (
    refuse_if (not (zero_outside first count tops)) 2 (
    given (record { first = first; count = count; tops = tops })))

-- the most that the total of a sound belief may be, 2 to the 40th
abbrev pub most_total : ℕ
most_total = 2 ^ 40

-- whether a total is that of a sound belief
abbrev pub good_total : ℕ → Bool
good_total total = nat_le 1 total && nat_le total most_total
