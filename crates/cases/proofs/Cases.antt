-- The worked cases.
use Rattle.std.proofs.Common.{◌≡◌, ℕ, ◌≤◌, Bool, true, false, cond, ltb, [], ◌∷◌, replicate, None, sym, refl, ap, arith}
use Rattle.std.proofs.lemmas.Bool.{le-ltb}
use Rattle.refusal.specs.Replies.{Reply, given, declined}
use Rattle.question.specs.Expressions.{truth, clamped}
use Rattle.question.specs.Reading.{reading}
use Rattle.question.specs.Questions.{answers, reads_in, reads_field, in_span, all_below}
use Rattle.belief.specs.Meaning.{total_of, peak_of, whole_of, mass_of, heaviest_of, kept, gives, conditioned}
use Rattle.belief.specs.Spans.{span_value, span_only, zero_outside}
use Rattle.table.specs.Places.{size_of, place_of, fits_in}
use Rattle.table.specs.Tables.{weight_in}
use Rattle.history.specs.Events.{asks, Past}
use Rattle.history.specs.Judging.{some_below, telling}
use Rattle.history.specs.Stated.{enrol_reply, ask_reply}
use Rattle.cases.specs.Cases.{table, one_field, offer, below, ones, fives, Cases}

truth_is : (b : Bool) → clamped (truth b) ≡ cond b 1 0
truth_is true = refl
truth_is false = refl

-- his enrolment with ones, and with 5, 3, 1 and 1 at either threshold
enrolments : (given 0 ≡ enrol_reply (one_field 9) [] (offer 1 4 (table 9 (replicate 10 1)))) × (given 0 ≡ enrol_reply (one_field 3) [] (offer 1 2 fives)) ×
    (declined 14 None ≡ enrol_reply (one_field 3) [] (offer 49 100 fives))
unfolding enrol_reply whole_of total_of peak_of size_of place_of fits_in span_value span_only weight_in zero_outside in_span all_below
enrolments = (refl, refl, refl)

-- his questions
abbrev reply : ℕ → Past → ℕ → Reply ℕ
reply v past k = ask_reply (one_field 9) (v ∷ 0 ∷ 0 ∷ 0 ∷ []) past 1 (below k)

questions : (v : ℕ) → (given (cond (ltb v 4) 1 0) ≡ reply v ones 4) × (declined 14 None ≡ reply v ones 3) × (5 ≤ v → given 0 ≡ reply v ones 5) ×
    (5 ≤ v → given 0 ≡ reply v (asks 1 (below 5) (given 0) ∷ ones) 3)
unfolding ask_reply telling some_below mass_of heaviest_of kept gives conditioned answers reading reads_in reads_field in_span all_below size_of place_of fits_in span_value span_only weight_in
questions v = (
  ap given (sym (truth_is (ltb v 4))),
  refl,
  (λ l. ap given (ap (λ b. clamped (truth b)) (sym (le-ltb v 5 l)))),
  (λ l. ap given (ap (λ b. clamped (truth b)) (sym (le-ltb v 3 (omega arith))))),
)

pub cases : Cases
cases = (
  (λ v l m. ((tt, enrolments.0), (questions v).0)),
  (
    (λ v l m. ((tt, enrolments.0), (questions v).1)),
    (
      (λ v l m. (((tt, enrolments.0), (questions v).2 l), (questions v).3 l)),
      ((λ v l m. (tt, enrolments.1)), ((λ v l m. (tt, enrolments.2)), tt)),
    ),
  ),
)
