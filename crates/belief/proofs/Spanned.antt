-- Spans of fields, four values with 0 outside one, and good totals.
use Rattle.std.specs.Prelude.{◌≡◌, ℕ, zero, suc, ◌+◌, ◌<◌, ◌≤◌, Bool, true, false, cond, not, ◌&&◌, ◌||◌, None, Option, List, length, ◌==◌, nat_le, slice_index, refl}
use Rattle.std.specs.Str.{bytes_eq}
use Rattle.std.proofs.Common.{sym, ap, ◌∙◌, inl, inr, arith, leb-true, le-leb, eqb-true}
use Rattle.std.proofs.lemmas.List.{get_or_past}
use Rattle.std.proofs.lemmas.Bool.{cases_lt}
use Rattle.question.specs.Questions.{in_span, all_below}
use Rattle.question.proofs.Questions.{and_left, and_right, below_at}
use Rattle.refusal.specs.Replies.{Reply, given, declined, refuse_if}
use Rattle.belief.specs.declared.spans.Span.{Span}
use Rattle.belief.specs.Meaning.{Agree}
use Rattle.belief.specs.Spans.{good_span, zero_outside, span_value, span_only, span_made, most_total, good_total}
use Rattle.question.proofs.Fours.{fours}

-- ---- what the tests of a span and of a total say

pub span_some : (f c : ℕ) → good_span f c ≡ true → 1 ≤ c
span_some f c e = leb-true 1 c (and_left (nat_le 1 c) (nat_le (f + c) 4) e)

pub span_last : (f c : ℕ) → good_span f c ≡ true → f + c ≤ 4
span_last f c e = leb-true (f + c) 4 (and_right (nat_le 1 c) (nat_le (f + c) 4) e)

pub total_least : (t : ℕ) → good_total t ≡ true → 1 ≤ t
total_least t e = leb-true 1 t (and_left (nat_le 1 t) (nat_le t most_total) e)

pub total_most : (t : ℕ) → good_total t ≡ true → t ≤ most_total
total_most t e = leb-true t most_total (and_right (nat_le 1 t) (nat_le t most_total) e)

pub total_good : (t : ℕ) → 1 ≤ t → t ≤ most_total → good_total t ≡ true
total_good t h k = let a = le-leb 1 t h in let b = le-leb t most_total k in simp (a, b)

-- a field of the span lies below its end
pub in_below : (f c k : ℕ) → in_span f c k ≡ true → k < f + c
unfolding in_span
in_below f c k e = grind arith

-- ---- the values of a span

value_agree : (f c : ℕ) (s t : List ℕ) (k : ℕ) → Agree f c s t → (b : Bool) → in_span f c k ≡ b → cond b (slice_index s k) 0 ≡ cond b (slice_index t k) 0
value_agree f c s t k h true e = h k e
value_agree f c s t k h false e = refl

-- sheets that agree on the span are one there
pub span_agree : (f c : ℕ) (s t : List ℕ) → Agree f c s t → span_only f c s ≡ span_only f c t
unfolding span_only span_value
span_agree f c s t h =
    let x = value_agree f c s t 0 h (in_span f c 0) refl in
    let y = value_agree f c s t 1 h (in_span f c 1) refl in
    let z = value_agree f c s t 2 h (in_span f c 2) refl in
    let w = value_agree f c s t 3 h (in_span f c 3) refl in cc

-- and the values of the span are kept
pub span_same : (f c : ℕ) (s : List ℕ) → f + c ≤ 4 → Agree f c s (span_only f c s)
unfolding span_only span_value
span_same f c s h zero e = simp e
span_same f c s h (suc zero) e = simp e
span_same f c s h (suc (suc zero)) e = simp e
span_same f c s h (suc (suc (suc zero))) e = simp e
span_same f c s h (suc (suc (suc (suc k)))) e = let i = in_below f c (suc (suc (suc (suc k)))) e in absurd (omega arith)

pub span_length : (f c : ℕ) (s : List ℕ) → length (span_only f c s) ≡ 4
unfolding span_only
span_length f c s = refl

-- ---- values that are 0 outside the span

zero_or : (a : Bool) (n : ℕ) → a ≡ false → (a || n == 0) ≡ true → n ≡ 0
zero_or a n e h = eqb-true n 0 (ap (λ z. z || n == 0) (sym e) ∙ h)

pub zero_at : (f c : ℕ) (tops : List ℕ) → length tops ≡ 4 → zero_outside f c tops ≡ true → (k : ℕ) → in_span f c k ≡ false → slice_index tops k ≡ 0
unfolding zero_outside
zero_at f c tops l h k e =
    elim (cases_lt k 4) [ inl b ↦ zero_or (in_span f c k) (slice_index tops k) e (below_at 4 (λ k. in_span f c k || slice_index tops k == 0) k h b) | inr b ↦ get_or_past tops k 0 (omega arith) ]

value_kept : (f c : ℕ) (tops s : List ℕ) (k : ℕ) → (in_span f c k ≡ false → slice_index tops k ≡ 0) → slice_index s k ≤ slice_index tops k → (b : Bool) → in_span f c k ≡ b → cond b (slice_index s k) 0 ≡ slice_index s k
value_kept f c tops s k z u true e = refl
value_kept f c tops s k z u false e = let o = z e in omega arith

-- a sheet within such tops has no value outside the span
pub span_kept : (f c : ℕ) (tops s : List ℕ) → length s ≡ 4 → ((k : ℕ) → in_span f c k ≡ false → slice_index tops k ≡ 0) → ((k : ℕ) → slice_index s k ≤ slice_index tops k) → span_only f c s ≡ s
unfolding span_only span_value
span_kept f c tops s l out under =
    let a = value_kept f c tops s 0 (out 0) (under 0) (in_span f c 0) refl in
    let b = value_kept f c tops s 1 (out 1) (under 1) (in_span f c 1) refl in
    let d = value_kept f c tops s 2 (out 2) (under 2) (in_span f c 2) refl in
    let e = value_kept f c tops s 3 (out 3) (under 3) (in_span f c 3) refl in
    let r = fours s l in cc

-- ---- four values are 0 outside the span where they are the values of the span alone

kept_or : (b : Bool) (n : ℕ) → (cond b n 0 == n) ≡ (b || n == 0)
kept_or true n = grind arith
kept_or false n = grind arith

conjoined : (a b d e : Bool) → (a && (b && (d && (e && true)))) ≡ ((((true && a) && b) && d) && e)
conjoined true true true true = refl
conjoined true true true false = refl
conjoined true true false e = refl
conjoined true false d e = refl
conjoined false b d e = refl

pub only_same : (f c : ℕ) (s : List ℕ) → length s ≡ 4 → bytes_eq (span_only f c s) s ≡ zero_outside f c s
unfolding span_only span_value zero_outside all_below
only_same f c s l =
    let a = kept_or (in_span f c 0) (slice_index s 0) in
    let b = kept_or (in_span f c 1) (slice_index s 1) in
    let d = kept_or (in_span f c 2) (slice_index s 2) in
    let e = kept_or (in_span f c 3) (slice_index s 3) in
    ap (λ z. bytes_eq (span_only f c s) z) (fours s l) ∙ simp (a, b, d, e) (conjoined (in_span f c 0 || slice_index s 0 == 0) (in_span f c 1 || slice_index s 1 == 0) (in_span f c 2 || slice_index s 2 == 0) (in_span f c 3 || slice_index s 3 == 0))

-- ---- what making a span replied

made_by : (a b : Bool) (s r : Span) → ◌≡◌ {A = Reply Span} (given s) (refuse_if (not a) 1 (refuse_if (not b) 2 (given r))) → (a ≡ true) × (b ≡ true) × (s ≡ r)
made_by true true s r e = let k : s ≡ r = cc in (refl, refl, k)
made_by true false s r e = let k : ◌≡◌ {A = ℕ} 0 1 = cc in absurd (omega arith)
made_by false b s r e = let k : ◌≡◌ {A = ℕ} 0 1 = cc in absurd (omega arith)

-- a span that was made passed both tests
pub made_span : (f c : ℕ) (tops : List ℕ) (s : Span) → ◌≡◌ {A = Reply Span} (given s) (span_made f c tops) →
    (good_span f c ≡ true) × (zero_outside f c tops ≡ true) × (s ≡ record { first = f; count = c; tops = tops })
made_span f c tops s e = made_by (good_span f c) (zero_outside f c tops) s _ e

refused_by : {A : Type 0} (a b : Bool) (n : ℕ) (p : Option ℕ) (r : Span) (next : Reply A) → ◌≡◌ {A = Reply Span} (declined n p) (refuse_if (not a) 1 (refuse_if (not b) 2 (given r))) →
    ◌≡◌ {A = Reply A} (declined n p) (refuse_if (not a) 1 (refuse_if (not b) 2 next))
refused_by true true n p r next e = let k : ◌≡◌ {A = ℕ} 0 1 = cc in absurd (omega arith)
refused_by true false n p r next e = let i : n ≡ 2 = cc in let j : p ≡ None = cc in cc
refused_by false b n p r next e = let i : n ≡ 1 = cc in let j : p ≡ None = cc in cc

-- and a refused one is refused whatever is made over it
pub refused_span : {A : Type 0} (f c : ℕ) (tops : List ℕ) (n : ℕ) (p : Option ℕ) (next : Reply A) → ◌≡◌ {A = Reply Span} (declined n p) (span_made f c tops) →
    ◌≡◌ {A = Reply A} (declined n p) (refuse_if (not (good_span f c)) 1 (refuse_if (not (zero_outside f c tops)) 2 next))
refused_span f c tops n p next e = refused_by (good_span f c) (zero_outside f c tops) n p _ next e
