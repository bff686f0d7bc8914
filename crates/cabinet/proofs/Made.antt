-- What a making replies, by the span of its fields: past that, only a value above its top is left to look for.
use Rattle.std.proofs.Common.{◌≡◌, ℕ, zero, suc, Bool, true, false, not, ◌&&◌, ◌||◌, eqb, ltb, List, [], ◌∷◌, length, get_or, Option, sym, refl, ap, ◌∙◌, arith}
use Rattle.std.proofs.lemmas.Bool.Decides.{nat_tests}
use Rattle.std.specs.List.{zip, list_any}
use Rattle.refusal.specs.Replies.{given, declined, and_then, refuse_if}
use Rattle.question.specs.Questions.{in_span, all_below}
use Rattle.belief.specs.Spans.{good_span, zero_outside, span_made}
use Rattle.belief.specs.declared.spans.Span.{Span}
use Rattle.history.specs.Judging.{some_below}
use Rattle.cabinet.specs.declared.cabinets.Cabinet.{Cabinet}
use Rattle.cabinet.specs.Calls.{misfit, making}

-- whether some value lies above its top
abbrev pub over : List ℕ → List ℕ → Bool
over tops sheet = list_any (λ p. ltb p.1 p.0) (zip sheet tops)

some_front : (n : ℕ) (p : ℕ → Bool) → some_below (suc n) p ≡ (p 0 || some_below n (λ k. p (suc k)))
unfolding some_below
some_front zero p = by (p 0)
  where
    by : (b : Bool) → b ≡ (b || false)
    by true = refl
    by false = refl
some_front (suc n) p = ap (λ b. b || p (suc n)) (some_front n p) ∙ by (p 0) (some_below n (λ k. p (suc k))) (p (suc n))
  where
    by : (a b c : Bool) → ((a || b) || c) ≡ (a || (b || c))
    by true b c = refl
    by false b c = refl

over_is : (n : ℕ) (tops sheet : List ℕ) → length tops ≡ n → length sheet ≡ n → over tops sheet ≡ some_below n (λ k. ltb (get_or tops k 0) (get_or sheet k 0))
unfolding some_below
over_is zero [] [] i j = refl
over_is zero tops (v ∷ sheet) i j = absurd (omega arith)
over_is zero (t ∷ tops) [] i j = absurd (omega arith)
over_is (suc n) tops [] i j = absurd (omega arith)
over_is (suc n) [] (v ∷ sheet) i j = absurd (omega arith)
over_is (suc n) (t ∷ tops) (v ∷ sheet) i j =
    ap (λ b. ltb t v || b) (over_is n tops sheet (omega arith) (omega arith)) ∙ sym (some_front n (λ k. ltb (get_or (t ∷ tops) k 0) (get_or (v ∷ sheet) k 0)))

misfit_is : (count : ℕ) (tops sheet : List ℕ) (k : ℕ) → misfit count tops sheet k ≡ (not (in_span 0 count k || eqb (get_or tops k 0) 0) || ltb (get_or tops k 0) (get_or sheet k 0))
unfolding in_span
misfit_is count tops sheet k = grind (arith, nat_tests)

some_or : (n : ℕ) (p q : ℕ → Bool) → some_below n (λ k. not (p k) || q k) ≡ (not (all_below n p) || some_below n q)
unfolding some_below all_below
some_or zero p q = refl
some_or (suc n) p q = ap (λ b. b || (not (p n) || q n)) (some_or n p q) ∙ by (all_below n p) (some_below n q) (p n) (q n)
  where
    by : (a s x y : Bool) → ((not a || s) || (not x || y)) ≡ (not (a && x) || (s || y))
    by false s x y = refl
    by true true true y = refl
    by true true false y = refl
    by true false x y = refl

making_by : (count : ℕ) (tops sheet : List ℕ) → length tops ≡ 4 → length sheet ≡ 4 →
    making count tops sheet ≡ and_then (span_made 0 count tops) (λ s. refuse_if (over tops sheet) 2 (given (record { sheet = sheet; count = count; tops = tops; used = 0 })))
unfolding zero_outside
making_by count tops sheet i j =
    let least : (eqb count 0 || ltb 4 count) ≡ not (good_span 0 count) = grind (arith, nat_tests) in
    let some : some_below 4 (misfit count tops sheet) ≡ (not (zero_outside 0 count tops) || over tops sheet)
    = (λ i. some_below 4 (λ k. misfit_is count tops sheet k i)) ∙ some_or 4 (λ k. in_span 0 count k || eqb (get_or tops k 0) 0) (λ k. ltb (get_or tops k 0) (get_or sheet k 0))
    ∙ ap (λ b. not (zero_outside 0 count tops) || b) (sym (over_is 4 tops sheet i j)) in
    ap (λ b. refuse_if b 1 (refuse_if (some_below 4 (misfit count tops sheet)) 2 (given made))) least
    ∙ ap (λ b. refuse_if (not (good_span 0 count)) 1 (refuse_if b 2 (given made))) some
    ∙ by (not (good_span 0 count)) (not (zero_outside 0 count tops)) (over tops sheet)
  where
    made : Cabinet
    made = record { sheet = sheet; count = count; tops = tops; used = 0 }

    by : (b z o : Bool) → refuse_if b 1 (refuse_if (z || o) 2 (given made)) ≡ and_then (refuse_if b 1 (refuse_if z 2 (given (record { first = 0; count = count; tops = tops })))) (λ (s : Span). refuse_if o 2 (given made))
    by true z o = refl
    by false true o = refl
    by false false o = refl

module _ (count : ℕ) (tops sheet : List ℕ) (i : length tops ≡ 4) (j : length sheet ≡ 4) where
  -- refused for its span
  pub unspanned : (n : ℕ) (p : Option ℕ) → declined n p ≡ span_made 0 count tops → declined n p ≡ making count tops sheet
  unspanned n p e = sym (making_by count tops sheet i j ∙ ap (λ r. and_then r (λ s. refuse_if (over tops sheet) 2 (given (record { sheet = sheet; count = count; tops = tops; used = 0 })))) (sym e))

  -- not refused for its span
  pub spanned : (s : Span) (b : Bool) → given s ≡ span_made 0 count tops → b ≡ over tops sheet →
      refuse_if b 2 (given (record { sheet = sheet; count = count; tops = tops; used = 0 })) ≡ making count tops sheet
  spanned s b e o =
      ap (λ b. refuse_if b 2 (given (record { sheet = sheet; count = count; tops = tops; used = 0 }))) o
      ∙ sym (making_by count tops sheet i j ∙ ap (λ r. and_then r (λ s. refuse_if (over tops sheet) 2 (given (record { sheet = sheet; count = count; tops = tops; used = 0 })))) (sym e))
