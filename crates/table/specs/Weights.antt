-- What a table weighs, place by place.
use Rattle.std.specs.Prelude.{◌≡◌, ℕ, zero, suc, ◌+◌, ◌<◌, ◌≤◌, Bool, true, false, cond, ◌&&◌, List, [], ◌∷◌, ◌++◌, length, take, slice_index}
use Rattle.std.proofs.Math.Path.{refl, sym}
use Rattle.std.proofs.Common.{ap, ◌∙◌, leb-true, take-suc}
use native.Mathlib.Omega.{arith}
use Rattle.std.proofs.lemmas.List.{take_all}
use Rattle.question.specs.Questions.{in_span}
use Rattle.question.proofs.Questions.{and_left, and_right}
use Rattle.belief.specs.Sheets.{sum_of}
use Rattle.belief.proofs.Sheets.{below_sum}
use Rattle.belief.specs.Spans.{good_span, zero_outside, span_only}
use Rattle.belief.proofs.Spanned.{span_some, span_last, span_length, span_kept, span_agree, span_same, zero_at}
use Rattle.table.specs.Places.{in_order, size_of, place_of, fits_in}
use Rattle.table.specs.Tables.{weight_in, shaped}
use Rattle.table.specs.Folds.{sheet_at, fold_below, gathered, append_folds}
use Rattle.table.specs.Order.{fits_at, place_sheet, sheet_fits, sheet_below, sheet_length}

-- what shaped says
pub record Shape (f c : ℕ) (tops : List ℕ) : Type 0 where
  pub some : 1 ≤ c
  pub fits : f + c ≤ 4
  pub out : (k : ℕ) → in_span f c k ≡ false → slice_index tops k ≡ 0
  pub small : size_of tops ≤ 1024
  pub four : length tops ≡ 4

pub shape_of : (f c : ℕ) (tops : List ℕ) → length tops ≡ 4 → shaped f c tops ≡ true → Shape f c tops
shape_of f c tops l e =
    let g = and_left (good_span f c && zero_outside f c tops) _ e in
    let s = and_left (good_span f c) _ g in
    record { some = span_some f c s; fits = span_last f c s; out = zero_at f c tops l (and_right (good_span f c) _ g); small = leb-true _ _ (and_right (good_span f c && zero_outside f c tops) _ e); four = l }

-- a list gathered item by item
listed : (n : ℕ) (xs : List ℕ) → n ≤ length xs → take n xs ≡ fold_below ◌++◌ [] n (λ i. slice_index xs i ∷ [])
unfolding fold_below
listed zero xs h = refl
listed (suc n) xs h = take-suc xs n 0 h ∙ ap (λ z. z ++ (slice_index xs n ∷ [])) (listed n xs (omega arith))

-- a weight looks at the values of the span alone, and is 0 where they do not fit
pub weight_by : (f c : ℕ) (tops ws s t : List ℕ) → span_only f c s ≡ span_only f c t → weight_in f c tops ws s ≡ weight_in f c tops ws t
unfolding weight_in
weight_by f c tops ws s t e = ap (λ p. cond (fits_in tops p) (slice_index ws (place_of tops p)) 0) e

pub weight_none : (f c : ℕ) (tops ws s : List ℕ) → fits_in tops (span_only f c s) ≡ false → weight_in f c tops ws s ≡ 0
unfolding weight_in
weight_none f c tops ws s e = ap (λ b. cond b (slice_index ws (place_of tops (span_only f c s))) 0) e

-- the list of the values of all sheets, place by place
pub in_order_is : (tops : List ℕ) (f : List ℕ → ℕ) (ys : List ℕ) → length ys ≡ size_of tops → ((i : ℕ) → i < size_of tops → slice_index ys i ≡ f (sheet_at tops i)) → ys ≡ in_order tops f
in_order_is tops f ys l h =
    gathered ◌++◌ [] append_folds tops (λ s. f s ∷ []) _ (length ys) ys
    (sym (take_all (length ys) ys (omega arith)) ∙ listed (length ys) ys (omega arith)) l (λ i k. ap (λ w. w ∷ []) (h i k))

module _ (f c : ℕ) (tops : List ℕ) (p : Shape f c tops) where
  span_sheet : (i : ℕ) → i < size_of tops → span_only f c (sheet_at tops i) ≡ sheet_at tops i
  span_sheet i h = span_kept f c tops (sheet_at tops i) (sheet_length tops i ∙ p.four) p.out (sheet_below tops i h)

  module _ (ws : List ℕ) where
    -- the weight of the sheet at a place
    pub weight_at_place : (i : ℕ) → i < size_of tops → slice_index ws i ≡ weight_in f c tops ws (sheet_at tops i)
    unfolding weight_in
    weight_at_place i h = simp (span_sheet i h, sheet_fits tops i h, place_sheet tops i h)

    pub in_order_again : length ws ≡ size_of tops → ws ≡ in_order tops (weight_in f c tops ws)
    in_order_again l = in_order_is tops (weight_in f c tops ws) ws l weight_at_place

    -- each weight is at most their sum
    pub weight_le : (s : List ℕ) → weight_in f c tops ws s ≤ sum_of tops (weight_in f c tops ws)
    weight_le s = by (fits_in tops (span_only f c s)) refl
      where
        l : length (span_only f c s) ≡ length tops
        l = span_length f c s ∙ sym p.four

        by : (b : Bool) → fits_in tops (span_only f c s) ≡ b → weight_in f c tops ws s ≤ sum_of tops (weight_in f c tops ws)
        by true e =
            let a = span_agree f c s (span_only f c s) (span_same f c s p.fits) in
            let same : weight_in f c tops ws s ≡ weight_in f c tops ws (span_only f c s) = weight_by f c tops ws _ _ a in
            let b = below_sum tops (span_only f c s) l (fits_at tops (span_only f c s) l e) (weight_in f c tops ws) in omega arith
        by false e = let z : weight_in f c tops ws s ≡ 0 = weight_none f c tops ws s e in omega arith
