-- What sound boxes mean: their laws, and what revising makes of them.
use Rattle.std.specs.Prelude.{◌≡◌, ℕ, zero, suc, ◌+◌, ◌<◌, ◌≤◌, max, Bool, true, false, cond, ◌&&◌, nat_le, List, [], ◌∷◌, length, filter, ◌==◌, slice_index}
use Rattle.std.proofs.Math.Path.{refl, sym, ap}
use Rattle.std.proofs.Common.{◌∙◌}
use Rattle.std.proofs.Math.Logic.{inl, inr}
use native.Mathlib.Omega.{arith}
use borrow.Author.Tests.{leb-true, le-leb, ne_eqb}
use Rattle.std.proofs.lemmas.Bool.{and_from, cases_lt}
use Rattle.question.specs.Expressions.{greatest}
use Rattle.question.specs.Steps.{step}
use Rattle.question.specs.Questions.{answers, is_stepped, steps_of, reads_in, in_span}
use Rattle.question.proofs.Questions.{and_left, and_right, answers_small, answers_span, step_stepped, step_inside, below_at, all_below_true}
use Rattle.belief.specs.Sheets.{sum_of, max_of, all_of, plus, both}
use Rattle.belief.specs.Meaning.{Laws, kept, total_of, peak_of, whole_of, mass_of, heaviest_of, revised}
use Rattle.belief.specs.Spans.{good_span, zero_outside, span_only, most_total}
use Rattle.belief.proofs.Spanned.{in_below, span_agree, span_same, zero_at, span_some, span_last, total_least, total_most, total_good}
use Rattle.belief.proofs.Sums.{over_cong, mass_total}
use Rattle.belief.proofs.Revisings.{ext, same}
use Rattle.ranges.specs.declared.shapes.Side.{Side}
use Rattle.ranges.specs.declared.shapes.WeightedBox.{WeightedBox}
use Rattle.ranges.specs.Boxes.{within, inside, corner, fits, volume, entire, over_boxes, weight_at, volume_in, total_in, peak_in, fit_all, disjoint}
use Rattle.ranges.specs.Pieces.{cut_all}
use Rattle.ranges.specs.Changes.{gives, revised_boxes}
use Rattle.ranges.proofs.Folds.{never, fitting, fit}
use Rattle.ranges.proofs.Weights.{total_is, weight_total, peak_is, whole_is}
use Rattle.ranges.proofs.Changes.{revised_is, revised_fits, revised_disjoint}
use Rattle.ranges.proofs.Simple.{simple_few}
use Rattle.boxes.specs.Holding.{most_boxes, weight_in, good_boxes, sound_in, carried, after, boxed}
use Rattle.boxes.specs.Masks.{over_span}

-- ---- what soundness tests

pub record Tested (f c : ℕ) (tops : List ℕ) (bs : List WeightedBox) : Type 0 where
  pub some : 1 ≤ c
  pub last : f + c ≤ 4
  pub out : zero_outside f c tops ≡ true
  pub few : length bs ≤ most_boxes
  pub fit : fit_all tops bs ≡ true
  pub apart : disjoint bs ≡ true
  pub least : 1 ≤ total_in bs
  pub most : total_in bs ≤ most_total

module _ (f c : ℕ) (tops : List ℕ) (bs : List WeightedBox) where
  pub sound_parts : sound_in f c tops bs ≡ true → Tested f c tops bs
  unfolding sound_in good_boxes
  sound_parts e =
      let s = and_left (good_span f c && zero_outside f c tops) _ e in
      let g = and_left (good_span f c) _ s in
      let r2 = and_right (good_span f c && zero_outside f c tops) _ e in
      let r3 = and_right (nat_le (length bs) most_boxes) _ r2 in
      let r4 = and_right (fit_all tops bs) _ r3 in
      let r5 = and_right (disjoint bs) _ r4 in
      record {
        some = span_some f c g;
        last = span_last f c g;
        out = and_right (good_span f c) _ s;
        few = leb-true _ _ (and_left (nat_le (length bs) most_boxes) _ r2);
        fit = and_left (fit_all tops bs) _ r3;
        apart = and_left (disjoint bs) _ r4;
        least = total_least (total_in bs) r5;
        most = total_most (total_in bs) r5;
      }

  pub sound_made : Tested f c tops bs → sound_in f c tops bs ≡ true
  unfolding sound_in good_boxes
  sound_made p =
      and_from _ _ (and_from _ _ (and_from _ _ (le-leb _ _ p.some) (le-leb _ _ p.last)) p.out)
      (and_from _ _ (le-leb _ _ p.few) (and_from _ _ p.fit (and_from _ _ p.apart (total_good (total_in bs) p.least p.most))))

-- ---- totals

module _ (f c : ℕ) (tops : List ℕ) (bs : List WeightedBox) (four : length tops ≡ 4) (out : zero_outside f c tops ≡ true) (fit : fit_all tops bs ≡ true) where
  pub summed : sum_of tops (weight_in f c bs) ≡ total_in bs
  unfolding weight_in
  summed = over_span plus f c tops (weight_at bs) four out ∙ total_is tops bs fit

  peaked : disjoint bs ≡ true → max_of tops (weight_in f c bs) ≡ peak_in bs
  unfolding weight_in
  peaked d = over_span max f c tops (weight_at bs) four out ∙ peak_is tops bs fit d

  covered : disjoint bs ≡ true → all_of tops (λ s. nat_le 1 (weight_in f c bs s)) ≡ (volume_in bs == volume (entire tops))
  unfolding weight_in
  covered d = over_span both f c tops (λ s. nat_le 1 (weight_at bs s)) four out ∙ whole_is tops bs fit d

-- a value above its top lies in no box that fits
inside_under : (ts : List ℕ) (xs : List Side) (s : List ℕ) (k : ℕ) → fits ts xs ≡ true → inside xs s ≡ true → k < length ts → slice_index s k ≤ slice_index ts k
unfolding fits inside within
inside_under [] xs s k h i l = absurd (omega arith)
inside_under (t ∷ ts) [] s k h i l = never h
inside_under (t ∷ ts) (x ∷ xs) [] k h i l = never i
inside_under (t ∷ ts) (x ∷ xs) (v ∷ s) zero h i l =
    let p = fitting ts t x xs h in
    let u = p.under in
    let w = leb-true _ _ (and_right (nat_le x.low v) _ (and_left (within x v) _ i)) in omega arith
inside_under (t ∷ ts) (x ∷ xs) (v ∷ s) (suc k) h i l = inside_under ts xs s k (fitting ts t x xs h).rest (and_right (within x v) _ i) (omega arith)

outside : (ts : List ℕ) (xs : List Side) (s : List ℕ) (k : ℕ) → fits ts xs ≡ true → k < length ts → slice_index ts k < slice_index s k → (b : Bool) → inside xs s ≡ b → b ≡ false
outside ts xs s k h l a true i = let u = inside_under ts xs s k h i l in absurd (omega arith)
outside ts xs s k h l a false i = refl

above_none : (ts : List ℕ) (bs : List WeightedBox) (s : List ℕ) (k : ℕ) → fit_all ts bs ≡ true → k < length ts → slice_index ts k < slice_index s k → weight_at bs s ≡ 0
unfolding weight_at over_boxes
above_none ts [] s k h l a = refl
above_none ts (b ∷ bs) s k h l a =
    let p = fit ts b bs h in
    let z = ap (λ i. cond i b.weight 0) (outside ts b.sides s k p.here l a (inside b.sides s) refl) in
    let r = above_none ts bs s k p.rest l a in omega arith

-- ---- carrying

pub carries_now : (f c : ℕ) (tops : List ℕ) (bs : List WeightedBox) (q : List ℕ) → (boxed f c tops bs).carries [] q ≡ carried f c bs q
unfolding after
carries_now f c tops bs q = refl

module _ (f c : ℕ) (bs : List WeightedBox) (q : List ℕ) (e : carried f c bs q ≡ true) where
  pub carried_stepped : is_stepped q ≡ true
  unfolding carried
  carried_stepped = and_left (is_stepped q) _ e

  pub carried_inside : reads_in f c q ≡ true
  unfolding carried
  carried_inside = and_left (reads_in f c q) _ (and_right (is_stepped q) _ e)

  none_give : (a : ℕ) → greatest < a → (ps : List WeightedBox) → length (filter (gives q a) ps) ≡ 0
  unfolding gives
  none_give a h [] = refl
  none_give a h (p ∷ ps) =
      let n = answers_small q (corner p.sides) in
      let z = ne_eqb (answers q (corner p.sides)) a (λ w. omega arith) in
      ap (λ b. length (cond b (p ∷ filter (gives q a) ps) (filter (gives q a) ps))) z ∙ none_give a h ps

  -- no answer at all has more pieces than may be kept
  pub carried_few : (a : ℕ) → length (revised_boxes q a bs) ≤ most_boxes
  unfolding carried revised_boxes
  carried_few a = elim (cases_lt greatest a) [
    | inl h ↦ (let z = none_give a h (cut_all (steps_of q) bs) in omega arith)
    | inr h ↦ leb-true _ _ (below_at (suc greatest) _ a (and_right (reads_in f c q) _ (and_right (is_stepped q) _ e)) (omega arith))
  ]

-- ---- the meaning of sound boxes

module _ (f c : ℕ) (tops : List ℕ) (bs : List WeightedBox) (four : length tops ≡ 4) (p : Tested f c tops bs) where
  pub total_of_boxes : total_of (boxed f c tops bs) ≡ total_in bs
  unfolding total_of
  total_of_boxes = summed f c tops bs four p.out p.fit

  pub peak_of_boxes : peak_of (boxed f c tops bs) ≡ peak_in bs
  unfolding peak_of
  peak_of_boxes = peaked f c tops bs four p.out p.fit p.apart

  pub whole_of_boxes : whole_of (boxed f c tops bs) ≡ (volume_in bs == volume (entire tops))
  unfolding whole_of
  whole_of_boxes = covered f c tops bs four p.out p.fit p.apart

  simple_carried : (k v : ℕ) → in_span f c k ≡ true → v < 65536 → carried f c bs (step k v) ≡ true
  unfolding carried
  simple_carried k v i l =
      let n = in_below f c k i in
      let b = p.last in
      let few = p.few in
      let h : k < 4 = omega arith in
      and_from _ _ (step_stepped k v h l) (and_from _ _ (step_inside f c k v h l i)
      (all_below_true (suc greatest) _ (λ a m. le-leb _ _ (let s = simple_few tops k v a h l bs p.fit in omega arith))))

  pub boxes_laws : Laws (boxed f c tops bs)
  unfolding weight_in
  boxes_laws = record {
    least = let t = total_of_boxes in let l = p.least in omega arith;
    most = let t = total_of_boxes in let l = p.most in omega arith;
    some = p.some;
    fits = p.last;
    four = four;
    outside = zero_at f c tops four p.out;
    local = λ s t h. ap (weight_at bs) (span_agree f c s t h);
    above = λ s k i h.
        let e = span_same f c s p.last k i in
        let n = in_below f c k i in
        let b = p.last in
        above_none tops bs (span_only f c s) k p.fit (omega arith) (omega arith);
    bounded = λ s. let t = total_of_boxes in let w = weight_total tops bs (span_only f c s) p.fit in omega arith;
    spans = λ q h. carried_inside f c bs q (sym (carries_now f c tops bs q) ∙ h);
    simple = λ k v i l. carries_now f c tops bs (step k v) ∙ simple_carried k v i l;
  }

  -- ---- a carried question

  module _ (q : List ℕ) (a : ℕ) (e : carried f c bs q ≡ true) where
    weights : (s : List ℕ) → weight_in f c (revised_boxes q a bs) s ≡ kept q a (weight_in f c bs) s
    unfolding weight_in kept
    weights s =
        revised_is q tops bs (carried_stepped f c bs q e) four p.fit a (span_only f c s)
        ∙ ap (λ n. cond (n == a) (weight_at bs (span_only f c s)) 0) (sym (answers_span f c q s (span_only f c s) (carried_inside f c bs q e) (span_same f c s p.last)))

    pieces_fit : fit_all tops (revised_boxes q a bs) ≡ true
    pieces_fit = revised_fits q tops bs (carried_stepped f c bs q e) four p.fit a

    pieces_apart : disjoint (revised_boxes q a bs) ≡ true
    pieces_apart = revised_disjoint q tops bs (carried_stepped f c bs q e) four p.fit a p.apart

    pub mass_of_boxes : mass_of (boxed f c tops bs) q a ≡ total_in (revised_boxes q a bs)
    unfolding mass_of
    mass_of_boxes = over_cong plus tops _ _ (λ s. sym (weights s)) ∙ summed f c tops (revised_boxes q a bs) four p.out pieces_fit

    pub heaviest_of_boxes : heaviest_of (boxed f c tops bs) q a ≡ peak_in (revised_boxes q a bs)
    unfolding heaviest_of
    heaviest_of_boxes = over_cong max tops _ _ (λ s. sym (weights s)) ∙ peaked f c tops (revised_boxes q a bs) four p.out pieces_fit pieces_apart

    pub mass_most : total_in (revised_boxes q a bs) ≤ most_total
    mass_most = let m = mass_of_boxes in let t = total_of_boxes in let l = mass_total (boxed f c tops bs) q a in let k = p.most in omega arith

    pub revised_sound : 1 ≤ total_in (revised_boxes q a bs) → Tested f c tops (revised_boxes q a bs)
    revised_sound h = record {
      some = p.some;
      last = p.last;
      out = p.out;
      few = carried_few f c bs q e a;
      fit = pieces_fit;
      apart = pieces_apart;
      least = h;
      most = mass_most;
    }

    pub revised_boxes_is : 1 ≤ total_in (revised_boxes q a bs) → boxed f c tops (revised_boxes q a bs) ≡ revised (boxed f c tops bs) q a
    unfolding revised after
    revised_boxes_is h =
        same _ _ refl refl refl (ext weights) refl (sound_made f c tops (revised_boxes q a bs) (revised_sound h) ∙ sym (sound_made f c tops bs p))
