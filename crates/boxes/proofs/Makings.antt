-- What making boxes gives.
use Rattle.std.proofs.Common.{◌≡◌, ℕ, Bool, not, zero, suc, ◌+◌, ◌-◌, ◌^◌, ◌<◌, ◌≤◌, true, false, cond, eqb, List, [], ◌∷◌, length, get_or, take, replicate, sym, refl, ap, ◌∙◌, mul-one, arith, eq-eqb, le-leb}
use Rattle.std.proofs.lemmas.Bool.{and_from}
use Rattle.refusal.specs.Replies.{given, refuse_if}
use Rattle.belief.specs.Sheets.{up_to, all_of, both}
use Rattle.belief.proofs.Sums.{up_to_cong}
use Rattle.ranges.specs.declared.shapes.WeightedBox.{WeightedBox}
use Rattle.ranges.specs.Boxes.{within, inside, fits, width, volume, entire, over_boxes, weight_at, total_in, fit_all, apart_all, disjoint}
use Rattle.ranges.proofs.Weights.{volume_pos}
use Rattle.boxes.specs.declared.holding.Boxes.{Boxes}
use Rattle.boxes.specs.declared.lists.BoxList.{BoxList}
use Rattle.belief.specs.declared.spans.Span.{Span}
use Rattle.belief.specs.Spans.{good_span, zero_outside, span_made}
use Rattle.belief.proofs.Spanned.{span_some, span_last}
use Rattle.boxes.specs.Holding.{most_boxes, weight_in, sound_in, boxed, held, meaning, single, Fresh, Blank}
use Rattle.boxes.specs.Takers.{listed, put, Holds}
use Rattle.boxes.proofs.Fours.{fours, four_volume, products}
use Rattle.boxes.proofs.Gathers.{puts_hold}
use Rattle.boxes.specs.Masks.{Under, over_in, over_span}
use Rattle.boxes.specs.Meanings.{Tested, sound_made}

-- ---- the box of all sheets

entire_fits : (ts : List ℕ) → fits ts (entire ts) ≡ true
unfolding fits entire
entire_fits [] = refl
entire_fits (t ∷ ts) = and_from _ _ (le-leb 0 t (omega arith)) (and_from _ _ (le-leb t t (omega arith)) (entire_fits ts))

entire_inside : (ts s : List ℕ) → Under ts s → inside (entire ts) s ≡ true
unfolding entire inside within
entire_inside [] s u = refl
entire_inside (t ∷ ts) [] u = let l = u.long in absurd (omega arith)
entire_inside (t ∷ ts) (v ∷ s) u =
    and_from _ _ (and_from _ _ (le-leb 0 v (omega arith)) (le-leb v t (u.under 0))) (entire_inside ts s (let l = u.long in record { long = omega arith; under = λ k. u.under (suc k) }))

up_to_true : (n : ℕ) → up_to both n (λ v. true) ≡ true
up_to_true zero = refl
up_to_true (suc n) = and_from _ _ (up_to_true n) refl

over_true : (ts : List ℕ) → all_of ts (λ s. true) ≡ true
over_true [] = refl
over_true (t ∷ ts) = up_to_cong both t _ _ (λ v. over_true ts) ∙ up_to_true t

single_ones : (ts s : List ℕ) → Under ts s → eqb (weight_at (single ts) s) 1 ≡ true
unfolding weight_at over_boxes
single_ones ts s u = let z = ap {B = ℕ} (λ b. cond b 1 0) (entire_inside ts s u) in eq-eqb _ _ (omega arith)

-- its sheets are 2 to the 32nd at most
pub entire_small : (ts : List ℕ) → length ts ≡ 4 → get_or ts 0 0 < 256 → get_or ts 1 0 < 256 → get_or ts 2 0 < 256 → get_or ts 3 0 < 256 → volume (entire ts) ≤ 2 ^ 32
unfolding width entire
entire_small ts l a b d e =
    let v = ap volume (sym (ap entire (fours 0 ts l))) ∙ sym (four_volume _ refl) in
    let p = (products (get_or ts 0 0 + 1 - 0) (get_or ts 1 0 + 1 - 0) (get_or ts 2 0 + 1 - 0) (get_or ts 3 0 + 1 - 0) (omega arith) (omega arith) (omega arith) (omega arith)).fourth in omega arith

module _ (f c : ℕ) (tops : List ℕ) (s : good_span f c ≡ true) (z : zero_outside f c tops ≡ true) (l : length tops ≡ 4) (small : volume (entire tops) ≤ 2 ^ 32) where
  single_sound : Tested f c tops (single tops)
  unfolding fit_all disjoint apart_all total_in over_boxes
  single_sound =
      let v = volume_pos tops (entire tops) (entire_fits tops) in
      let m = mul-one (volume (entire tops)) in
      record {
        some = span_some f c s;
        last = span_last f c s;
        out = z;
        few = omega arith;
        fit = and_from _ _ (and_from _ _ (entire_fits tops) refl) refl;
        apart = refl;
        least = omega arith;
        most = omega arith;
      }

  pub fresh_is : Fresh (boxed f c tops (single tops))
  unfolding weight_in
  fresh_is = record {
    sound = sound_made f c tops (single tops) single_sound;
    ones = over_span both f c tops (λ s. eqb (weight_at (single tops) s) 1) l z ∙ over_in both tops _ (λ s. true) (single_ones tops) ∙ over_true tops;
  }

-- ---- the span that was made

made_by : (a b : Bool) (x y : Span) → given x ≡ refuse_if (not a) 1 (refuse_if (not b) 2 (given y)) → (x ≡ y) × (a ≡ true) × (b ≡ true)
made_by true true x y e = (cc, refl, refl)
made_by true false x y e = absurd (cc)
made_by false b x y e = absurd (cc)

pub made_good : (f c : ℕ) (tops : List ℕ) (x : Span) → given x ≡ span_made f c tops → (good_span x.first x.count ≡ true) × (zero_outside x.first x.count x.tops ≡ true)
made_good f c tops x e =
    let m = made_by (good_span f c) (zero_outside f c tops) x _ e in
    (ap (λ x. good_span x.first x.count) m.0 ∙ m.1, ap (λ x. zero_outside x.first x.count x.tops) m.0 ∙ m.2)

-- one box put into an empty list
module _ (k l : BoxList) (b : WeightedBox) (tops : List ℕ) (eb : b ≡ record { sides = entire tops; weight = 1 }) (el : l.len ≡ 0) (en : length l.boxes ≡ most_boxes) (ek : k ≡ put l b) where
  one_held : Holds k (b ∷ [])
  one_held = puts_hold k l (b ∷ []) ek el en

  pub one_few : k.len ≤ most_boxes
  one_few = let e = one_held.len in omega arith

  pub one_single : take k.len k.boxes ≡ single tops
  unfolding listed
  one_single = one_held.all (omega arith) ∙ ap (λ z. z ∷ []) eb

-- ---- the value to fill memory with

none_sound : (bs : List WeightedBox) → sound_in 0 0 (replicate 4 0) bs ≡ false
unfolding sound_in
none_sound bs = refl

pub blank : (b : Boxes) → b.span.first ≡ 0 → b.span.count ≡ 0 → b.span.tops ≡ replicate 4 0 → b.kept.len ≡ 0 → Blank b
unfolding held
blank b f c t n =
    let e : meaning b ≡ boxed 0 0 (replicate 4 0) [] = λ i. boxed (f i) (c i) (t i) (take (n i) b.kept.boxes) in
    record { is = e; sound = ap (λ m. m.sound) e ∙ none_sound [] }
