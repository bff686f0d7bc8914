-- Total, peak and wholeness by boxes are what they are by sheets.
use Rattle.std.proofs.Common.{◌≡◌, ℕ, zero, suc, ◌+◌, ◌-◌, ◌*◌, ◌≤◌, max, Bool, true, false, cond, ◌&&◌, eqb, nat_le, List, [], ◌∷◌, sym, refl, ap, ◌∙◌, add-mul, mul-le-mul, one-mul, mul-one, arith}
use Rattle.std.specs.List.{AllByRecursion}
use Rattle.std.proofs.lemmas.Bool.Decides.{nat_tests}
use Rattle.question.proofs.Questions.{and_left, and_right}
use Rattle.belief.specs.Sheets.{up_to, sum_of, max_of, all_of, plus, both}
use Rattle.belief.proofs.Sums.{plus_mono, up_to_mono, over_mono, up_to_cong, over_cong}
use Rattle.ranges.specs.declared.shapes.Side.{Side}
use Rattle.ranges.specs.declared.shapes.WeightedBox.{WeightedBox}
use Rattle.ranges.specs.Boxes.{inside, fits, width, volume, entire, over_boxes, cover_at, weight_at, volume_in, total_in, peak_in, fit_all, apart_all, disjoint}
use Rattle.ranges.proofs.Folds.{plus_joins, max_joins, never, fitting, fit, boxes_fold, boxed_plus, boxed_max, boxes_cong, fitting_cong}
use Rattle.ranges.proofs.Covers.{out_none, disjoint_cover}

-- ---- the sum of all weights

pub total_is : (ts : List ℕ) (bs : List WeightedBox) → fit_all ts bs ≡ true → sum_of ts (weight_at bs) ≡ total_in bs
unfolding weight_at total_in
total_is ts bs h = boxes_fold plus plus_joins (λ b. b.weight) bs ts h ∙ boxes_cong plus _ _ (λ b. boxed_plus b.sides b.weight) bs

pub volume_pos : (ts : List ℕ) (xs : List Side) → fits ts xs ≡ true → 1 ≤ volume xs
unfolding volume width fits
volume_pos ts [] h = omega arith
volume_pos [] (x ∷ xs) h = never h
volume_pos (t ∷ ts) (x ∷ xs) h =
    let p = fitting ts t x xs h in
    let o = p.order in
    let w : 1 ≤ x.high + 1 - x.low = omega arith in
    mul-le-mul {n₁ = 1} {m₁ = 1} w (volume_pos ts xs p.rest)

cond_le : (i : Bool) (w v : ℕ) → 1 ≤ v → cond i w 0 ≤ v * w
cond_le true w v h = let z = mul-le-mul {n₁ = 1} {m₁ = w} {m₂ = w} h (omega arith) in let o = one-mul w in omega arith
cond_le false w v h = omega arith

pub weight_total : (ts : List ℕ) (bs : List WeightedBox) (s : List ℕ) → fit_all ts bs ≡ true → weight_at bs s ≤ total_in bs
unfolding weight_at total_in over_boxes
weight_total ts [] s h = omega arith
weight_total ts (b ∷ bs) s h =
    let f = fit ts b bs h in
    let a = cond_le (inside b.sides s) b.weight (volume b.sides) (volume_pos ts b.sides f.here) in
    let r = weight_total ts bs s f.rest in omega arith

-- no box weighs more than all together
pub light : (ts : List ℕ) (bs : List WeightedBox) (n : ℕ) → fit_all ts bs ≡ true → total_in bs ≤ n → AllByRecursion (λ b. b.weight ≤ n) bs
unfolding total_in over_boxes
light ts [] n h l = tt
light ts (b ∷ bs) n h l =
    let f = fit ts b bs h in
    let a = cond_le true b.weight (volume b.sides) (volume_pos ts b.sides f.here) in
    (omega arith, light ts bs n f.rest (omega arith))

-- ---- the greatest weight

split_max : (i : Bool) (w x y : ℕ) → (i ≡ true → x ≡ 0) → x ≡ y → cond i w 0 + x ≡ max (cond i w 0) y
split_max true w x y h e = let z = h refl in omega arith
split_max false w x y h e = omega arith

-- of boxes that are apart the greatest weight at a sheet is the only one
weight_max : (bs : List WeightedBox) (s : List ℕ) → disjoint bs ≡ true → weight_at bs s ≡ over_boxes max (λ b. cond (inside b.sides s) b.weight 0) bs
unfolding weight_at over_boxes disjoint
weight_max [] s d = refl
weight_max (b ∷ bs) s d =
    split_max (inside b.sides s) b.weight _ _ (out_none b.sides bs (λ b. b.weight) s (and_left (apart_all b.sides bs) _ d)) (weight_max bs s (and_right (apart_all b.sides bs) _ d))

pub peak_is : (ts : List ℕ) (bs : List WeightedBox) → fit_all ts bs ≡ true → disjoint bs ≡ true → max_of ts (weight_at bs) ≡ peak_in bs
unfolding peak_in
peak_is ts bs h d =
    over_cong max ts _ _ (λ s. weight_max bs s d) ∙ boxes_fold max max_joins (λ b. b.weight) bs ts h
    ∙ fitting_cong max _ _ ts (λ b f. boxed_max b.sides ts b.weight f) bs h

-- ---- whether every sheet weighs at least 1

volume_is : (ts : List ℕ) (bs : List WeightedBox) → fit_all ts bs ≡ true → sum_of ts (cover_at bs) ≡ volume_in bs
unfolding cover_at volume_in
volume_is ts bs h = boxes_fold plus plus_joins (λ b. 1) bs ts h ∙ boxes_cong plus _ _ (λ b. boxed_plus b.sides 1 ∙ mul-one (volume b.sides)) bs

up_to_same : (n c : ℕ) → up_to plus n (λ v. c) ≡ (n + 1) * c
up_to_same zero c = sym (one-mul c)
up_to_same (suc n) c = let e = up_to_same n c in let m = add-mul (n + 1) 1 c in let o = one-mul c in let z : suc n + 1 ≡ n + 1 + 1 = omega arith in rw z (omega arith)

entire_is : (ts : List ℕ) → sum_of ts (λ s. 1) ≡ volume (entire ts)
unfolding entire volume width
entire_is [] = refl
entire_is (t ∷ ts) =
    let z : t + 1 ≡ t + 1 - 0 = omega arith in
    up_to_same t (sum_of ts (λ s. 1)) ∙ ap (λ n. (t + 1) * n) (entire_is ts) ∙ ap (λ n. n * volume (entire ts)) z

-- two sums of which one is nowhere greater are equal exactly if their terms are
equal_both : (a b c d : ℕ) → a ≤ c → b ≤ d → eqb (a + b) (c + d) ≡ (eqb a c && eqb b d)
equal_both a b c d h k = grind (arith, nat_tests)

up_to_equal : (n : ℕ) (f g : ℕ → ℕ) → ((v : ℕ) → f v ≤ g v) → eqb (up_to plus n f) (up_to plus n g) ≡ up_to both n (λ v. eqb (f v) (g v))
up_to_equal zero f g h = refl
up_to_equal (suc n) f g h =
    equal_both (up_to plus n f) (f (suc n)) (up_to plus n g) (g (suc n)) (up_to_mono plus plus_mono n f g h) (h (suc n)) ∙ ap (λ z. z && eqb (f (suc n)) (g (suc n))) (up_to_equal n f g h)

over_equal : (ts : List ℕ) (f g : List ℕ → ℕ) → ((s : List ℕ) → f s ≤ g s) → eqb (sum_of ts f) (sum_of ts g) ≡ all_of ts (λ s. eqb (f s) (g s))
over_equal [] f g h = refl
over_equal (t ∷ ts) f g h = up_to_equal t _ _ (λ v. over_mono plus plus_mono ts _ _ (λ s. h (v ∷ s))) ∙ up_to_cong both t _ _ (λ v. over_equal ts (λ s. f (v ∷ s)) (λ s. g (v ∷ s)) (λ s. h (v ∷ s)))

-- a sheet lies in a box exactly if it weighs something
cover_weight : (ts : List ℕ) (bs : List WeightedBox) (s : List ℕ) → fit_all ts bs ≡ true → (cover_at bs s ≤ weight_at bs s) × (cover_at bs s ≡ 0 → weight_at bs s ≡ 0)
unfolding cover_at weight_at over_boxes
cover_weight ts [] s h = (omega arith, λ e. refl)
cover_weight ts (b ∷ bs) s h = let f = fit ts b bs h in go (inside b.sides s) f.some (cover_weight ts bs s f.rest)
  where
    go : (i : Bool) → 1 ≤ b.weight → (cover_at bs s ≤ weight_at bs s) × (cover_at bs s ≡ 0 → weight_at bs s ≡ 0) →
        (cond i 1 0 + cover_at bs s ≤ cond i b.weight 0 + weight_at bs s) × (cond i 1 0 + cover_at bs s ≡ 0 → cond i b.weight 0 + weight_at bs s ≡ 0)
    go true k r = let a = r.0 in (omega arith, λ e. absurd (omega arith))
    go false k r = let a = r.0 in (omega arith, λ e. let z = r.1 (omega arith) in omega arith)

one_test : (c w : ℕ) → c ≤ 1 → c ≤ w → (c ≡ 0 → w ≡ 0) → (b : Bool) → eqb c 1 ≡ b → eqb c 1 ≡ nat_le 1 w
one_test c w h k z true e = grind (arith, nat_tests)
one_test c w h k z false e = let o : c ≡ 0 = grind (arith, nat_tests) in let v = z o in grind (arith, nat_tests)

pub whole_is : (ts : List ℕ) (bs : List WeightedBox) → fit_all ts bs ≡ true → disjoint bs ≡ true → all_of ts (λ s. nat_le 1 (weight_at bs s)) ≡ eqb (volume_in bs) (volume (entire ts))
whole_is ts bs h d =
    over_cong both ts _ _ (λ s. let c = cover_weight ts bs s h in sym (one_test (cover_at bs s) (weight_at bs s) (disjoint_cover bs d s) c.0 c.1 (eqb (cover_at bs s) 1) refl))
    ∙ sym (over_equal ts (cover_at bs) (λ s. 1) (disjoint_cover bs d))
    ∙ ap (λ n. eqb n (sum_of ts (λ s. 1))) (volume_is ts bs h) ∙ ap (eqb (volume_in bs)) (entire_is ts)
