-- Boxes that are apart hold no sheet in common, and their pieces stay apart and within the tops.
use Rattle.std.proofs.Common.{◌≡◌, ℕ, ◌+◌, ◌≤◌, max, Bool, true, false, cond, ◌&&◌, ◌||◌, ltb, nat_le, List, [], ◌∷◌, ◌++◌, map, length, filter, refl, ap, ◌∙◌, arith, le-leb}
use Rattle.std.proofs.lemmas.Bool.{and_from, or_parts}
use Rattle.std.specs.List.{AllByRecursion}
use Rattle.std.proofs.ByRecursion.{All-append, All-map}
use Rattle.question.specs.declared.steps.Step.{Step}
use Rattle.question.proofs.Questions.{and_left, and_right}
use Rattle.belief.specs.Sheets.{plus}
use Rattle.ranges.specs.declared.shapes.Side.{Side}
use Rattle.ranges.specs.declared.shapes.WeightedBox.{WeightedBox}
use Rattle.ranges.specs.Boxes.{within, inside, fits, over_boxes, cover_at, fit_all, apart, apart_all, disjoint}
use Rattle.ranges.specs.Pieces.{cuts, pieces, cut, cut_all}
use Rattle.ranges.proofs.Folds.{never, fitting, fit}
use Rattle.ranges.proofs.Cuts.{fits_lower, fits_upper}
use Rattle.ranges.proofs.Pieces.{Fielded, part, cut_none, cut_parts, cut_whole, at_pieces}

-- ---- boxes that are apart

base_apart : (x y : Side) (v : ℕ) → (ltb x.high y.low || ltb y.high x.low) ≡ true → within x v ≡ true → within y v ≡ false
unfolding within
base_apart x y v h i = grind arith

either : (a b c d : Bool) → (a || b) ≡ true → (a ≡ true → c ≡ false) → (b ≡ true → d ≡ false) → (c && d) ≡ false
either true b c d e f g = ap (λ z. z && d) (f refl)
either false b true d e f g = g e
either false b false d e f g = refl

apart_out : (xs ys : List Side) (s : List ℕ) → apart xs ys ≡ true → inside xs s ≡ true → inside ys s ≡ false
unfolding apart inside
apart_out [] ys s h i = never h
apart_out (x ∷ xs) [] s h i = never h
apart_out (x ∷ xs) (y ∷ ys) [] h i = never i
apart_out (x ∷ xs) (y ∷ ys) (v ∷ s) h i =
    either _ _ (within y v) (inside ys s) h (λ e. base_apart x y v e (and_left (within x v) _ i)) (λ e. apart_out xs ys s e (and_right (within x v) _ i))

pub out_none : (x : List Side) (bs : List WeightedBox) (c : WeightedBox → ℕ) (s : List ℕ) → apart_all x bs ≡ true → inside x s ≡ true → over_boxes plus (λ b. cond (inside b.sides s) (c b) 0) bs ≡ 0
unfolding apart_all over_boxes
out_none x [] c s h i = refl
out_none x (b ∷ bs) c s h i =
    let e = apart_out x b.sides s (and_left (apart x b.sides) _ h) i in
    let r = out_none x bs c s (and_right (apart x b.sides) _ h) i in
    let z = ap (λ i. cond i (c b) 0) e in omega arith

cover_step : (i : Bool) (n : ℕ) → (i ≡ true → n ≡ 0) → n ≤ 1 → cond i 1 0 + n ≤ 1
cover_step true n h k = let z = h refl in omega arith
cover_step false n h k = omega arith

-- the test of disjointness says that no sheet lies in two boxes
pub disjoint_cover : (bs : List WeightedBox) → disjoint bs ≡ true → (s : List ℕ) → cover_at bs s ≤ 1
unfolding disjoint cover_at over_boxes
disjoint_cover [] d s = omega arith
disjoint_cover (b ∷ bs) d s =
    cover_step (inside b.sides s) (cover_at bs s) (out_none b.sides bs (λ b. 1) s (and_left (apart_all b.sides bs) _ d)) (disjoint_cover bs (and_right (apart_all b.sides bs) _ d) s)

-- ---- boxes that are not apart share a sheet

meet : List Side → List Side → List ℕ
meet [] ys = []
meet (x ∷ xs) [] = []
meet (x ∷ xs) (y ∷ ys) = max x.low y.low ∷ meet xs ys

within_make : (x : Side) (v : ℕ) → x.low ≤ v → v ≤ x.high → within x v ≡ true
unfolding within
within_make x v l h = and_from _ _ (le-leb _ _ l) (le-leb _ _ h)

base_meet : (x y : Side) → x.low ≤ x.high → y.low ≤ y.high → (ltb x.high y.low || ltb y.high x.low) ≡ false →
    (within x (max x.low y.low) ≡ true) × (within y (max x.low y.low) ≡ true)
base_meet x y l m h =
    let a : x.low ≤ y.high = grind arith in
    let b : y.low ≤ x.high = grind arith in
    (within_make x (max x.low y.low) (omega arith) (omega arith), within_make y (max x.low y.low) (omega arith) (omega arith))

meets : (xs ys : List Side) (ts : List ℕ) → fits ts xs ≡ true → fits ts ys ≡ true → apart xs ys ≡ false → (inside xs (meet xs ys) ≡ true) × (inside ys (meet xs ys) ≡ true)
unfolding apart inside meet fits
meets [] [] ts h k e = (refl, refl)
meets [] (y ∷ ys) [] h k e = never k
meets [] (y ∷ ys) (t ∷ ts) h k e = never h
meets (x ∷ xs) [] [] h k e = never h
meets (x ∷ xs) [] (t ∷ ts) h k e = never k
meets (x ∷ xs) (y ∷ ys) [] h k e = never h
meets (x ∷ xs) (y ∷ ys) (t ∷ ts) h k e =
    let p = fitting ts t x xs h in
    let q = fitting ts t y ys k in
    let o = or_parts (ltb x.high y.low || ltb y.high x.low) _ e in
    let b = base_meet x y p.order q.order o.0 in
    let r = meets xs ys ts p.rest q.rest o.1 in
    (and_from _ _ b.0 r.0, and_from _ _ b.1 r.1)

cover_two : (x y : List Side) (ts : List ℕ) (n : List ℕ → ℕ) → fits ts x ≡ true → fits ts y ≡ true → ((s : List ℕ) → cond (inside x s) 1 0 + (cond (inside y s) 1 0 + n s) ≤ 1) → (b : Bool) → apart x y ≡ b → b ≡ true
cover_two x y ts n h k c true e = refl
cover_two x y ts n h k c false e =
    let m = meets x y ts h k e in
    let a = ap {B = ℕ} (λ z. cond z 1 0) m.0 in
    let b = ap {B = ℕ} (λ z. cond z 1 0) m.1 in
    let l = c (meet x y) in absurd (omega arith)

all_apart : (x : List Side) (bs : List WeightedBox) (ts : List ℕ) → fits ts x ≡ true → fit_all ts bs ≡ true → ((s : List ℕ) → cond (inside x s) 1 0 + cover_at bs s ≤ 1) → apart_all x bs ≡ true
unfolding apart_all cover_at over_boxes
all_apart x [] ts h k c = refl
all_apart x (b ∷ bs) ts h k c =
    let f = fit ts b bs k in
    and_from _ _ (cover_two x b.sides ts (cover_at bs) h f.here c (apart x b.sides) refl) (all_apart x bs ts h f.rest (λ s. let l = c s in omega arith))

pub cover_disjoint : (bs : List WeightedBox) (ts : List ℕ) → fit_all ts bs ≡ true → ((s : List ℕ) → cover_at bs s ≤ 1) → disjoint bs ≡ true
unfolding disjoint cover_at over_boxes
cover_disjoint [] ts h c = refl
cover_disjoint (b ∷ bs) ts h c =
    let f = fit ts b bs h in
    and_from _ _ (all_apart b.sides bs ts f.here f.rest c) (cover_disjoint bs ts f.rest (λ s. let l = c s in omega arith))

-- ---- the pieces of boxes that fit and are apart

fit_append : (ts : List ℕ) (xs ys : List WeightedBox) → fit_all ts xs ≡ true → fit_all ts ys ≡ true → fit_all ts (xs ++ ys) ≡ true
unfolding fit_all
fit_append ts [] ys h k = k
fit_append ts (x ∷ xs) ys h k = and_from _ _ (and_left (fits ts x.sides && nat_le 1 x.weight) _ h) (fit_append ts xs ys (and_right (fits ts x.sides && nat_le 1 x.weight) _ h) k)

fit_go : (ts : List ℕ) (w : ℕ) (t : Step) (qs : List Step) (xs : List Side) → fits ts xs ≡ true → ((ys : List Side) → fits ts ys ≡ true → fit_all ts (cut qs (part w ys)) ≡ true) →
    (b : Bool) → cuts xs t.field t.bound ≡ b → fit_all ts (cut (t ∷ qs) (part w xs)) ≡ true
fit_go ts w t qs xs h ih true c = ap (fit_all ts) (cut_parts t qs w xs c) ∙ fit_append ts _ _ (ih _ (fits_lower xs ts _ _ c h)) (ih _ (fits_upper xs ts _ _ c h))
fit_go ts w t qs xs h ih false c = ap (fit_all ts) (cut_whole t qs w xs c) ∙ ih xs h

fit_cut : (ts : List ℕ) (w : ℕ) (qs : List Step) (xs : List Side) → 1 ≤ w → fits ts xs ≡ true → fit_all ts (cut qs (part w xs)) ≡ true
unfolding fit_all
fit_cut ts w [] xs k h = ap (fit_all ts) (cut_none w xs) ∙ and_from _ _ (and_from _ _ h (le-leb 1 w k)) refl
fit_cut ts w (t ∷ qs) xs k h = fit_go ts w t qs xs h (λ ys e. fit_cut ts w qs ys k e) (cuts xs t.field t.bound) refl

pub cut_fits : (ts : List ℕ) (qs : List Step) (bs : List WeightedBox) → fit_all ts bs ≡ true → fit_all ts (cut_all qs bs) ≡ true
unfolding cut_all
cut_fits ts qs [] h = h
cut_fits ts qs (b ∷ bs) h = let f = fit ts b bs h in fit_append ts (cut qs b) (cut_all qs bs) (fit_cut ts b.weight qs b.sides f.some f.here) (cut_fits ts qs bs f.rest)

-- pieces weigh what their boxes do
pub cut_light : (n : ℕ) (qs : List Step) (bs : List WeightedBox) → AllByRecursion (λ b. b.weight ≤ n) bs → AllByRecursion (λ p. p.weight ≤ n) (cut_all qs bs)
unfolding cut_all cut
cut_light n qs [] h = tt
cut_light n qs (b ∷ bs) h = All-append (λ p. p.weight ≤ n) (cut qs b) (cut_all qs bs) (All-map (λ p. p.weight ≤ n) (part b.weight) (pieces qs b.sides) (same (pieces qs b.sides) h.0)) (cut_light n qs bs h.1)
  where
    same : (ps : List (List Side)) → b.weight ≤ n → AllByRecursion (λ x. b.weight ≤ n) ps
    same [] k = tt
    same (p ∷ ps) k = (k, same ps k)

-- a sheet lies in as many pieces as boxes
cut_cover : (ts : List ℕ) (qs : List Step) (bs : List WeightedBox) (s : List ℕ) → Fielded (length ts) qs → fit_all ts bs ≡ true → cover_at bs s ≡ cover_at (cut_all qs bs) s
unfolding cover_at
cut_cover ts qs bs s fl h = at_pieces (λ w s. 1) ts s qs fl (λ w xs l. λ s u i k e. refl) bs h

pub cut_disjoint : (ts : List ℕ) (qs : List Step) (bs : List WeightedBox) → Fielded (length ts) qs → fit_all ts bs ≡ true → disjoint bs ≡ true → disjoint (cut_all qs bs) ≡ true
cut_disjoint ts qs bs fl h d = cover_disjoint (cut_all qs bs) ts (cut_fits ts qs bs h) (λ s. let a = cut_cover ts qs bs s fl h in let b = disjoint_cover bs d s in omega arith)

-- ---- some of the boxes, and others with the same sides

cover_kept : (p : WeightedBox → Bool) (bs : List WeightedBox) (s : List ℕ) → cover_at (filter p bs) s ≤ cover_at bs s
unfolding cover_at over_boxes
cover_kept p [] s = omega arith
cover_kept p (b ∷ bs) s = go (p b) (cover_kept p bs s)
  where
    go : (c : Bool) → cover_at (filter p bs) s ≤ cover_at bs s → cover_at (cond c (b ∷ filter p bs) (filter p bs)) s ≤ cond (inside b.sides s) 1 0 + cover_at bs s
    go true e = omega arith
    go false e = omega arith

pub kept_fits : (ts : List ℕ) (p : WeightedBox → Bool) (bs : List WeightedBox) → fit_all ts bs ≡ true → fit_all ts (filter p bs) ≡ true
unfolding fit_all
kept_fits ts p [] h = refl
kept_fits ts p (b ∷ bs) h = go (p b) (kept_fits ts p bs (and_right (fits ts b.sides && nat_le 1 b.weight) _ h))
  where
    go : (c : Bool) → fit_all ts (filter p bs) ≡ true → fit_all ts (cond c (b ∷ filter p bs) (filter p bs)) ≡ true
    go true e = and_from _ _ (and_left (fits ts b.sides && nat_le 1 b.weight) _ h) e
    go false e = e

pub kept_disjoint : (ts : List ℕ) (p : WeightedBox → Bool) (bs : List WeightedBox) → fit_all ts bs ≡ true → disjoint bs ≡ true → disjoint (filter p bs) ≡ true
kept_disjoint ts p bs h d = cover_disjoint (filter p bs) ts (kept_fits ts p bs h) (λ s. let a = cover_kept p bs s in let b = disjoint_cover bs d s in omega arith)

module _ (g : WeightedBox → WeightedBox) (sides : (b : WeightedBox) → (g b).sides ≡ b.sides) where
  cover_map : (bs : List WeightedBox) (s : List ℕ) → cover_at (map g bs) s ≡ cover_at bs s
  unfolding cover_at over_boxes
  cover_map [] s = refl
  cover_map (b ∷ bs) s = let e = cover_map bs s in let z = ap {B = ℕ} (λ x. cond (inside x s) 1 0) (sides b) in omega arith

  pub map_fits : (ts : List ℕ) → ((b : WeightedBox) → 1 ≤ b.weight → 1 ≤ (g b).weight) → (bs : List WeightedBox) → fit_all ts bs ≡ true → fit_all ts (map g bs) ≡ true
  unfolding fit_all
  map_fits ts k [] h = refl
  map_fits ts k (b ∷ bs) h =
      let f = fit ts b bs h in
      and_from _ _ (and_from _ _ (ap (fits ts) (sides b) ∙ f.here) (le-leb 1 (g b).weight (k b f.some))) (map_fits ts k bs f.rest)

  pub map_disjoint : (ts : List ℕ) → ((b : WeightedBox) → 1 ≤ b.weight → 1 ≤ (g b).weight) → (bs : List WeightedBox) → fit_all ts bs ≡ true → disjoint bs ≡ true → disjoint (map g bs) ≡ true
  map_disjoint ts k bs h d = cover_disjoint (map g bs) ts (map_fits ts k bs h) (λ s. let a = cover_map bs s in let b = disjoint_cover bs d s in omega arith)
