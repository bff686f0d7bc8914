-- What a sheet gets from boxes is what it gets from their pieces.
use Rattle.std.proofs.Common.{◌≡◌, ℕ, suc, ◌+◌, ◌<◌, Bool, true, false, cond, not, ◌&&◌, ltb, nat_le, List, [], ◌∷◌, ◌++◌, map, length, get_or, sym, refl, ap, ◌∙◌, arith}
use Rattle.std.specs.List.{AllByRecursion}
use Rattle.std.proofs.lemmas.Bool.{not-true}
use Rattle.std.proofs.lemmas.List.{map-append}
use Rattle.question.specs.declared.steps.Step.{Step}
use Rattle.question.specs.Steps.{Agree}
use Rattle.question.proofs.Questions.{and_left, and_right}
use Rattle.belief.specs.Sheets.{plus}
use Rattle.ranges.specs.declared.shapes.Side.{Side}
use Rattle.ranges.specs.declared.shapes.WeightedBox.{WeightedBox}
use Rattle.ranges.specs.Boxes.{inside, fits, corner, over_boxes, fit_all}
use Rattle.ranges.specs.Pieces.{cuts, lower, upper, pieces, cut, cut_all}
use Rattle.ranges.proofs.Folds.{never, fit}
use Rattle.ranges.proofs.Cuts.{in_lower, in_upper, length_part, fits_lower, fits_upper, corner_inside, uncut}

-- the fields of some steps lie below n
abbrev pub Fielded : ℕ → List Step → Type 0
Fielded n ts = AllByRecursion (λ t. t.field < n) ts

pub fits_length : (xs : List Side) (ts : List ℕ) → fits ts xs ≡ true → length xs ≡ length ts
unfolding fits
fits_length [] [] h = refl
fits_length [] (t ∷ ts) h = never h
fits_length (x ∷ xs) [] h = never h
fits_length (x ∷ xs) (t ∷ ts) h = ap suc (fits_length xs ts (and_right (nat_le x.high t) _ (and_right (nat_le x.low x.high) _ h)))

-- within a box, f depends on these steps alone
abbrev pub Rests : {A : Type 0} → List Step → (List ℕ → A) → List Side → Type 0
Rests ts f xs = (s u : List ℕ) → inside xs s ≡ true → inside xs u ≡ true → Agree ts s u → f s ≡ f u

module _ {A : Type 0} (t : Step) (ts : List Step) (f : List ℕ → A) (xs : List Side) where
  rests_lower : cuts xs t.field t.bound ≡ true → Rests (t ∷ ts) f xs → Rests ts f (lower xs t.field t.bound)
  rests_lower c r = λ s u p q e.
      let a = sym (in_lower xs t.field t.bound s c) ∙ p in
      let b = sym (in_lower xs t.field t.bound u c) ∙ q in
      r s u (and_left (inside xs s) _ a) (and_left (inside xs u) _ b) (and_right (inside xs s) _ a ∙ sym (and_right (inside xs u) _ b), e)

  rests_upper : cuts xs t.field t.bound ≡ true → Rests (t ∷ ts) f xs → Rests ts f (upper xs t.field t.bound)
  rests_upper c r = λ s u p q e.
      let a = sym (in_upper xs t.field t.bound s c) ∙ p in
      let b = sym (in_upper xs t.field t.bound u c) ∙ q in
      r s u (and_left (inside xs s) _ a) (and_left (inside xs u) _ b) (not-true _ (and_right (inside xs s) _ a) ∙ sym (not-true _ (and_right (inside xs u) _ b)), e)

  rests_whole : cuts xs t.field t.bound ≡ false → t.field < length xs → Rests (t ∷ ts) f xs → Rests ts f xs
  rests_whole c h r = λ s u p q e. r s u p q (uncut xs t.field t.bound s u c h p q, e)

same_inside : (b : Bool) (x y : ℕ) → (b ≡ true → x ≡ y) → cond b x 0 ≡ cond b y 0
same_inside true x y h = h refl
same_inside false x y h = refl

-- ---- pieces of one box, by one step more

abbrev pub part : ℕ → List Side → WeightedBox
part w xs = record { sides = xs; weight = w }

pub cut_none : (w : ℕ) (xs : List Side) → cut [] (part w xs) ≡ part w xs ∷ []
unfolding cut pieces
cut_none w xs = refl

pub cut_parts : (t : Step) (ts : List Step) (w : ℕ) (xs : List Side) → cuts xs t.field t.bound ≡ true →
    cut (t ∷ ts) (part w xs) ≡ cut ts (part w (lower xs t.field t.bound)) ++ cut ts (part w (upper xs t.field t.bound))
unfolding cut pieces
cut_parts t ts w xs c =
    ap (λ z. map (part w) (cond z (pieces ts (lower xs t.field t.bound) ++ pieces ts (upper xs t.field t.bound)) (pieces ts xs))) c ∙ map-append (part w) (pieces ts (lower xs t.field t.bound)) (pieces ts (upper xs t.field t.bound))

pub cut_whole : (t : Step) (ts : List Step) (w : ℕ) (xs : List Side) → cuts xs t.field t.bound ≡ false → cut (t ∷ ts) (part w xs) ≡ cut ts (part w xs)
unfolding cut pieces
cut_whole t ts w xs c = ap (λ z. map (part w) (cond z (pieces ts (lower xs t.field t.bound) ++ pieces ts (upper xs t.field t.bound)) (pieces ts xs))) c

-- ---- what a sheet gets

pub boxes_append : (g : WeightedBox → ℕ) (ps qs : List WeightedBox) → over_boxes plus g (ps ++ qs) ≡ over_boxes plus g ps + over_boxes plus g qs
unfolding over_boxes
boxes_append g [] qs = omega arith
boxes_append g (p ∷ ps) qs = let e = boxes_append g ps qs in omega arith

split : (a b : Bool) (x : ℕ) → cond a x 0 ≡ cond (a && b) x 0 + cond (a && not b) x 0
split true true x = omega arith
split true false x = omega arith
split false b x = omega arith

-- what a sheet gets from a box of weight w, as f says, it gets from the piece in which it lies, as f says of its corner
module _ (f : ℕ → List ℕ → ℕ) (ts : List ℕ) (s : List ℕ) where
  abbrev pub got : WeightedBox → ℕ
  got p = cond (inside p.sides s) (f p.weight (corner p.sides)) 0

  at_go : (w : ℕ) (t : Step) (qs : List Step) (xs : List Side) → fits ts xs ≡ true → t.field < length xs → Fielded (length xs) qs → Rests (t ∷ qs) (f w) xs →
      ((ys : List Side) → fits ts ys ≡ true → Fielded (length ys) qs → Rests qs (f w) ys → cond (inside ys s) (f w s) 0 ≡ over_boxes plus got (cut qs (part w ys))) →
      (b : Bool) → cuts xs t.field t.bound ≡ b → cond (inside xs s) (f w s) 0 ≡ over_boxes plus got (cut (t ∷ qs) (part w xs))
  at_go w t qs xs h k fl r ih true c =
      let l = lower xs t.field t.bound in
      let u = upper xs t.field t.bound in
      split (inside xs s) (ltb (get_or s t.field 0) t.bound) (f w s)
      ∙ ap (λ z. cond z (f w s) 0 + cond (inside xs s && not (ltb (get_or s t.field 0) t.bound)) (f w s) 0) (sym (in_lower xs _ _ s c))
      ∙ ap (λ z. cond (inside l s) (f w s) 0 + cond z (f w s) 0) (sym (in_upper xs _ _ s c))
      ∙ ap (λ z. z + cond (inside u s) (f w s) 0) (ih l (fits_lower xs ts _ _ c h) (rw length_part fl) (rests_lower t qs (f w) xs c r))
      ∙ ap (λ z. over_boxes plus got (cut qs (part w l)) + z) (ih u (fits_upper xs ts _ _ c h) (rw length_part fl) (rests_upper t qs (f w) xs c r))
      ∙ sym (boxes_append got (cut qs (part w l)) (cut qs (part w u)))
      ∙ ap (over_boxes plus got) (sym (cut_parts t qs w xs c))
  at_go w t qs xs h k fl r ih false c = ih xs h fl (rests_whole t qs (f w) xs c k r) ∙ ap (over_boxes plus got) (sym (cut_whole t qs w xs c))

  pub at_cut : (w : ℕ) (qs : List Step) (xs : List Side) → fits ts xs ≡ true → Fielded (length xs) qs → Rests qs (f w) xs →
      cond (inside xs s) (f w s) 0 ≡ over_boxes plus got (cut qs (part w xs))
  unfolding over_boxes
  at_cut w [] xs h fl r =
      same_inside (inside xs s) (f w s) (f w (corner xs)) (λ e. r s (corner xs) e (corner_inside xs ts h) tt) ∙ omega arith ∙ ap (over_boxes plus got) (sym (cut_none w xs))
  at_cut w (t ∷ qs) xs h fl r = at_go w t qs xs h fl.0 fl.1 r (λ ys a b c. at_cut w qs ys a b c) (cuts xs t.field t.bound) refl

  -- and so from all boxes
  pub at_pieces : (qs : List Step) → Fielded (length ts) qs → ((w : ℕ) (xs : List Side) → length xs ≡ length ts → Rests qs (f w) xs) → (bs : List WeightedBox) → fit_all ts bs ≡ true →
      over_boxes plus (λ b. cond (inside b.sides s) (f b.weight s) 0) bs ≡ over_boxes plus got (cut_all qs bs)
  unfolding over_boxes cut_all
  at_pieces qs fl r [] h = refl
  at_pieces qs fl r (b ∷ bs) h =
      let p = fit ts b bs h in
      let l = fits_length b.sides ts p.here in
      let here = at_cut b.weight qs b.sides p.here (rw l fl) (r b.weight b.sides l) in
      let rest = at_pieces qs fl r bs p.rest in
      let app = boxes_append got (cut qs b) (cut_all qs bs) in
      omega arith
