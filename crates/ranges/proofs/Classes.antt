-- The pieces of a box are its sheets sorted by what the steps say of them.
use Rattle.std.proofs.Common.{◌≡◌, ℕ, Bool, true, false, cond, not, ◌&&◌, List, [], ◌∷◌, ◌++◌, map, length, sym, refl, ap, ◌∙◌, arith}
use Rattle.std.specs.List.{AllByRecursion}
use Rattle.std.proofs.ByRecursion.{All-append, All-weaker, All-map}
use Rattle.std.proofs.lemmas.Bool.{not-true}
use Rattle.question.specs.declared.steps.Step.{Step}
use Rattle.question.specs.Steps.{Agree}
use Rattle.question.specs.Questions.{answers, is_stepped, steps_of}
use Rattle.question.proofs.Questions.{and_left, and_right, impossible, answers_agree, steps_four}
use Rattle.belief.specs.Sheets.{plus}
use Rattle.ranges.specs.declared.shapes.Side.{Side}
use Rattle.ranges.specs.declared.shapes.WeightedBox.{WeightedBox}
use Rattle.ranges.specs.Boxes.{inside, fits, corner, over_boxes, fit_all}
use Rattle.ranges.specs.Pieces.{cuts, lower, upper, pieces, cut, cut_all}
use Rattle.ranges.specs.Combinations.{times}
use Rattle.ranges.proofs.Folds.{fit}
use Rattle.ranges.proofs.Cuts.{in_lower, in_upper, length_part, fits_lower, fits_upper, corner_inside, uncut}
use Rattle.ranges.proofs.Pieces.{Fielded, part, fits_length, at_cut, got}

-- what holds of the pieces of both parts, or of the uncut box, holds of all pieces
module _ (P : List Side → Type 0) (t : Step) (ts : List Step) (xs : List Side) where
  by_go : (b : Bool) → (b ≡ true → AllByRecursion P (pieces ts (lower xs t.field t.bound))) → (b ≡ true → AllByRecursion P (pieces ts (upper xs t.field t.bound))) → (b ≡ false → AllByRecursion P (pieces ts xs)) →
      AllByRecursion P (cond b (pieces ts (lower xs t.field t.bound) ++ pieces ts (upper xs t.field t.bound)) (pieces ts xs))
  by_go true l u w = All-append P _ _ (l refl) (u refl)
  by_go false l u w = w refl

  by_cut : (cuts xs t.field t.bound ≡ true → AllByRecursion P (pieces ts (lower xs t.field t.bound))) → (cuts xs t.field t.bound ≡ true → AllByRecursion P (pieces ts (upper xs t.field t.bound))) →
      (cuts xs t.field t.bound ≡ false → AllByRecursion P (pieces ts xs)) → AllByRecursion P (pieces (t ∷ ts) xs)
  unfolding pieces
  by_cut l u w = by_go (cuts xs t.field t.bound) l u w

-- a piece lies inside a box; its sheets agree on some steps; two sheets lie in it alike
abbrev Within : List Side → List Side → Type 0
Within xs p = (s : List ℕ) → inside p s ≡ true → inside xs s ≡ true

abbrev Agrees : List Step → List Side → Type 0
Agrees ts p = (s u : List ℕ) → inside p s ≡ true → inside p u ≡ true → Agree ts s u

abbrev Alike : List ℕ → List ℕ → List Side → Type 0
Alike s u p = inside p s ≡ inside p u

-- pieces lie inside their box
pieces_inside : (ts : List Step) (xs : List Side) → AllByRecursion (Within xs) (pieces ts xs)
unfolding pieces
pieces_inside [] xs = ((λ s i. i), tt)
pieces_inside (t ∷ ts) xs =
    by_cut (Within xs) t ts xs
    (λ c. All-weaker (Within (lower xs t.field t.bound)) (Within xs) (λ p h s i. and_left (inside xs s) _ (sym (in_lower xs t.field t.bound s c) ∙ h s i)) _ (pieces_inside ts (lower xs t.field t.bound)))
    (λ c. All-weaker (Within (upper xs t.field t.bound)) (Within xs) (λ p h s i. and_left (inside xs s) _ (sym (in_upper xs t.field t.bound s c) ∙ h s i)) _ (pieces_inside ts (upper xs t.field t.bound)))
    (λ c. pieces_inside ts xs)

both : (P Q : List Side → Type 0) (ps : List (List Side)) → AllByRecursion P ps → AllByRecursion Q ps → AllByRecursion (λ p. P p × Q p) ps
both P Q [] a b = tt
both P Q (p ∷ ps) a b = ((a.0, b.0), both P Q ps a.1 b.1)

-- of two sheets of one piece every step says the same
pub pieces_agree : (ts : List Step) (xs : List Side) → Fielded (length xs) ts → AllByRecursion (Agrees ts) (pieces ts xs)
unfolding pieces
pieces_agree [] xs fl = ((λ s u i j. tt), tt)
pieces_agree (t ∷ ts) xs fl =
    let l = lower xs t.field t.bound in
    let r = upper xs t.field t.bound in
    by_cut (Agrees (t ∷ ts)) t ts xs
    (λ c. All-weaker (λ p. Within l p × Agrees ts p) (Agrees (t ∷ ts)) (λ p h s u i j.
    let a = and_right (inside xs s) _ (sym (in_lower xs t.field t.bound s c) ∙ h.0 s i) in
    let b = and_right (inside xs u) _ (sym (in_lower xs t.field t.bound u c) ∙ h.0 u j) in (a ∙ sym b, h.1 s u i j))
    (pieces ts l) (both (Within l) (Agrees ts) (pieces ts l) (pieces_inside ts l) (pieces_agree ts l (rw length_part fl.1))))
    (λ c. All-weaker (λ p. Within r p × Agrees ts p) (Agrees (t ∷ ts)) (λ p h s u i j.
    let a = not-true _ (and_right (inside xs s) _ (sym (in_upper xs t.field t.bound s c) ∙ h.0 s i)) in
    let b = not-true _ (and_right (inside xs u) _ (sym (in_upper xs t.field t.bound u c) ∙ h.0 u j)) in (a ∙ sym b, h.1 s u i j))
    (pieces ts r) (both (Within r) (Agrees ts) (pieces ts r) (pieces_inside ts r) (pieces_agree ts r (rw length_part fl.1))))
    (λ c. All-weaker (λ p. Within xs p × Agrees ts p) (Agrees (t ∷ ts)) (λ p h s u i j. (uncut xs t.field t.bound s u c fl.0 (h.0 s i) (h.0 u j), h.1 s u i j))
    (pieces ts xs) (both (Within xs) (Agrees ts) (pieces ts xs) (pieces_inside ts xs) (pieces_agree ts xs fl.1)))

-- two sheets of the box of which every step says the same lie in the same pieces
not_inside : (ts : List Step) (xs : List Side) (s u : List ℕ) → inside xs s ≡ false → inside xs u ≡ false → AllByRecursion (Alike s u) (pieces ts xs)
not_inside ts xs s u i j = All-weaker (Within xs) (Alike s u) (λ p h. out (inside p s) (h s) i ∙ sym (out (inside p u) (h u) j)) (pieces ts xs) (pieces_inside ts xs)
  where
    out : {c : Bool} (b : Bool) → (b ≡ true → c ≡ true) → c ≡ false → b ≡ false
    out {c} true h e = impossible c e (h refl)
    out false h e = refl

pub pieces_joint : (ts : List Step) (xs : List Side) (s u : List ℕ) → inside xs s ≡ true → inside xs u ≡ true → Agree ts s u → AllByRecursion (Alike s u) (pieces ts xs)
unfolding pieces
pieces_joint [] xs s u i j a = (i ∙ sym j, tt)
pieces_joint (t ∷ ts) xs s u i j a =
    by_cut (Alike s u) t ts xs
    (λ c. part_joint (lower xs t.field t.bound) (inside (lower xs t.field t.bound) s) refl
    (in_lower xs t.field t.bound s c ∙ same (λ z. z) a.0 ∙ sym (in_lower xs t.field t.bound u c)) (λ x y. pieces_joint ts (lower xs t.field t.bound) s u x y a.1))
    (λ c. part_joint (upper xs t.field t.bound) (inside (upper xs t.field t.bound) s) refl
    (in_upper xs t.field t.bound s c ∙ same not a.0 ∙ sym (in_upper xs t.field t.bound u c)) (λ x y. pieces_joint ts (upper xs t.field t.bound) s u x y a.1))
    (λ c. pieces_joint ts xs s u i j a.1)
  where
    same : (f : Bool → Bool) {x y : Bool} → x ≡ y → (inside xs s && f x) ≡ (inside xs u && f y)
    same f {x} e = ap (λ z. z && f x) (i ∙ sym j) ∙ ap (λ z. inside xs u && f z) e

    part_joint : (ys : List Side) (b : Bool) → inside ys s ≡ b → inside ys s ≡ inside ys u → (inside ys s ≡ true → inside ys u ≡ true → AllByRecursion (Alike s u) (pieces ts ys)) → AllByRecursion (Alike s u) (pieces ts ys)
    part_joint ys true e d h = h e (sym d ∙ e)
    part_joint ys false e d h = not_inside ts ys s u e (sym d ∙ e)

-- every sheet of the box lies in one piece, and no other sheet in any
count_pieces : (s : List ℕ) (ps : List (List Side)) → over_boxes plus (got (λ w v. 1) [] s) (map (part 1) ps) ≡ times (λ p. inside p s) ps
unfolding over_boxes times
count_pieces s [] = refl
count_pieces s (p ∷ ps) = let e = count_pieces s ps in omega arith

pub pieces_once : (tops : List ℕ) (ts : List Step) (xs : List Side) → fits tops xs ≡ true → Fielded (length xs) ts → (s : List ℕ) → times (λ p. inside p s) (pieces ts xs) ≡ cond (inside xs s) 1 0
unfolding cut
pieces_once tops ts xs h fl s = sym (at_cut (λ w v. 1) tops s 1 ts xs h fl (λ s u i j a. refl) ∙ count_pieces s (pieces ts xs))

-- so a piece gives one answer
corners : (ts : List Step) (tops : List ℕ) (xs : List Side) → fits tops xs ≡ true → AllByRecursion (λ p. inside p (corner p) ≡ true) (pieces ts xs)
unfolding pieces
corners [] tops xs h = (corner_inside xs tops h, tt)
corners (t ∷ ts) tops xs h =
    by_cut (λ p. inside p (corner p) ≡ true) t ts xs (λ c. corners ts tops _ (fits_lower xs tops _ _ c h)) (λ c. corners ts tops _ (fits_upper xs tops _ _ c h)) (λ c. corners ts tops xs h)

abbrev One : List ℕ → WeightedBox → Type 0
One q p = (s : List ℕ) → inside p.sides s ≡ true → answers q s ≡ answers q (corner p.sides)

pub one_answer : (tops q : List ℕ) (bs : List WeightedBox) → length tops ≡ 4 → is_stepped q ≡ true → fit_all tops bs ≡ true → AllByRecursion (One q) (cut_all (steps_of q) bs)
unfolding cut_all cut
one_answer tops q [] l d h = tt
one_answer tops q (b ∷ bs) l d h =
    let f = fit tops b bs h in
    let n = fits_length b.sides tops f.here in
    All-append (One q) (cut (steps_of q) b) (cut_all (steps_of q) bs)
    (All-map (One q) (part b.weight) (pieces (steps_of q) b.sides)
    (All-weaker (λ p. (inside p (corner p) ≡ true) × Agrees (steps_of q) p) (λ p. One q (part b.weight p)) (λ p k s i. answers_agree q s (corner p) d (k.1 s (corner p) i k.0)) (pieces (steps_of q) b.sides)
    (both (λ p. inside p (corner p) ≡ true) (Agrees (steps_of q)) (pieces (steps_of q) b.sides) (corners (steps_of q) tops b.sides f.here) (pieces_agree (steps_of q) b.sides (rw (n ∙ l) (steps_four q))))))
    (one_answer tops q bs l d f.rest)
