-- A simple question has one piece at most in each box for each answer.
use Rattle.std.proofs.Common.{◌≡◌, ℕ, ◌<◌, ◌≤◌, Bool, true, false, cond, ltb, List, [], ◌∷◌, ◌++◌, length, get_or, filter, sym, refl, ap, ◌∙◌, arith, length-append, eqb-true}
use Rattle.std.proofs.lemmas.List.Elements.{filter-append}
use Rattle.std.proofs.lemmas.Bool.{not-true}
use Rattle.question.specs.declared.steps.Step.{Step}
use Rattle.question.specs.Steps.{step}
use Rattle.question.specs.Questions.{answers}
use Rattle.question.proofs.Questions.{and_right, step_answers, step_steps}
use Rattle.ranges.specs.declared.shapes.Side.{Side}
use Rattle.ranges.specs.declared.shapes.WeightedBox.{WeightedBox}
use Rattle.ranges.specs.Boxes.{inside, fits, corner, fit_all}
use Rattle.ranges.specs.Pieces.{cuts, lower, upper, cut, cut_all}
use Rattle.ranges.specs.Changes.{gives, revised_boxes}
use Rattle.ranges.proofs.Folds.{fit}
use Rattle.ranges.proofs.Cuts.{in_lower, in_upper, fits_lower, fits_upper, corner_inside}
use Rattle.ranges.proofs.Pieces.{part, cut_none, cut_parts, cut_whole}

one_kept : (p : WeightedBox → Bool) (b : WeightedBox) → length (filter p (b ∷ [])) ≤ 1
one_kept p b = go (p b)
  where
    go : (c : Bool) → length (cond c (b ∷ []) []) ≤ 1
    go true = omega arith
    go false = omega arith

two_kept : (p : WeightedBox → Bool) (l u : WeightedBox) → (p l ≡ true → p u ≡ true → ⊥) → length (filter p (l ∷ u ∷ [])) ≤ 1
two_kept p l u h = go (p l) (p u) h
  where
    go : (c d : Bool) → (c ≡ true → d ≡ true → ⊥) → length (cond c (l ∷ cond d (u ∷ []) []) (cond d (u ∷ []) [])) ≤ 1
    go true true g = absurd (g refl refl)
    go true false g = omega arith
    go false true g = omega arith
    go false false g = omega arith

module _ (ts : List ℕ) (k v a : ℕ) (low : k < 4) (small : v < 65536) where
  abbrev only : Step
  only = record { field = k; bound = v }

  told : (xs : List Side) (b : Bool) → ltb (get_or (corner xs) k 0) v ≡ b → answers (step k v) (corner xs) ≡ cond b 1 0
  told xs b e = step_answers k v (corner xs) low small ∙ ap {B = ℕ} (λ z. cond z 1 0) e

  box_go : (w : ℕ) (xs : List Side) → fits ts xs ≡ true → (b : Bool) → cuts xs k v ≡ b → length (filter (gives (step k v) a) (cut (only ∷ []) (part w xs))) ≤ 1
  unfolding gives
  box_go w xs h true c =
      let l = lower xs k v in
      let u = upper xs k v in
      let il = sym (in_lower xs k v (corner l) c) ∙ corner_inside l ts (fits_lower xs ts k v c h) in
      let iu = sym (in_upper xs k v (corner u) c) ∙ corner_inside u ts (fits_upper xs ts k v c h) in
      let tl = told l true (and_right (inside xs (corner l)) _ il) in
      let tu = told u false (not-true _ (and_right (inside xs (corner u)) _ iu)) in
      let e : cut (only ∷ []) (part w xs) ≡ part w l ∷ part w u ∷ [] = cut_parts only [] w xs c ∙ ap (λ z. z ++ cut [] (part w u)) (cut_none w l) ∙ ap (λ z. part w l ∷ z) (cut_none w u) in
      let apart : gives (step k v) a (part w l) ≡ true → gives (step k v) a (part w u) ≡ true → ⊥
      = λ p q. let x = eqb-true (answers (step k v) (corner l)) a p in let y = eqb-true (answers (step k v) (corner u)) a q in omega arith in
      rw e (two_kept (gives (step k v) a) (part w l) (part w u) apart)
  box_go w xs h false c = rw (cut_whole only [] w xs c ∙ cut_none w xs) (one_kept (gives (step k v) a) (part w xs))

  all_few : (bs : List WeightedBox) → fit_all ts bs ≡ true → length (filter (gives (step k v) a) (cut_all (only ∷ []) bs)) ≤ length bs
  unfolding cut_all
  all_few [] h = omega arith
  all_few (b ∷ bs) h =
      let f = fit ts b bs h in
      let one = box_go b.weight b.sides f.here (cuts b.sides k v) refl in
      let rest = all_few bs f.rest in
      rw (filter-append (gives (step k v) a) (cut (only ∷ []) b) (cut_all (only ∷ []) bs), length-append) (omega arith)

  pub simple_few : (bs : List WeightedBox) → fit_all ts bs ≡ true → length (revised_boxes (step k v) a bs) ≤ length bs
  unfolding revised_boxes
  simple_few bs h = rw (step_steps k v low small) (all_few bs h)
