-- Chains over boxes: what their sums, maxima and tests come to, and lists by their first element.
use Rattle.std.proofs.Common.{◌≡◌, ℕ, zero, suc, ◌+◌, ◌-◌, ◌^◌, ◌<◌, ◌≤◌, max, Bool, true, false, cond, ◌&&◌, nat_le, List, [], ◌∷◌, Some, None, Option, map, take, length, get_or, drop, fold, sym, refl, ap, ◌∙◌, arith}
use Rattle.std.proofs.lemmas.List.{take_all}
use Rattle.std.proofs.Math.Bool.{and_assoc, and-true}
use Rattle.std.proofs.lemmas.List.Recursion.{same_from_clauses}
use Rattle.std.specs.List.{list_all, reduce, find}
use Rattle.std.specs.Option.{MatchOption, unwrap_or, option_map}
use Rattle.question.specs.Questions.{all_below}
use Rattle.question.proofs.Questions.{and_left, and_right}
use Rattle.belief.specs.Sheets.{plus}
use Rattle.ranges.specs.declared.shapes.Side.{Side}
use Rattle.ranges.specs.declared.shapes.WeightedBox.{WeightedBox}
use Rattle.ranges.specs.Boxes.{inside, over_boxes, weight_at, fits, fit_all, apart, apart_all, disjoint}
use Rattle.ranges.proofs.Covers.{out_none}
use Rattle.boxes.specs.Takers.{capped}

-- ---- sums and maxima

summed_from : (x g : WeightedBox → ℕ) → ((b : WeightedBox) → capped (x b) ≡ capped (g b)) → (bs : List WeightedBox) (n : ℕ) → n < 2 ^ 64 → fold (λ n m. capped (n + m)) n (map x bs) ≡ capped (n + over_boxes plus g bs)
unfolding over_boxes
summed_from x g h [] n l = omega arith
summed_from x g h (b ∷ bs) n l = let e = h b in let r = summed_from x g h bs (capped (n + x b)) (omega arith) in omega arith

pub summed : (x g : WeightedBox → ℕ) → ((b : WeightedBox) → capped (x b) ≡ capped (g b)) → (bs : List WeightedBox) → fold (λ n m. capped (n + m)) 0 (map x bs) ≡ capped (over_boxes plus g bs)
summed x g h bs = let r = summed_from x g h bs 0 (omega arith) in omega arith

peaked_from : (g : WeightedBox → ℕ) (bs : List WeightedBox) (n : ℕ) → fold max n (map g bs) ≡ max n (over_boxes max g bs)
unfolding over_boxes
peaked_from g [] n = omega arith
peaked_from g (b ∷ bs) n = let r = peaked_from g bs (max n (g b)) in omega arith

pub peaked : (g : WeightedBox → ℕ) (bs : List WeightedBox) → unwrap_or (reduce max (map g bs)) 0 ≡ over_boxes max g bs
unfolding over_boxes
peaked g [] = refl
peaked g (b ∷ bs) = peaked_from g bs (g b)

-- ---- tests of every box, and of the numbers below n

pub apart_tests : (x : List Side) (bs : List WeightedBox) → list_all (λ b. apart x b.sides) bs ≡ apart_all x bs
unfolding apart_all
apart_tests x = same_from_clauses _ _ (λ b t. apart x b.sides && t) refl (λ b bs. refl) (λ b bs. refl)

pub fit_tests : (ts : List ℕ) (bs : List WeightedBox) → list_all (λ b. fits ts b.sides && nat_le 1 b.weight) bs ≡ fit_all ts bs
unfolding fit_all
fit_tests ts = same_from_clauses _ _ (λ b t. (fits ts b.sides && nat_le 1 b.weight) && t) refl (λ b bs. refl) (λ b bs. refl)

below_front : (p : ℕ → Bool) (n : ℕ) → all_below (suc n) p ≡ (p 0 && all_below n (λ k. p (suc k)))
unfolding all_below
below_front p zero = sym (and-true (p 0))
below_front p (suc n) = ap (λ z. z && p (suc n)) (below_front p n) ∙ and_assoc (p 0) (all_below n (λ k. p (suc k))) (p (suc n))

pub below_tests : (t : ℕ → Bool) (n : ℕ) (xs : List ℕ) → length xs ≡ n → list_all t xs ≡ all_below n (λ k. t (get_or xs k 0))
unfolding all_below
below_tests t zero [] l = refl
below_tests t zero (x ∷ xs) l = absurd (omega arith)
below_tests t (suc n) [] l = absurd (omega arith)
below_tests t (suc n) (x ∷ xs) l = ap (λ z. t x && z) (below_tests t n xs (omega arith)) ∙ sym (below_front (λ k. t (get_or (x ∷ xs) k 0)) n)

-- ---- the first box in which a sheet lies

pub map_or_is : {A B : Type 0} (o : Option A) (v : A → B) (w : B → ℕ) (r : ℕ) {P : A → Type 0} → MatchOption o (r ≡ 0) P → ((x : A) → P x → r ≡ w (v x)) → r ≡ unwrap_or (option_map w (option_map v o)) 0
map_or_is None v w r h k = h
map_or_is (Some x) v w r h k = k x h

pub weight_first : (bs : List WeightedBox) (s : List ℕ) → disjoint bs ≡ true → unwrap_or (option_map (λ b. b.weight) (find (λ b. inside b.sides s) bs)) 0 ≡ weight_at bs s
unfolding disjoint weight_at over_boxes
weight_first [] s d = refl
weight_first (b ∷ bs) s d = go (inside b.sides s) refl (weight_first bs s (and_right (apart_all b.sides bs) _ d))
  where
    go : (i : Bool) → inside b.sides s ≡ i → unwrap_or (option_map (λ b. b.weight) (find (λ b. inside b.sides s) bs)) 0 ≡ weight_at bs s →
        unwrap_or (option_map (λ b. b.weight) (cond i (Some b) (find (λ b. inside b.sides s) bs))) 0 ≡ cond i b.weight 0 + weight_at bs s
    go true e r = let o = out_none b.sides bs (λ b. b.weight) s (and_left (apart_all b.sides bs) _ d) e in omega arith
    go false e r = omega arith

-- ---- a list that is not empty, and what is left of it

abbrev pub rest_of : {A : Type 0} → List A → List A
rest_of xs = take (length xs - 1) (drop 1 xs)

pub opened : {A : Type 0} (d : A) (xs : List A) → 1 ≤ length xs → xs ≡ get_or xs 0 d ∷ rest_of xs
opened d [] h = absurd (omega arith)
opened d (x ∷ xs) h = ap (λ z. x ∷ z) (sym (take_all (length (x ∷ xs) - 1) xs (omega arith)))

abbrev pub no_box : WeightedBox
no_box = record { sides = []; weight = 0 }

pub disjoint_none : (bs : List WeightedBox) → length bs < 1 → true ≡ disjoint bs
unfolding disjoint
disjoint_none [] h = refl
disjoint_none (b ∷ bs) h = absurd (omega arith)

pub disjoint_opened : (bs : List WeightedBox) → 1 ≤ length bs → (apart_all (get_or bs 0 no_box).sides (rest_of bs) && disjoint (rest_of bs)) ≡ disjoint bs
unfolding disjoint
disjoint_opened bs h = ap disjoint (sym (opened no_box bs h))
