-- Pieces as they are handed on.
use Rattle.std.proofs.Common.{◌≡◌, ℕ, ◌+◌, ◌<◌, ◌≤◌, Bool, true, false, List, length, get_or, set, drop, fold, sym, ap, ◌∙◌}
use Rattle.std.proofs.lemmas.List.Sums.{fold-append}
use Rattle.std.proofs.lemmas.List.{at_drop_more, at_drop_all, nil_from_length}
use Rattle.question.specs.declared.steps.Step.{Step}
use Rattle.ranges.specs.declared.shapes.Side.{Side}
use Rattle.ranges.specs.declared.shapes.WeightedBox.{WeightedBox}
use Rattle.ranges.specs.Pieces.{cuts, below, above, with_side, lower, upper, cut, cut_all}
use Rattle.ranges.proofs.Pieces.{part, cut_none, cut_parts, cut_whole}
use Rattle.boxes.proofs.Fours.{no_side, part_at}
use Rattle.boxes.proofs.Chains.{no_box, rest_of, opened}

abbrev pub head : List Step → Step
head ts = get_or ts 0 (record { field = 0; bound = 0 })

-- a box with its side k changed
part_is : (g : Side → Side) (b : WeightedBox) (k n : ℕ) → k ≡ n → record { sides = set b.sides k (g (get_or b.sides k no_side)); weight = b.weight } ≡ part b.weight (with_side g b.sides n)
part_is g b k n e = ap (part b.weight) (part_at g b.sides k ∙ ap (with_side g b.sides) e)

module _ {X : Type 0} (f : X → WeightedBox → X) where
  pub hand_last : (x y : X) (ts : List Step) (b : WeightedBox) → length ts ≡ 0 → y ≡ f x b → y ≡ fold f x (cut ts b)
  hand_last x y ts b h e = e ∙ ap (fold f x) (sym (cut_none b.weight b.sides)) ∙ ap (λ z. fold f x (cut z b)) (sym (nil_from_length ts h))

  module _ (ts : List Step) (b : WeightedBox) (k : ℕ) (h : 1 ≤ length ts) (ek : k ≡ (head ts).field) where
    is_so : (c : Bool) → c ≡ cuts b.sides k (head ts).bound → cuts b.sides (head ts).field (head ts).bound ≡ c
    is_so c e = sym (e ∙ ap (λ n. cuts b.sides n (head ts).bound) ek)

    pub hand_whole : (x y : X) → false ≡ cuts b.sides k (head ts).bound → y ≡ fold f x (cut (rest_of ts) b) → y ≡ fold f x (cut ts b)
    hand_whole x y c e = e ∙ ap (fold f x) (sym (cut_whole (head ts) (rest_of ts) b.weight b.sides (is_so false c))) ∙ ap (λ z. fold f x (cut z b)) (sym (opened _ ts h))

    pub hand_parts : (x y z : X) (l u : WeightedBox) → true ≡ cuts b.sides k (head ts).bound →
        l ≡ record { sides = set b.sides k (below (get_or b.sides k no_side) (head ts).bound); weight = b.weight } →
        u ≡ record { sides = set b.sides k (above (get_or b.sides k no_side) (head ts).bound); weight = b.weight } →
        y ≡ fold f x (cut (rest_of ts) l) → z ≡ fold f y (cut (rest_of ts) u) → z ≡ fold f x (cut ts b)
    hand_parts x y z l u c el eu ey ez =
        let v = (head ts).bound in
        let cl = cut (rest_of ts) (part b.weight (lower b.sides (head ts).field v)) in
        let cu = cut (rest_of ts) (part b.weight (upper b.sides (head ts).field v)) in
        ez ∙ ap (λ p. fold f y (cut (rest_of ts) p)) (eu ∙ part_is (λ x. above x v) b k _ ek)
        ∙ ap (λ p. fold f p cu) (ey ∙ ap (λ p. fold f x (cut (rest_of ts) p)) (el ∙ part_is (λ x. below x v) b k _ ek))
        ∙ sym (fold-append f x cl cu) ∙ ap (fold f x) (sym (cut_parts (head ts) (rest_of ts) b.weight b.sides (is_so true c))) ∙ ap (λ p. fold f x (cut p b)) (sym (opened _ ts h))

  -- over all boxes: what is left to hand on, handed on
  pub hand_more : (x y z : X) (ts : List Step) (bs : List WeightedBox) (i : ℕ) → i < length bs → fold f x (cut_all ts (drop i bs)) ≡ z → y ≡ fold f x (cut ts (get_or bs i no_box)) → fold f y (cut_all ts (drop (i + 1) bs)) ≡ z
  unfolding cut_all
  hand_more x y z ts bs i h e k =
      ap (λ v. fold f v (cut_all ts (drop (i + 1) bs))) k ∙ sym (fold-append f x (cut ts (get_or bs i no_box)) (cut_all ts (drop (i + 1) bs))) ∙ ap (fold f x) (sym (at_drop_more (cut_all ts) bs i no_box h)) ∙ e

  pub hand_end : (x z : X) (ts : List Step) (bs : List WeightedBox) (i : ℕ) → length bs ≤ i → fold f x (cut_all ts (drop i bs)) ≡ z → x ≡ z
  unfolding cut_all
  hand_end x z ts bs i h e = ap (fold f x) (sym (at_drop_all (cut_all ts) bs i h)) ∙ e
