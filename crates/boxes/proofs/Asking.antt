-- What boxes make of a question: whether it is carried, and what the pieces weigh that give an answer.
use Rattle.std.proofs.Common.{◌≡◌, ℕ, zero, suc, ◌<◌, min, Bool, true, false, nat_le, List, length, get_or, Some, None, fold, filter, sym, refl, ap, ◌∙◌, arith}
use Rattle.std.proofs.lemmas.Bool.Decides.{nat_tests}
use Rattle.question.specs.declared.checked.Question.{Question}
use Rattle.question.specs.declared.steps.Step.{Step}
use Rattle.question.specs.Expressions.{greatest}
use Rattle.question.specs.Questions.{steps_of, stepped_as, reads_in, all_below}
use Rattle.question.specs.Texts.{text}
use Rattle.question.proofs.Questions.{some_stepped, some_steps, none_stepped}
use Rattle.ranges.specs.declared.shapes.WeightedBox.{WeightedBox}
use Rattle.ranges.specs.Pieces.{cut_all}
use Rattle.ranges.specs.Changes.{gives, revised_boxes}
use Rattle.boxes.specs.declared.lists.BoxList.{BoxList}
use Rattle.boxes.specs.declared.takers.Tally.{Tally}
use Rattle.boxes.specs.declared.takers.Sieve.{Sieve}
use Rattle.boxes.specs.Holding.{most_boxes, carried}
use Rattle.boxes.specs.Takers.{put, untallied, tallied, sifted, Weighed, Holds}
use Rattle.boxes.proofs.Gathers.{Tallied, tally_all, puts_hold, sieve_all}

below_cong : (n : ℕ) (p r : ℕ → Bool) → ((k : ℕ) → k < n → p k ≡ r k) → all_below n p ≡ all_below n r
unfolding all_below
below_cong zero p r h = refl
below_cong (suc n) p r h = let a = below_cong n p r (λ k l. h k (omega arith)) in let b = h n (omega arith) in cc

few_test : (n m : ℕ) → m ≡ min n 255 → nat_le m most_boxes ≡ nat_le n most_boxes
few_test n m e = grind (arith, nat_tests)

module _ (f c : ℕ) (q : Question) (bs : List WeightedBox) where
  pub not_stepped : None ≡ stepped_as (text q) → false ≡ carried f c bs (text q)
  unfolding carried
  not_stepped h = let e = none_stepped (text q) h in simp e

  module _ {ts : List Step} (h : Some ts ≡ stepped_as (text q)) where
    pub not_inside : false ≡ reads_in f c (text q) → false ≡ carried f c bs (text q)
    unfolding carried
    not_inside e = let s = some_stepped (text q) h in let r = sym e in simp (s, r)

    module _ (a : ℕ) (xs : List Step) (ys : List WeightedBox) (n t : Tally) (ex : xs ≡ ts) (ey : ys ≡ bs) (en : n ≡ untallied (record { question = q; answer = a })) (et : t ≡ fold tallied n (cut_all xs ys)) where
      told : Tallied q a (cut_all (steps_of (text q)) bs) t
      told =
          let e : t ≡ fold tallied (untallied (record { question = q; answer = a })) (cut_all (steps_of (text q)) bs)
          = et ∙ ap (λ z. fold tallied z (cut_all xs ys)) en ∙ ap (λ z. fold tallied (untallied (record { question = q; answer = a })) (cut_all z ys)) (ex ∙ some_steps (text q) h) ∙ ap (λ z. fold tallied (untallied (record { question = q; answer = a })) (cut_all (steps_of (text q)) z)) ey in
          rw e (tally_all q a (cut_all (steps_of (text q)) bs))

      few_is : all_below (suc greatest) (λ a. nat_le (get_or t.pieces a 0) most_boxes) ≡ all_below (suc greatest) (λ a. nat_le (length (revised_boxes (text q) a bs)) most_boxes)
      unfolding revised_boxes
      few_is = below_cong (suc greatest) _ _ (λ k l. few_test _ _ (told.count k (omega arith)))

      pub is_carried : (b : Bool) → true ≡ reads_in f c (text q) → b ≡ all_below (suc greatest) (λ a. nat_le (get_or t.pieces a 0) most_boxes) → b ≡ carried f c bs (text q)
      unfolding carried
      is_carried b e k = let s = some_stepped (text q) h in let r = sym e in k ∙ few_is ∙ simp (s, r)

      pub weighs : Weighed t (revised_boxes (text q) a bs)
      unfolding revised_boxes
      weighs = record { mass = told.mass; heaviest = told.heaviest }

    pub sifts : (a : ℕ) (xs : List Step) (ys : List WeightedBox) (l : BoxList) (s : Sieve) → xs ≡ ts → ys ≡ bs → l.len ≡ 0 → length l.boxes ≡ most_boxes →
        s ≡ fold sifted (record { wanted = record { question = q; answer = a }; kept = l }) (cut_all xs ys) → Holds s.kept (revised_boxes (text q) a bs)
    unfolding revised_boxes
    sifts a xs ys l s ex ey el eb es =
        let ps = filter (gives (text q) a) (cut_all (steps_of (text q)) bs) in
        let e : s.kept ≡ fold put l ps
        = ap (λ z. z.kept) (es ∙ ap (λ z. fold sifted (record { wanted = record { question = q; answer = a }; kept = l }) (cut_all z ys)) (ex ∙ some_steps (text q) h)
        ∙ ap (λ z. fold sifted (record { wanted = record { question = q; answer = a }; kept = l }) (cut_all (steps_of (text q)) z)) ey ∙ sieve_all q a l (cut_all (steps_of (text q)) bs)) in
        puts_hold s.kept l ps e el eb
