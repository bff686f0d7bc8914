-- What boxes return as a belief.
use Rattle.std.specs.Prelude.{◌≡◌, ℕ, ◌^◌, ◌≤◌, Bool, true, false, ◌&&◌, List, [], length, take, None, ◌==◌, ◌≢◌}
use Rattle.std.proofs.Common.{sym, ◌∙◌, arith, length-take}
use Rattle.std.proofs.Math.Path.{ap}
use borrow.Author.Tests.{le-leb}
use Rattle.std.proofs.lemmas.Bool.Decides.{nat_tests}
use Rattle.refusal.specs.Replies.{Reply, given, declined, mapped}
use Rattle.question.specs.declared.checked.Question.{Question}
use Rattle.question.specs.Reading.{reading}
use Rattle.question.specs.Questions.{is_stepped}
use Rattle.question.specs.Texts.{text}
use Rattle.question.proofs.Questions.{read_text, read_as}
use Rattle.belief.specs.Meaning.{total_of, peak_of, whole_of, mass_of, heaviest_of, revised}
use Rattle.belief.specs.Spans.{span_only, good_total}
use Rattle.belief.specs.Calls.{carrying, replied, revising}
use Rattle.belief.proofs.Replies.{carrying_is, replied_ok, replied_not, revising_not, revising_none, revising_ok}
use Rattle.ranges.specs.declared.shapes.WeightedBox.{WeightedBox}
use Rattle.ranges.specs.Boxes.{volume, entire, weight_at, volume_in, total_in, peak_in, fit_all, disjoint}
use Rattle.ranges.specs.Changes.{revised_boxes}
use Rattle.boxes.specs.declared.holding.Boxes.{Boxes}
use Rattle.boxes.specs.declared.lists.BoxList.{BoxList}
use Rattle.boxes.specs.declared.takers.Tally.{Tally}
use Rattle.boxes.specs.Holding.{most_boxes, weight_in, good_boxes, carried, boxed, held, meaning}
use Rattle.boxes.specs.Takers.{capped, listed, Weighed, Holds}
use Rattle.boxes.specs.Meanings.{Tested, sound_parts, carries_now, carried_stepped, carried_few, total_of_boxes, peak_of_boxes, whole_of_boxes, mass_of_boxes, heaviest_of_boxes, mass_most, revised_boxes_is}

few_held : (b : Boxes) → length (held b) ≤ most_boxes
unfolding held
few_held b = omega (arith, length-take b.kept.len b.kept.boxes, b.few)

-- a total that 64 bits do not hold is none of sound boxes
capped_total : (n : ℕ) → good_total (capped n) ≡ good_total n
capped_total n = grind (arith, nat_tests)

abbrev pub PartsOf : Boxes → Type 0
PartsOf b = Tested b.span.first b.span.count b.span.tops (held b)

pub parts : (b : Boxes) → (meaning b).sound ≡ true → PartsOf b
parts b e = sound_parts b.span.first b.span.count b.span.tops (held b) e

module _ (b : Boxes) (xs : List WeightedBox) (ex : xs ≡ held b) where
  pub boxed_is : (f d t : Bool) (n : ℕ) → f ≡ fit_all b.span.tops xs → d ≡ disjoint xs → n ≡ capped (total_in xs) → t ≡ good_total n → (f && (d && t)) ≡ good_boxes b.span.tops (held b)
  unfolding good_boxes
  boxed_is f d t n ef ed en et =
      let k : t ≡ good_total (total_in (held b))
      = et ∙ ap good_total (en ∙ ap (λ v. capped (total_in v)) ex) ∙ capped_total (total_in (held b)) in
      let x = ef ∙ ap (fit_all b.span.tops) ex in
      let y = ed ∙ ap disjoint ex in
      let l = le-leb (length (held b)) most_boxes (few_held b) in
      rw l (let r : (f && (d && t)) ≡ (fit_all b.span.tops (held b) && (disjoint (held b) && good_total (total_in (held b)))) = cc in r)

  module _ (p : PartsOf b) where
    pub total_returns : (n : ℕ) → n ≡ capped (total_in xs) → n ≡ total_of (meaning b)
    total_returns n e =
        let t = total_of_boxes b.span.first b.span.count b.span.tops (held b) b.four p in
        let r = e ∙ ap (λ v. capped (total_in v)) ex in
        let m = p.most in omega arith

    pub peak_returns : (n : ℕ) → n ≡ peak_in xs → n ≡ peak_of (meaning b)
    peak_returns n e = e ∙ ap peak_in ex ∙ sym (peak_of_boxes b.span.first b.span.count b.span.tops (held b) b.four p)

    pub whole_returns : (n v : ℕ) → n ≡ capped (volume_in xs) → v ≡ volume (entire b.span.tops) → v ≤ 2 ^ 32 → (n == v) ≡ whole_of (meaning b)
    whole_returns n v en ev l =
        let w = whole_of_boxes b.span.first b.span.count b.span.tops (held b) b.four p in
        test (volume_in (held b)) (volume (entire b.span.tops)) (en ∙ ap (λ v. capped (volume_in v)) ex) ev l ∙ sym w
      where
        test : (x y : ℕ) → n ≡ capped x → v ≡ y → v ≤ 2 ^ 32 → (n == v) ≡ (x == y)
        test x y a c l = grind (arith, nat_tests)

    pub weight_returns : (n : ℕ) (s own : List ℕ) → own ≡ span_only b.span.first b.span.count s → (disjoint xs ≡ true → n ≡ weight_at xs own) → n ≡ (meaning b).weight s
    unfolding weight_in
    weight_returns n s own eo e = e (ap disjoint ex ∙ p.apart) ∙ ap (λ v. weight_at v own) ex ∙ ap (weight_at (held b)) eo

-- ---- after a question was read

module _ (b : Boxes) (bytes : List ℕ) (q : Question) (h : given (text q) ≡ mapped (λ e. bytes) (reading bytes)) where
  now_carries : (x : Bool) → x ≡ carried b.span.first b.span.count (held b) (text q) → (meaning b).carries [] bytes ≡ x
  now_carries x e = carries_now b.span.first b.span.count b.span.tops (held b) bytes ∙ sym (e ∙ ap (carried b.span.first b.span.count (held b)) (read_text bytes h))

  pub carries_returns : (x y : Bool) → x ≡ y → y ≡ carried b.span.first b.span.count (held b) (text q) → ◌≡◌ {A = Reply Bool} (given x) (carrying (meaning b) bytes)
  carries_returns x y i e = let a = read_as bytes h in carrying_is (meaning b) bytes a.expression a.is x (i ∙ sym (now_carries y e))

  pub not_returns : {V : Type 0} (v : V) → false ≡ carried b.span.first b.span.count (held b) (text q) → ◌≡◌ {A = Reply V} (declined 12 None) (replied (meaning b) bytes v)
  not_returns v e = let a = read_as bytes h in replied_not (meaning b) bytes a.expression a.is v (now_carries false e)

  pub revise_not : (a : ℕ) → false ≡ carried b.span.first b.span.count (held b) (text q) → ◌≡◌ {A = Reply (Unit {0})} (declined 12 None) (revising (meaning b) bytes a)
  revise_not a e = let r = read_as bytes h in revising_not (meaning b) bytes r.expression r.is a (now_carries false e)

  module _ (a : ℕ) (t : Tally) (e : true ≡ carried b.span.first b.span.count (held b) (text q)) (w : Weighed t (revised_boxes (text q) a (held b))) where
    is_carried : carried b.span.first b.span.count (held b) bytes ≡ true
    is_carried = ap (carried b.span.first b.span.count (held b)) (sym (read_text bytes h)) ∙ sym e

    -- what is kept has room, sound or not
    pub kept_few : (l : BoxList) → (is_stepped (text q) ≡ true → Holds l (revised_boxes (text q) a (held b))) → l.len ≤ most_boxes
    kept_few l k =
        let c = carried_few b.span.first b.span.count (held b) (text q) (sym e) a in
        let r = (k (carried_stepped b.span.first b.span.count (held b) (text q) (sym e))).len in omega arith

    kept_all : (l : BoxList) → (is_stepped (text q) ≡ true → Holds l (revised_boxes (text q) a (held b))) → listed l ≡ revised_boxes bytes a (held b)
    kept_all l k =
        (k (carried_stepped b.span.first b.span.count (held b) (text q) (sym e))).all (carried_few b.span.first b.span.count (held b) (text q) (sym e) a)
        ∙ ap (λ z. revised_boxes z a (held b)) (read_text bytes h)

    module _ (p : PartsOf b) where
      mass_value : t.mass ≡ total_in (revised_boxes bytes a (held b))
      mass_value =
          let m = mass_most b.span.first b.span.count b.span.tops (held b) b.four p bytes a is_carried in
          let r = w.mass ∙ ap (λ z. capped (total_in (revised_boxes z a (held b)))) (read_text bytes h) in omega arith

      mass_is : t.mass ≡ mass_of (meaning b) bytes a
      mass_is = mass_value ∙ sym (mass_of_boxes b.span.first b.span.count b.span.tops (held b) b.four p bytes a is_carried)

      heaviest_is : t.heaviest ≡ heaviest_of (meaning b) bytes a
      heaviest_is =
          w.heaviest ∙ ap (λ z. peak_in (revised_boxes z a (held b))) (read_text bytes h) ∙ sym (heaviest_of_boxes b.span.first b.span.count b.span.tops (held b) b.four p bytes a is_carried)

      pub mass_returns : ◌≡◌ {A = Reply ℕ} (given t.mass) (replied (meaning b) bytes (mass_of (meaning b) bytes a))
      mass_returns = let r = read_as bytes h in replied_ok (meaning b) bytes r.expression r.is _ _ (now_carries true e) mass_is

      pub heaviest_returns : ◌≡◌ {A = Reply ℕ} (given t.heaviest) (replied (meaning b) bytes (heaviest_of (meaning b) bytes a))
      heaviest_returns = let r = read_as bytes h in replied_ok (meaning b) bytes r.expression r.is _ _ (now_carries true e) heaviest_is

      pub revise_none : t.mass ≡ 0 → ◌≡◌ {A = Reply (Unit {0})} (declined 13 None) (revising (meaning b) bytes a)
      revise_none z = let r = read_as bytes h in revising_none (meaning b) bytes r.expression r.is a t.mass (now_carries true e) mass_is z

      pub revise_ok : (t.mass ≢ 0) → ◌≡◌ {A = Reply (Unit {0})} (given tt) (revising (meaning b) bytes a)
      revise_ok z = let r = read_as bytes h in revising_ok (meaning b) bytes r.expression r.is a t.mass (now_carries true e) mass_is (omega arith)

      pub revise_leaves : (t.mass ≢ 0) → (l : BoxList) → (is_stepped (text q) ≡ true → Holds l (revised_boxes (text q) a (held b))) →
          boxed b.span.first b.span.count b.span.tops (take l.len l.boxes) ≡ revised (meaning b) bytes a
      unfolding listed
      revise_leaves z l k =
          let m = mass_value in
          ap (boxed b.span.first b.span.count b.span.tops) (kept_all l k) ∙ revised_boxes_is b.span.first b.span.count b.span.tops (held b) b.four p bytes a is_carried (omega arith)
