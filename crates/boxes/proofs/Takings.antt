-- What takers make of one piece, and of many.
use Rattle.std.proofs.Common.{◌≡◌, ℕ, ◌+◌, ◌*◌, ◌<◌, ◌≤◌, min, max, Bool, true, false, cond, eqb, ltb, List, get_or, set, sym, ap, ◌∙◌, le-ltb, lt-ltb}
use Rattle.question.specs.declared.checked.Question.{Question}
use Rattle.question.specs.Texts.{text}
use Rattle.ranges.specs.declared.shapes.Side.{Side}
use Rattle.ranges.specs.declared.shapes.WeightedBox.{WeightedBox}
use Rattle.ranges.specs.Boxes.{inside, volume, corner}
use Rattle.boxes.specs.declared.lists.BoxList.{BoxList}
use Rattle.boxes.specs.Holding.{most_boxes}
use Rattle.boxes.specs.Takers.{capped, put, answer_of, counted, tallied, sifted, capped_piece}

-- ---- one piece

pub put_room : (l : BoxList) (b : WeightedBox) (bs : List WeightedBox) (n : ℕ) → l.len < most_boxes → bs ≡ set l.boxes l.len b → n ≡ capped (l.len + 1) → record { boxes = bs; len = n } ≡ put l b
unfolding put
put_room l b bs n h e f =
    let c : cond (ltb l.len most_boxes) (set l.boxes l.len b) l.boxes ≡ set l.boxes l.len b = ap (λ z. cond z (set l.boxes l.len b) l.boxes) (lt-ltb _ _ h) in
    λ i. record { boxes = (e ∙ sym c) i; len = f i }

pub put_full : (l : BoxList) (b : WeightedBox) (bs : List WeightedBox) (n : ℕ) → most_boxes ≤ l.len → bs ≡ l.boxes → n ≡ capped (l.len + 1) → record { boxes = bs; len = n } ≡ put l b
unfolding put
put_full l b bs n h e f =
    let c : cond (ltb l.len most_boxes) (set l.boxes l.len b) l.boxes ≡ l.boxes = ap (λ z. cond z (set l.boxes l.len b) l.boxes) (le-ltb _ _ h) in
    λ i. record { boxes = (e ∙ sym c) i; len = f i }

module _ (q : Question) (p : WeightedBox) (x : ℕ) (given : x ≡ answer_of (text q) p) where
  wanted : (a : ℕ) (b : Bool) → b ≡ eqb x a → eqb (answer_of (text q) p) a ≡ b
  wanted a b e = sym (e ∙ ap (λ z. eqb z a) given)

  pub sift_yes : (a : ℕ) (l m : BoxList) → true ≡ eqb x a → m ≡ put l p → record { wanted = record { question = q; answer = a }; kept = m } ≡ sifted (record { wanted = record { question = q; answer = a }; kept = l }) p
  unfolding sifted
  sift_yes a l m e f = let y = wanted a true e in simp (y, f)

  pub sift_no : (a : ℕ) (l : BoxList) → false ≡ eqb x a → record { wanted = record { question = q; answer = a }; kept = l } ≡ sifted (record { wanted = record { question = q; answer = a }; kept = l }) p
  unfolding sifted
  sift_no a l e = let n = wanted a false e in simp n

  module _ (a : ℕ) (ns : List ℕ) (m h i n : ℕ) (at_x : i ≡ x) (one : n ≡ min (get_or ns i 0 + 1) 255) where
    count_is : set ns i n ≡ counted ns (answer_of (text q) p)
    unfolding counted
    count_is = ap (set ns i) one ∙ ap (λ z. set ns z (min (get_or ns z 0 + 1) 255)) (at_x ∙ given)

    pub tally_yes : (v k j : ℕ) → true ≡ eqb x a → v ≡ capped (volume p.sides * p.weight) → k ≡ capped (m + v) → j ≡ max h p.weight →
        record { wanted = record { question = q; answer = a }; pieces = set ns i n; mass = k; heaviest = j } ≡ tallied (record { wanted = record { question = q; answer = a }; pieces = ns; mass = m; heaviest = h }) p
    unfolding tallied
    tally_yes v k j e f g l = let y = wanted a true e in let c = count_is in simp (y, c, g, f, l)

    pub tally_no : false ≡ eqb x a → record { wanted = record { question = q; answer = a }; pieces = set ns i n; mass = m; heaviest = h } ≡ tallied (record { wanted = record { question = q; answer = a }; pieces = ns; mass = m; heaviest = h }) p
    unfolding tallied
    tally_no e = let y = wanted a false e in let c = count_is in simp (y, c)

module _ (x : List Side) (f : ℕ) (p : WeightedBox) (s : List ℕ) (at : s ≡ corner p.sides) where
  pub press_yes : (w : ℕ) → true ≡ inside x s → w ≡ capped (p.weight * f) → record { sides = p.sides; weight = w } ≡ capped_piece x f p
  unfolding capped_piece
  press_yes w i e = let y = sym (i ∙ ap (inside x) at) in simp (y, e)

  pub press_no : false ≡ inside x s → p ≡ capped_piece x f p
  unfolding capped_piece
  press_no i = let n = sym (i ∙ ap (inside x) at) in simp n
