-- A sound pair keeps the laws.
use Rattle.std.specs.Prelude.{◌≡◌, ℕ, zero, suc, ◌+◌, ◌*◌, ◌<◌, ◌≤◌, min, Bool, true, false, List, [], ◌∷◌, length, slice_index, refl}
use Rattle.std.proofs.Common.{sym, ap, ◌∙◌, arith, mul-le-mul, add-zero, zero-add, zero-mul, mul-zero}
use Rattle.question.specs.Questions.{reads_in, in_span}
use Rattle.question.specs.Steps.{step}
use Rattle.question.proofs.Questions.{impossible, reads_inside, inside_reads, step_inside, step_outside}
use Rattle.belief.specs.Joined.{joined}
use Rattle.belief.specs.Meaning.{Meaning, Laws, total_of}
use Rattle.question.proofs.Fours.{fours}
use Rattle.pair.specs.Pairs.{paired, pair_carries}
use Rattle.pair.specs.Folds.{Parts, apart, pair_total}

length_joined : (xs ys : List ℕ) → length xs ≡ length ys → length (joined xs ys) ≡ length xs
length_joined [] ys e = sym e
length_joined (x ∷ xs) [] e = refl
length_joined (x ∷ xs) (y ∷ ys) e = ap suc (length_joined xs ys (omega arith))

slice_index_joined : (xs ys : List ℕ) (k : ℕ) → slice_index (joined xs ys) k ≡ slice_index xs k + slice_index ys k
slice_index_joined [] ys k = sym (zero-add _)
slice_index_joined (x ∷ xs) [] k = sym (add-zero _)
slice_index_joined (x ∷ xs) (y ∷ ys) zero = refl
slice_index_joined (x ∷ xs) (y ∷ ys) (suc k) = slice_index_joined xs ys k

wider_left : (f c d k : ℕ) → in_span f c k ≡ true → in_span f (c + d) k ≡ true
unfolding in_span
wider_left f c d k e = grind arith

wider_right : (f c g d k : ℕ) → g ≡ f + c → in_span g d k ≡ true → in_span f (c + d) k ≡ true
unfolding in_span
wider_right f c g d k m e = grind arith

out_left : (f c d k : ℕ) → in_span f (c + d) k ≡ false → in_span f c k ≡ false
unfolding in_span
out_left f c d k e = grind arith

out_right : (f c g d k : ℕ) → g ≡ f + c → in_span f (c + d) k ≡ false → in_span g d k ≡ false
unfolding in_span
out_right f c g d k m e = grind arith

other_side : (f c g d k : ℕ) → g ≡ f + c → in_span f (c + d) k ≡ true → in_span f c k ≡ false → in_span g d k ≡ true
unfolding in_span
other_side f c g d k m e h = grind arith

span_four : (f c k : ℕ) → f + c ≤ 4 → in_span f c k ≡ true → k < 4
unfolding in_span
span_four f c k h e = grind arith

module _ (l r : Meaning) (p : Parts l r) where
  pair_spans : (q : List ℕ) (x y : Bool) → reads_in l.first l.count q ≡ x → reads_in r.first r.count q ≡ y →
      pair_carries l r [] q ≡ true → reads_in l.first (l.count + r.count) q ≡ true
  pair_spans q true y ex ey e = inside_reads _ _ q (λ k h. wider_left l.first l.count r.count k (reads_inside _ _ q ex k h))
  pair_spans q false true ex ey e = inside_reads _ _ q (λ k h. wider_right l.first l.count r.first r.count k p.meets (reads_inside _ _ q ey k h))
  pair_spans q false false ex ey e = let z : ◌≡◌ {A = Bool} false true = simp (ex, ey) at e in impossible false refl z

  pair_simple : (k v : ℕ) (x : Bool) → in_span l.first l.count k ≡ x → in_span l.first (l.count + r.count) k ≡ true → v < 65536 → pair_carries l r [] (step k v) ≡ true
  pair_simple k v true ex e b16 =
      let four = span_four l.first l.count k p.lawful_left.fits ex in
      let left = step_inside l.first l.count k v four b16 ex in
      let c = p.lawful_left.simple k v ex b16 in simp (left, c)
  pair_simple k v false ex e b16 =
      let ey = other_side l.first l.count r.first r.count k p.meets e ex in
      let four = span_four r.first r.count k p.lawful_right.fits ey in
      let left = step_outside l.first l.count k v four b16 ex in
      let right = step_inside r.first r.count k v four b16 ey in
      let c = p.lawful_right.simple k v ey b16 in simp (left, right, c)

  pair_above : (s : List ℕ) (k : ℕ) (x : Bool) → in_span l.first l.count k ≡ x → in_span l.first (l.count + r.count) k ≡ true →
      slice_index (joined l.tops r.tops) k < slice_index s k → l.weight s * r.weight s ≡ 0
  pair_above s k true ex e h =
      let t = slice_index_joined l.tops r.tops k in
      let z = p.lawful_left.above s k ex (omega arith) in ap (λ w. w * r.weight s) z ∙ zero-mul _
  pair_above s k false ex e h =
      let t = slice_index_joined l.tops r.tops k in
      let z = p.lawful_right.above s k (other_side l.first l.count r.first r.count k p.meets e ex) (omega arith) in ap (λ w. l.weight s * w) z ∙ mul-zero _

  -- no two tops of one field add up to more than a byte
  pub tops_fit : (k x y z : ℕ) → x ≡ slice_index l.tops k → y ≡ slice_index r.tops k → x < 256 → y < 256 → z ≡ min (x + y) 255 → (t : Bool) → in_span l.first l.count k ≡ t → z ≡ slice_index (joined l.tops r.tops) k
  tops_fit k x y z ex ey hx hy ez true is = let t = slice_index_joined l.tops r.tops k in let o = p.lawful_right.outside k (apart l.first l.count r.first r.count k p.meets is) in omega arith
  tops_fit k x y z ex ey hx hy ez false is = let t = slice_index_joined l.tops r.tops k in let o = p.lawful_left.outside k is in omega arith

  pub four_tops : (x y z w : ℕ) → x ≡ slice_index (joined l.tops r.tops) 0 → y ≡ slice_index (joined l.tops r.tops) 1 →
      z ≡ slice_index (joined l.tops r.tops) 2 → w ≡ slice_index (joined l.tops r.tops) 3 → x ∷ y ∷ z ∷ w ∷ [] ≡ joined l.tops r.tops
  four_tops x y z w ex ey ez ew =
      let f = fours (joined l.tops r.tops) (length_joined l.tops r.tops (p.lawful_left.four ∙ sym p.lawful_right.four) ∙ p.lawful_left.four) in cc

pub pair_laws : (l r : Meaning) → Parts l r → Laws (paired l r)
pair_laws l r p =
    let a = p.lawful_left in
    let b = p.lawful_right in
    let t = pair_total l r p in
    let one : 1 * 1 ≤ total_of l * total_of r = mul-le-mul {n₁ = 1} {m₁ = 1} {n₂ = total_of l} {m₂ = total_of r} a.least b.least in
    record {
      least = omega (arith, t, one);
      most = omega (arith, t, p.small);
      some = omega (arith, a.some);
      fits = omega (arith, b.fits, p.meets);
      four = length_joined l.tops r.tops (a.four ∙ sym b.four) ∙ a.four;
      outside = λ k h.
          slice_index_joined l.tops r.tops k
          ∙ ap (λ z. z + slice_index r.tops k) (a.outside k (out_left l.first l.count r.count k h))
          ∙ ap (λ z. 0 + z) (b.outside k (out_right l.first l.count r.first r.count k p.meets h));
      local = λ s t h.
          let u : l.weight s ≡ l.weight t = a.local s t (λ k i. h k (wider_left l.first l.count r.count k i)) in
          let v : r.weight s ≡ r.weight t = b.local s t (λ k i. h k (wider_right l.first l.count r.first r.count k p.meets i)) in rw (u, v);
      above = λ s k i h. pair_above l r p s k _ refl i h;
      bounded = λ s.
          let u : l.weight s * r.weight s ≤ total_of l * total_of r = mul-le-mul {n₁ = l.weight s} {m₁ = r.weight s} {n₂ = total_of l} {m₂ = total_of r} (a.bounded s) (b.bounded s) in
          omega (arith, t, u);
      spans = λ q h. pair_spans l r p q _ _ refl refl h;
      simple = λ k v h i. pair_simple l r p k v _ refl h i;
    }
