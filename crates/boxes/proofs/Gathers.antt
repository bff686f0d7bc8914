-- What takers make of many pieces.
use Rattle.std.proofs.Common.{◌≡◌, ℕ, suc, ◌+◌, ◌*◌, ◌^◌, ◌<◌, ◌≤◌, min, max, Bool, true, false, cond, eqb, ltb, List, [], ◌∷◌, ◌++◌, map, length, get_or, take, set, replicate, fold, filter, sym, refl, ap, ◌∙◌, arith, lt-ltb, eqb-true}
use borrow.Author.Tests.{eqb-false}
use Rattle.std.proofs.lemmas.List.{take_more_set, append_assoc, append-nil, length-set, get_or-set_same, get_or-set_other, get_or-replicate, length-replicate}
use Rattle.question.specs.declared.checked.Question.{Question}
use Rattle.question.specs.Expressions.{greatest}
use Rattle.question.specs.Texts.{text}
use Rattle.ranges.specs.declared.shapes.WeightedBox.{WeightedBox}
use Rattle.ranges.specs.Boxes.{volume, over_boxes, total_in, peak_in}
use Rattle.ranges.specs.Changes.{gives}
use Rattle.boxes.specs.declared.lists.BoxList.{BoxList}
use Rattle.boxes.specs.declared.takers.Tally.{Tally}
use Rattle.boxes.specs.declared.takers.Press.{Press}
use Rattle.boxes.specs.Holding.{most_boxes}
use Rattle.boxes.specs.Takers.{capped, listed, put, answer_of, counted, untallied, tallied, sifted, capped_piece, pressed, Holds}

-- ---- a list of boxes

put_len : (l : BoxList) (b : WeightedBox) → (put l b).len ≡ capped (l.len + 1)
unfolding put
put_len l b = refl

put_listed : (l : BoxList) (b : WeightedBox) → length l.boxes ≡ most_boxes → l.len < most_boxes → listed (put l b) ≡ listed l ++ (b ∷ [])
unfolding put listed
put_listed l b e h =
    let n : capped (l.len + 1) ≡ l.len + 1 = omega arith in
    ap (λ z. take (capped (l.len + 1)) (cond z (set l.boxes l.len b) l.boxes)) (lt-ltb _ _ h) ∙ ap (λ z. take z (set l.boxes l.len b)) n ∙ take_more_set l.boxes l.len b (omega arith)

put_room : (l : BoxList) (b : WeightedBox) → length (put l b).boxes ≡ length l.boxes
unfolding put
put_room l b = go (ltb l.len most_boxes)
  where
    go : (c : Bool) → length (cond c (set l.boxes l.len b) l.boxes) ≡ length l.boxes
    go true = length-set l.boxes l.len b
    go false = refl

-- how many boxes were put, and if they are few enough which
puts_len : (l : BoxList) (ps : List WeightedBox) → l.len < 2 ^ 64 → (fold put l ps).len ≡ capped (l.len + length ps)
puts_len l [] h = omega arith
puts_len l (p ∷ ps) h = let e = put_len l p in let r = puts_len (put l p) ps (omega arith) in omega arith

puts_listed : (l : BoxList) (ps : List WeightedBox) → length l.boxes ≡ most_boxes → l.len + length ps ≤ most_boxes → listed (fold put l ps) ≡ listed l ++ ps
puts_listed l [] e h = sym (append-nil (listed l))
puts_listed l (p ∷ ps) e h =
    let n = put_len l p in
    puts_listed (put l p) ps (put_room l p ∙ e) (omega arith) ∙ ap (λ z. z ++ ps) (put_listed l p e (omega arith)) ∙ append_assoc (listed l) (p ∷ []) ps

pub puts_hold : (k l : BoxList) (ps : List WeightedBox) → k ≡ fold put l ps → l.len ≡ 0 → length l.boxes ≡ most_boxes → Holds k ps
unfolding listed
puts_hold k l ps e n m = record {
  len = let r = ap (λ z. z.len) e ∙ puts_len l ps (omega arith) in omega arith;
  all = λ h. ap listed e ∙ puts_listed l ps m (omega arith) ∙ ap (λ z. take z l.boxes ++ ps) n;
}

-- ---- a sieve

pub sieve_all : (q : Question) (a : ℕ) (l : BoxList) (ps : List WeightedBox) →
    fold sifted (record { wanted = record { question = q; answer = a }; kept = l }) ps ≡ record { wanted = record { question = q; answer = a }; kept = fold put l (filter (gives (text q) a) ps) }
unfolding sifted gives
sieve_all q a l [] = refl
sieve_all q a l (p ∷ ps) = go (eqb (answer_of (text q) p) a) (λ m. sieve_all q a m ps)
  where
    go : (c : Bool) → ((m : BoxList) → fold sifted (record { wanted = record { question = q; answer = a }; kept = m }) ps ≡ record { wanted = record { question = q; answer = a }; kept = fold put m (filter (gives (text q) a) ps) }) →
        fold sifted (record { wanted = record { question = q; answer = a }; kept = cond c (put l p) l }) ps ≡ record { wanted = record { question = q; answer = a }; kept = fold put l (cond c (p ∷ filter (gives (text q) a) ps) (filter (gives (text q) a) ps)) }
    go true ih = ih (put l p)
    go false ih = ih l

-- ---- a press

pub press_all : (t : Press) (ps : List WeightedBox) → fold pressed t ps ≡ record { around = t.around; factor = t.factor; kept = fold put t.kept (map (capped_piece t.around t.factor) ps) }
unfolding pressed
press_all t [] = refl
press_all t (p ∷ ps) = press_all (pressed t p) ps

-- ---- a tally

counted_at : (ns : List ℕ) (x j : ℕ) → j < length ns → (c : Bool) → eqb x j ≡ c → get_or (counted ns x) j 0 ≡ cond c (min (get_or ns j 0 + 1) 255) (get_or ns j 0)
unfolding counted
counted_at ns x j h true e = let z = eqb-true x j e in ap (λ k. get_or (set ns k (min (get_or ns k 0 + 1) 255)) j 0) z ∙ get_or-set_same ns j (min (get_or ns j 0 + 1) 255) 0 h
counted_at ns x j h false e = get_or-set_other ns x j (min (get_or ns x 0 + 1) 255) 0 (λ z. eqb-false x j e (sym z))

counted_length : (ns : List ℕ) (x : ℕ) → length (counted ns x) ≡ length ns
unfolding counted
counted_length ns x = length-set ns x _

module _ (q : Question) (a : ℕ) where
  abbrev tally : List ℕ → ℕ → ℕ → Tally
  tally ns m h = record { wanted = record { question = q; answer = a }; pieces = ns; mass = m; heaviest = h }

  count_step : (c : Bool) (n m k : ℕ) (xs : List WeightedBox) (p : WeightedBox) → n ≤ 255 → m ≡ cond c (min (n + 1) 255) n → k ≡ min (m + length xs) 255 → k ≡ min (n + length (cond c (p ∷ xs) xs)) 255
  count_step true n m k xs p h e f = omega arith
  count_step false n m k xs p h e f = omega arith

  small_step : (c : Bool) (n m : ℕ) → n ≤ 255 → m ≡ cond c (min (n + 1) 255) n → m ≤ 255
  small_step true n m h e = omega arith
  small_step false n m h e = omega arith

  -- how many pieces give an answer
  tally_count : (ns : List ℕ) (m h : ℕ) (ps : List WeightedBox) (j : ℕ) → j < length ns → get_or ns j 0 ≤ 255 →
      get_or (fold tallied (tally ns m h) ps).pieces j 0 ≡ min (get_or ns j 0 + length (filter (gives (text q) j) ps)) 255
  unfolding tallied gives
  tally_count ns m h [] j l k = omega arith
  tally_count ns m h (p ∷ ps) j l k =
      let x = answer_of (text q) p in
      let e = counted_at ns x j l (eqb x j) refl in
      let r = tally_count (counted ns x) _ _ ps j (rw counted_length l) (small_step (eqb x j) (get_or ns j 0) _ k e) in
      count_step (eqb x j) (get_or ns j 0) _ _ (filter (gives (text q) j) ps) p k e r

  mass_step : (c : Bool) (m n k : ℕ) (xs : List WeightedBox) (p : WeightedBox) → m < 2 ^ 64 → n ≡ cond c (capped (m + capped (volume p.sides * p.weight))) m → k ≡ capped (n + total_in xs) → k ≡ capped (m + total_in (cond c (p ∷ xs) xs))
  unfolding total_in over_boxes
  mass_step true m n k xs p h e f = omega arith
  mass_step false m n k xs p h e f = omega arith

  mass_small : (c : Bool) (m n : ℕ) → m < 2 ^ 64 → cond c (capped n) m < 2 ^ 64
  mass_small true m n h = omega arith
  mass_small false m n h = h

  -- what the pieces weigh that give the answer
  tally_mass : (ns : List ℕ) (m h : ℕ) (ps : List WeightedBox) → m < 2 ^ 64 → (fold tallied (tally ns m h) ps).mass ≡ capped (m + total_in (filter (gives (text q) a) ps))
  unfolding tallied gives total_in over_boxes
  tally_mass ns m h [] l = omega arith
  tally_mass ns m h (p ∷ ps) l =
      let c = eqb (answer_of (text q) p) a in
      let r = tally_mass (counted ns (answer_of (text q) p)) (cond c (capped (m + capped (volume p.sides * p.weight))) m) (cond c (max h p.weight) h) ps (mass_small c m _ l) in
      mass_step c m _ _ (filter (gives (text q) a) ps) p l refl r

  peak_step : (c : Bool) (h k : ℕ) (xs : List WeightedBox) (p : WeightedBox) → k ≡ max (cond c (max h p.weight) h) (peak_in xs) → k ≡ max h (peak_in (cond c (p ∷ xs) xs))
  unfolding peak_in over_boxes
  peak_step true h k xs p e = omega arith
  peak_step false h k xs p e = omega arith

  tally_peak : (ns : List ℕ) (m h : ℕ) (ps : List WeightedBox) → (fold tallied (tally ns m h) ps).heaviest ≡ max h (peak_in (filter (gives (text q) a) ps))
  unfolding tallied gives peak_in over_boxes
  tally_peak ns m h [] = omega arith
  tally_peak ns m h (p ∷ ps) =
      let c = eqb (answer_of (text q) p) a in
      peak_step c h _ (filter (gives (text q) a) ps) p (tally_peak (counted ns (answer_of (text q) p)) (cond c (capped (m + capped (volume p.sides * p.weight))) m) (cond c (max h p.weight) h) ps)

  -- a tally from its start
  pub record Tallied (ps : List WeightedBox) (t : Tally) : Type 0 where
    pub count : (j : ℕ) → j ≤ greatest → get_or t.pieces j 0 ≡ min (length (filter (gives (text q) j) ps)) 255
    pub mass : t.mass ≡ capped (total_in (filter (gives (text q) a) ps))
    pub heaviest : t.heaviest ≡ peak_in (filter (gives (text q) a) ps)

  pub tally_all : (ps : List WeightedBox) → Tallied ps (fold tallied (untallied (record { question = q; answer = a })) ps)
  tally_all ps = record {
    count = λ j h.
        let z : ◌≡◌ {A = ℕ} (get_or (replicate (suc greatest) 0) j 0) 0 = get_or-replicate (suc greatest) j 0 0 (omega arith) in
        let e = tally_count (replicate (suc greatest) 0) 0 0 ps j (rw length-replicate (omega arith)) (omega arith) in omega arith;
    mass = let e = tally_mass (replicate (suc greatest) 0) 0 0 ps (omega arith) in omega arith;
    heaviest = let e = tally_peak (replicate (suc greatest) 0) 0 0 ps in omega arith;
  }
