-- What leaning gives.
use Rattle.std.proofs.Common.{◌≡◌, ℕ, ◌*◌, ◌≤◌, Bool, true, false, cond, ◌&&◌, nat_le, List, [], ◌∷◌, map, length, take, None, fold, sym, refl, ap, ◌∙◌, mul-le-mul, mul-one, arith, le-leb, leb-true}
use Rattle.std.specs.List.{AllByRecursion}
use Rattle.std.proofs.lemmas.Bool.Decides.{nat_tests}
use Rattle.refusal.specs.Replies.{Reply, given, declined}
use Rattle.question.specs.declared.steps.Step.{Step}
use Rattle.question.proofs.Questions.{and_left, and_right}
use Rattle.belief.specs.Sheets.{plus}
use Rattle.belief.proofs.Sums.{plus_mono, over_mono}
use Rattle.ranges.specs.declared.shapes.Side.{Side}
use Rattle.ranges.specs.declared.shapes.WeightedBox.{WeightedBox}
use Rattle.ranges.specs.Boxes.{inside, corner, fits, weight_at, total_in}
use Rattle.ranges.specs.Pieces.{cut_all}
use Rattle.ranges.specs.Changes.{edges, leaned_piece, leaned_boxes}
use Rattle.ranges.proofs.Pieces.{fits_length}
use Rattle.ranges.proofs.Covers.{cut_light}
use Rattle.ranges.proofs.Weights.{total_is, light}
use Rattle.ranges.proofs.Changes.{leaned_is, leaned_fits, leaned_disjoint}
use Rattle.boxes.specs.declared.holding.Boxes.{Boxes}
use Rattle.boxes.specs.declared.lists.BoxList.{BoxList}
use Rattle.boxes.specs.declared.takers.Press.{Press}
use Rattle.belief.specs.Spans.{span_only, most_total}
use Rattle.boxes.specs.Holding.{most_boxes, weight_in, boxed, held, meaning, between, good_edges, good_factor, room, leaning, Leaned}
use Rattle.boxes.specs.Takers.{capped, listed, capped_piece, pressed, Holds}
use Rattle.boxes.proofs.Gathers.{puts_hold, press_all}
use Rattle.boxes.specs.Meanings.{Tested, sound_made}
use Rattle.boxes.specs.Returns.{PartsOf}

-- ---- the pieces that were pressed

pub press_holds : (x : List Side) (f : ℕ) (l : BoxList) (t : Press) (ts es : List Step) (ys bs : List WeightedBox) → ts ≡ es → ys ≡ bs → l.len ≡ 0 → length l.boxes ≡ most_boxes →
    t ≡ fold pressed (record { around = x; factor = f; kept = l }) (cut_all ts ys) → Holds t.kept (map (capped_piece x f) (cut_all es bs))
press_holds x f l t ts es ys bs et ey el eb e =
    puts_hold t.kept l (map (capped_piece x f) (cut_all es bs))
    (ap (λ z. z.kept) (e ∙ ap (λ z. fold pressed (record { around = x; factor = f; kept = l }) (cut_all z ys)) et ∙ ap (λ z. fold pressed (record { around = x; factor = f; kept = l }) (cut_all es z)) ey
    ∙ press_all (record { around = x; factor = f; kept = l }) (cut_all es bs)))
    el eb

light_product : (i : Bool) (w f : ℕ) → w ≤ most_total → f ≤ 255 → cond i (capped (w * f)) w ≡ cond i (w * f) w
light_product true w f h k = let m : w * f ≤ most_total * 255 = mul-le-mul {n₂ = most_total} {m₂ = 255} h k in omega arith
light_product false w f h k = refl

-- no product of a light piece passes 64 bits
light_pieces : (x : List Side) (f : ℕ) → f ≤ 255 → (ps : List WeightedBox) → AllByRecursion (λ p. p.weight ≤ most_total) ps → map (capped_piece x f) ps ≡ map (leaned_piece x f) ps
unfolding capped_piece leaned_piece
light_pieces x f k [] h = refl
light_pieces x f k (p ∷ ps) h =
    let e = light_product (inside x (corner p.sides)) p.weight f h.0 k in
    let r = light_pieces x f k ps h.1 in
    ap (λ w. record { sides = p.sides; weight = w } ∷ map (capped_piece x f) ps) e ∙ ap (λ z. leaned_piece x f p ∷ z) r

-- ---- what leaning replies

pub room_is : (l : BoxList) (n : ℕ) → true ≡ nat_le l.len most_boxes → n ≡ capped (total_in (take l.len l.boxes)) → nat_le n most_total ≡ (nat_le l.len most_boxes && nat_le (total_in (listed l)) most_total)
unfolding listed
room_is l n h e = let z = sym h in rw z (test (total_in (take l.len l.boxes)) e)
  where
    test : (m : ℕ) → n ≡ capped m → nat_le n most_total ≡ nat_le m most_total
    test m e = grind (arith, nat_tests)

module _ (b : Boxes) (ls hs : List ℕ) (f : ℕ) where
  pub lean_value : good_edges b.span.first b.span.count b.span.tops ls hs ≡ false → ◌≡◌ {A = Reply (Unit {0})} (declined 2 None) (leaning b ls hs f)
  unfolding leaning
  lean_value e = simp e

  module _ (e : good_edges b.span.first b.span.count b.span.tops ls hs ≡ true) where
    pub lean_factor : good_factor f ≡ false → ◌≡◌ {A = Reply (Unit {0})} (declined 3 None) (leaning b ls hs f)
    unfolding leaning
    lean_factor k = simp (e, k)

    edges_fit : fits b.span.tops (between ls hs) ≡ true
    unfolding good_edges
    edges_fit = and_left (fits b.span.tops (between ls hs)) _ e

    module _ (k : good_factor f ≡ true) (p : PartsOf b) (l : BoxList) (xs : List Side) (ex : xs ≡ between ls hs) (h : Holds l (map (capped_piece xs f) (cut_all (edges 0 xs) (held b)))) where
      some_factor : 2 ≤ f
      some_factor = leb-true 2 f (and_left (nat_le 2 f) _ k)

      small_factor : f ≤ 255
      small_factor = leb-true f 255 (and_right (nat_le 2 f) _ k)

      new : List WeightedBox
      new = leaned_boxes (between ls hs) f (held b)

      pressed_is : map (capped_piece xs f) (cut_all (edges 0 xs) (held b)) ≡ new
      unfolding leaned_boxes new
      pressed_is =
          ap (λ z. map (capped_piece z f) (cut_all (edges 0 z) (held b))) ex
          ∙ light_pieces (between ls hs) f small_factor (cut_all (edges 0 (between ls hs)) (held b)) (cut_light most_total (edges 0 (between ls hs)) (held b) (light b.span.tops (held b) most_total p.fit p.most))

      holds : Holds l new
      holds = rw (← pressed_is) h

      room_same : (r : Bool) → r ≡ (nat_le l.len most_boxes && nat_le (total_in (listed l)) most_total) → r ≡ room new
      unfolding room
      room_same r i = i ∙ go (nat_le (length new) most_boxes) refl
        where
          go : (c : Bool) → nat_le (length new) most_boxes ≡ c → (nat_le l.len most_boxes && nat_le (total_in (listed l)) most_total) ≡ (c && nat_le (total_in new) most_total)
          go true t =
              let n = leb-true _ _ t in
              let m = holds.len in
              let z = le-leb l.len most_boxes (omega arith) in rw z (ap (λ v. nat_le (total_in v) most_total) (holds.all n))
          go false t =
              let m = holds.len in
              let z : nat_le l.len most_boxes ≡ false = grind (arith, nat_tests) in simp z

      pub lean_excess : false ≡ (nat_le l.len most_boxes && nat_le (total_in (listed l)) most_total) → ◌≡◌ {A = Reply (Unit {0})} (declined 5 None) (leaning b ls hs f)
      unfolding leaning new
      lean_excess i = let r = sym (room_same false i) in simp (e, k, r)

      module _ (i : true ≡ (nat_le l.len most_boxes && nat_le (total_in (listed l)) most_total)) where
        pub lean_ok : ◌≡◌ {A = Reply (Unit {0})} (given tt) (leaning b ls hs f)
        unfolding leaning new
        lean_ok = let r = sym (room_same true i) in simp (e, k, r)

        new_few : length new ≤ most_boxes
        unfolding room
        new_few = leb-true _ _ (and_left (nat_le (length new) most_boxes) _ (sym (room_same true i)))

        new_most : total_in new ≤ most_total
        unfolding room
        new_most = leb-true _ _ (and_right (nat_le (length new) most_boxes) _ (sym (room_same true i)))

        pub lean_held : take l.len l.boxes ≡ leaned_boxes (between ls hs) f (held b)
        unfolding listed new
        lean_held = holds.all new_few

        long : length (between ls hs) ≡ length b.span.tops
        long = fits_length (between ls hs) b.span.tops edges_fit

        grows : (t : Bool) (w : ℕ) → w ≤ cond t (w * f) w
        grows true w = let m = mul-le-mul {n₁ = w} {m₁ = 1} {n₂ = w} {m₂ = f} (omega arith) (let s = some_factor in omega arith) in let o = mul-one w in omega arith
        grows false w = omega arith

        new_least : 1 ≤ total_in new
        unfolding new
        new_least =
            let fit = leaned_fits (between ls hs) f b.span.tops (held b) long p.fit (let s = some_factor in omega arith) in
            let a = total_is b.span.tops (held b) p.fit in
            let z = total_is b.span.tops (leaned_boxes (between ls hs) f (held b)) fit in
            let m = over_mono plus plus_mono b.span.tops (weight_at (held b)) (weight_at (leaned_boxes (between ls hs) f (held b)))
            (λ s. let e = leaned_is (between ls hs) f b.span.tops (held b) long p.fit s in let g = grows (inside (between ls hs) s) (weight_at (held b) s) in omega arith) in
            let o = p.least in omega arith

        new_sound : Tested b.span.first b.span.count b.span.tops (leaned_boxes (between ls hs) f (held b))
        unfolding new
        new_sound = record {
          some = p.some;
          last = p.last;
          out = p.out;
          few = new_few;
          fit = leaned_fits (between ls hs) f b.span.tops (held b) long p.fit (let s = some_factor in omega arith);
          apart = leaned_disjoint (between ls hs) f b.span.tops (held b) long p.fit (let s = some_factor in omega arith) p.apart;
          least = new_least;
          most = new_most;
        }

        pub leans : Leaned (meaning b) (boxed b.span.first b.span.count b.span.tops (take l.len l.boxes)) (between ls hs) f
        unfolding weight_in
        leans = record {
          sound = ap (λ z. (boxed b.span.first b.span.count b.span.tops z).sound) lean_held ∙ sound_made b.span.first b.span.count b.span.tops (leaned_boxes (between ls hs) f (held b)) new_sound;
          weights = λ s.
              ap (λ z. weight_at z (span_only b.span.first b.span.count s)) lean_held ∙ leaned_is (between ls hs) f b.span.tops (held b) long p.fit (span_only b.span.first b.span.count s);
        }
