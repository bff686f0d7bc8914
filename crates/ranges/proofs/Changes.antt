-- What revising and leaning do to the weights, and what they keep.
use Rattle.std.proofs.Common.{◌≡◌, ℕ, suc, ◌+◌, ◌*◌, ◌≤◌, Bool, true, false, cond, ◌&&◌, eqb, ltb, List, [], ◌∷◌, map, length, get_or, drop, filter, sym, refl, ap, ◌∙◌, add-mul, mul-le-mul, zero-mul, arith, drop-cons}
use Rattle.question.specs.Steps.{Agree}
use Rattle.question.specs.Questions.{answers, is_stepped, steps_of}
use Rattle.question.proofs.Questions.{and_right, answers_agree, steps_four}
use Rattle.belief.specs.Sheets.{plus}
use Rattle.belief.specs.Meaning.{kept}
use Rattle.ranges.specs.declared.shapes.Side.{Side}
use Rattle.ranges.specs.declared.shapes.WeightedBox.{WeightedBox}
use Rattle.ranges.specs.Boxes.{within, inside, corner, over_boxes, weight_at, fit_all, disjoint}
use Rattle.ranges.specs.Pieces.{cut_all}
use Rattle.ranges.specs.Changes.{gives, revised_boxes, edges, leaned_piece, leaned_boxes}
use Rattle.ranges.proofs.Folds.{never}
use Rattle.ranges.proofs.Pieces.{Fielded, Rests, got, at_pieces}
use Rattle.ranges.proofs.Covers.{cut_fits, cut_disjoint, kept_fits, kept_disjoint, map_fits, map_disjoint}

-- ---- revising

-- what a sheet of a box of weight w keeps
abbrev share : List ℕ → ℕ → ℕ → List ℕ → ℕ
share q a w s = cond (eqb (answers q s) a) w 0

share_rests : (q : List ℕ) (a w : ℕ) (xs : List Side) → is_stepped q ≡ true → Rests (steps_of q) (share q a w) xs
share_rests q a w xs d = λ s u i k e. ap (λ n. cond (eqb n a) w 0) (answers_agree q s u d e)

split_share : (e i : Bool) (w r : ℕ) → cond e (cond i w 0 + r) 0 ≡ cond i (cond e w 0) 0 + cond e r 0
split_share true true w r = omega arith
split_share true false w r = omega arith
split_share false true w r = omega arith
split_share false false w r = omega arith

none : (e : Bool) → ◌≡◌ {A = ℕ} (cond e 0 0) 0
none true = refl
none false = refl

kept_shares : (q : List ℕ) (a : ℕ) (bs : List WeightedBox) (s : List ℕ) → kept q a (weight_at bs) s ≡ over_boxes plus (λ b. cond (inside b.sides s) (share q a b.weight s) 0) bs
unfolding kept weight_at over_boxes
kept_shares q a [] s = none (eqb (answers q s) a)
kept_shares q a (b ∷ bs) s =
    split_share (eqb (answers q s) a) (inside b.sides s) b.weight (weight_at bs s) ∙ ap (λ z. cond (inside b.sides s) (share q a b.weight s) 0 + z) (kept_shares q a bs s)

giving_weight : (q : List ℕ) (a : ℕ) (ts s : List ℕ) (ps : List WeightedBox) → over_boxes plus (got (share q a) ts s) ps ≡ weight_at (filter (gives q a) ps) s
unfolding over_boxes weight_at gives
giving_weight q a ts s [] = refl
giving_weight q a ts s (p ∷ ps) = go (eqb (answers q (corner p.sides)) a) (giving_weight q a ts s ps)
  where
    go : (e : Bool) → over_boxes plus (got (share q a) ts s) ps ≡ weight_at (filter (gives q a) ps) s →
        cond (inside p.sides s) (cond e p.weight 0) 0 + over_boxes plus (got (share q a) ts s) ps ≡ weight_at (cond e (p ∷ filter (gives q a) ps) (filter (gives q a) ps)) s
    go true ih = omega arith
    go false ih = let z = none (inside p.sides s) in omega arith

module _ (q : List ℕ) (ts : List ℕ) (bs : List WeightedBox) (d : is_stepped q ≡ true) (four : length ts ≡ 4) (h : fit_all ts bs ≡ true) where
  fields : Fielded (length ts) (steps_of q)
  fields = rw four (steps_four q)

  -- the sheets that give the answer keep their weight
  pub revised_is : (a : ℕ) (s : List ℕ) → weight_at (revised_boxes q a bs) s ≡ kept q a (weight_at bs) s
  unfolding revised_boxes
  revised_is a s =
      sym (kept_shares q a bs s ∙ at_pieces (share q a) ts s (steps_of q) fields (λ w xs l. share_rests q a w xs d) bs h ∙ giving_weight q a ts s (cut_all (steps_of q) bs))

  pub revised_fits : (a : ℕ) → fit_all ts (revised_boxes q a bs) ≡ true
  unfolding revised_boxes
  revised_fits a = kept_fits ts (gives q a) (cut_all (steps_of q) bs) (cut_fits ts (steps_of q) bs h)

  pub revised_disjoint : (a : ℕ) → disjoint bs ≡ true → disjoint (revised_boxes q a bs) ≡ true
  unfolding revised_boxes
  revised_disjoint a k = kept_disjoint ts (gives q a) (cut_all (steps_of q) bs) (cut_fits ts (steps_of q) bs h) (cut_disjoint ts (steps_of q) bs fields h k)

-- ---- leaning

base_edge : (x : Side) (a b : ℕ) → ltb a x.low ≡ ltb b x.low → ltb a (x.high + 1) ≡ ltb b (x.high + 1) → within x a ≡ within x b
unfolding within
base_edge x a b h k = grind arith

long : (xs : List Side) (s : List ℕ) → inside xs s ≡ true → length xs ≤ length s
unfolding inside
long [] s h = omega arith
long (x ∷ xs) [] h = never h
long (x ∷ xs) (v ∷ s) h = let e = long xs s (and_right (within x v) _ h) in omega arith

-- whether a sheet lies in the box depends on its edges alone
edge_same : (xs : List Side) (k : ℕ) (s u : List ℕ) → k + length xs ≤ length s → k + length xs ≤ length u → Agree (edges k xs) s u → inside xs (drop k s) ≡ inside xs (drop k u)
unfolding inside edges
edge_same [] k s u h l e = refl
edge_same (x ∷ xs) k s u h l e =
    let a = drop-cons s k 0 (omega arith) in
    let b = drop-cons u k 0 (omega arith) in
    let w = base_edge x (get_or s k 0) (get_or u k 0) e.0 e.1.0 in
    let r = edge_same xs (suc k) s u (omega arith) (omega arith) e.1.1 in
    ap (inside (x ∷ xs)) a ∙ ap (λ z. z && inside xs (drop (suc k) s)) w ∙ ap (λ z. within x (get_or u k 0) && z) r ∙ ap (inside (x ∷ xs)) (sym b)

edge_fields : (xs : List Side) (k n : ℕ) → k + length xs ≤ n → Fielded n (edges k xs)
unfolding edges
edge_fields [] k n h = tt
edge_fields (x ∷ xs) k n h = (omega arith, (omega arith, edge_fields xs (suc k) n (omega arith)))

-- what a sheet of a box of weight w comes to
abbrev leans : List Side → ℕ → ℕ → List ℕ → ℕ
leans x f w s = cond (inside x s) (w * f) w

lean_rests : (x : List Side) (f w : ℕ) (xs : List Side) → length x ≡ length xs → Rests (edges 0 x) (leans x f w) xs
lean_rests x f w xs e = λ s u i k g. let a = long xs s i in let b = long xs u k in ap (λ z. cond z (w * f) w) (edge_same x 0 s u (omega arith) (omega arith) g)

split_lean : (i e : Bool) (w r f : ℕ) → cond e ((cond i w 0 + r) * f) (cond i w 0 + r) ≡ cond i (cond e (w * f) w) 0 + cond e (r * f) r
split_lean true true w r f = add-mul w r f
split_lean true false w r f = refl
split_lean false true w r f = add-mul 0 r f ∙ ap (λ z. z + r * f) (zero-mul f)
split_lean false false w r f = refl

none_lean : (e : Bool) (f : ℕ) → cond e (0 * f) 0 ≡ 0
none_lean true f = zero-mul f
none_lean false f = refl

lean_shares : (x : List Side) (f : ℕ) (bs : List WeightedBox) (s : List ℕ) →
    cond (inside x s) (weight_at bs s * f) (weight_at bs s) ≡ over_boxes plus (λ b. cond (inside b.sides s) (leans x f b.weight s) 0) bs
unfolding weight_at over_boxes
lean_shares x f [] s = none_lean (inside x s) f
lean_shares x f (b ∷ bs) s =
    split_lean (inside b.sides s) (inside x s) b.weight (weight_at bs s) f ∙ ap (λ z. cond (inside b.sides s) (leans x f b.weight s) 0 + z) (lean_shares x f bs s)

leaned_weight : (x : List Side) (f : ℕ) (ts s : List ℕ) (ps : List WeightedBox) → over_boxes plus (got (leans x f) ts s) ps ≡ weight_at (map (leaned_piece x f) ps) s
unfolding over_boxes weight_at leaned_piece
leaned_weight x f ts s [] = refl
leaned_weight x f ts s (p ∷ ps) = ap (λ z. cond (inside p.sides s) (leans x f p.weight (corner p.sides)) 0 + z) (leaned_weight x f ts s ps)

leaned_sides : (x : List Side) (f : ℕ) (p : WeightedBox) → (leaned_piece x f p).sides ≡ p.sides
unfolding leaned_piece
leaned_sides x f p = refl

times_pos : (i : Bool) (w f : ℕ) → 1 ≤ w → 1 ≤ f → 1 ≤ cond i (w * f) w
times_pos true w f h k = mul-le-mul {n₁ = 1} {m₁ = 1} h k
times_pos false w f h k = h

leaned_some : (x : List Side) (f : ℕ) → 1 ≤ f → (p : WeightedBox) → 1 ≤ p.weight → 1 ≤ (leaned_piece x f p).weight
unfolding leaned_piece
leaned_some x f k p h = times_pos (inside x (corner p.sides)) p.weight f h k

module _ (x : List Side) (f : ℕ) (ts : List ℕ) (bs : List WeightedBox) (l : length x ≡ length ts) (h : fit_all ts bs ≡ true) where
  lean_fields : Fielded (length ts) (edges 0 x)
  lean_fields = edge_fields x 0 (length ts) (omega arith)

  -- the weights inside the box are multiplied
  pub leaned_is : (s : List ℕ) → weight_at (leaned_boxes x f bs) s ≡ cond (inside x s) (weight_at bs s * f) (weight_at bs s)
  unfolding leaned_boxes
  leaned_is s =
      sym (lean_shares x f bs s ∙ at_pieces (leans x f) ts s (edges 0 x) lean_fields (λ w xs e. lean_rests x f w xs (l ∙ sym e)) bs h ∙ leaned_weight x f ts s (cut_all (edges 0 x) bs))

  pub leaned_fits : 1 ≤ f → fit_all ts (leaned_boxes x f bs) ≡ true
  unfolding leaned_boxes
  leaned_fits k = map_fits (leaned_piece x f) (leaned_sides x f) ts (leaned_some x f k) (cut_all (edges 0 x) bs) (cut_fits ts (edges 0 x) bs h)

  pub leaned_disjoint : 1 ≤ f → disjoint bs ≡ true → disjoint (leaned_boxes x f bs) ≡ true
  unfolding leaned_boxes
  leaned_disjoint k d =
      map_disjoint (leaned_piece x f) (leaned_sides x f) ts (leaned_some x f k) (cut_all (edges 0 x) bs) (cut_fits ts (edges 0 x) bs h) (cut_disjoint ts (edges 0 x) bs lean_fields h d)
