-- The pieces of a box are all combinations of the segments of its sides.
use Rattle.std.proofs.Common.{◌≡◌, ℕ, zero, suc, ◌+◌, Bool, true, false, cond, ◌&&◌, eqb, List, [], ◌∷◌, ◌++◌, sym, refl, ap, ◌∙◌, arith, eq-eqb, eqb-true}
use Rattle.question.specs.declared.steps.Step.{Step}
use Rattle.ranges.specs.declared.shapes.Side.{Side}
use Rattle.ranges.specs.Pieces.{cuts_side, below, above, cuts, with_side, lower, upper, pieces}
use Rattle.ranges.specs.Combinations.{segments, before, each_before, combined, times, Same}
use Rattle.ranges.proofs.Folds.{never}

times_append : (p : List Side → Bool) (xs ys : List (List Side)) → times p (xs ++ ys) ≡ times p xs + times p ys
unfolding times
times_append p [] ys = omega arith
times_append p (x ∷ xs) ys = let e = times_append p xs ys in omega arith

times_before : (p : List Side → Bool) (x : Side) (ps : List (List Side)) → times p (before x ps) ≡ times (λ r. p (x ∷ r)) ps
unfolding times before
times_before p x [] = refl
times_before p x (r ∷ ps) = let e = times_before p x ps in omega arith

each_append : (p : List Side → Bool) (xs ys : List Side) (ps : List (List Side)) → times p (each_before (xs ++ ys) ps) ≡ times p (each_before xs ps) + times p (each_before ys ps)
unfolding each_before times
each_append p [] ys ps = omega arith
each_append p (x ∷ xs) ys ps = let e = each_append p xs ys ps in let a = times_append p (before x ps) (each_before (xs ++ ys) ps) in let b = times_append p (before x ps) (each_before xs ps) in omega arith

each_rest : (p : List Side → Bool) (xs : List Side) (ps rs : List (List Side)) → times p (each_before xs (ps ++ rs)) ≡ times p (each_before xs ps) + times p (each_before xs rs)
unfolding each_before times
each_rest p [] ps rs = omega arith
each_rest p (x ∷ xs) ps rs =
    let e = each_rest p xs ps rs in
    let a = times_append p (before x (ps ++ rs)) (each_before xs (ps ++ rs)) in
    let b = times_append p (before x ps) (each_before xs ps) in
    let c = times_append p (before x rs) (each_before xs rs) in
    let d = times_before p x (ps ++ rs) ∙ times_append (λ r. p (x ∷ r)) ps rs in
    let f = times_before p x ps in let g = times_before p x rs in omega arith

each_same : (p : List Side → Bool) (xs : List Side) (ps rs : List (List Side)) → Same ps rs → times p (each_before xs ps) ≡ times p (each_before xs rs)
unfolding each_before times
each_same p [] ps rs s = refl
each_same p (x ∷ xs) ps rs s =
    let e = each_same p xs ps rs s in
    let b = times_append p (before x ps) (each_before xs ps) in
    let c = times_append p (before x rs) (each_before xs rs) in
    let f = times_before p x ps in let g = times_before p x rs in let h = s (λ r. p (x ∷ r)) in omega arith

seg_cond : (t : Step) (qs : List Step) (k : ℕ) (x : Side) (b : Bool) → (eqb t.field k && cuts_side x t.bound) ≡ b →
    segments (t ∷ qs) k x ≡ cond b (segments qs k (below x t.bound) ++ segments qs k (above x t.bound)) (segments qs k x)
unfolding segments
seg_cond t qs k x b e = ap (λ z. cond z (segments qs k (below x t.bound) ++ segments qs k (above x t.bound)) (segments qs k x)) e

not_here : (t : Step) (k : ℕ) (c b : Bool) → eqb t.field k ≡ b → (t.field ≡ k → c ≡ false) → (b && c) ≡ false
not_here t k c true e h = h (eqb-true _ _ e)
not_here t k c false e h = refl

-- a step that cuts no side from field k on
step_none : (t : Step) (qs : List Step) (k : ℕ) (xs : List Side) → ((m : ℕ) → t.field ≡ k + m → cuts xs m t.bound ≡ false) → combined (t ∷ qs) k xs ≡ combined qs k xs
unfolding combined cuts
step_none t qs k [] h = refl
step_none t qs k (x ∷ xs) h =
    let c = cuts_side x t.bound in
    let s = seg_cond t qs k x false (not_here t k c (eqb t.field k) refl (λ e. h 0 (omega arith))) in
    let r = step_none t qs (suc k) xs (λ m e. h (suc m) (omega arith)) in
    ap (λ z. each_before z (combined (t ∷ qs) (suc k) xs)) s ∙ ap (λ z. each_before (segments qs k x) z) r

-- a step that cuts side m from field k on
step_parts : (t : Step) (qs : List Step) (k m : ℕ) (xs : List Side) → t.field ≡ k + m → cuts xs m t.bound ≡ true →
    Same (combined (t ∷ qs) k xs) (combined qs k (lower xs m t.bound) ++ combined qs k (upper xs m t.bound))
unfolding combined cuts with_side
step_parts t qs k m [] e c p = never c
step_parts t qs k zero (x ∷ xs) e c p =
    let l : Side = below x t.bound in
    let u : Side = above x t.bound in
    let h : (eqb t.field k && cuts_side x t.bound) ≡ true = ap (λ z. z && cuts_side x t.bound) (eq-eqb t.field k (omega arith)) ∙ c in
    let s = seg_cond t qs k x true h in
    let r = step_none t qs (suc k) xs (λ m f. absurd (omega arith)) in
    ap (λ z. times p (each_before z (combined (t ∷ qs) (suc k) xs))) s ∙ ap (λ z. times p (each_before (segments qs k l ++ segments qs k u) z)) r
    ∙ each_append p (segments qs k l) (segments qs k u) (combined qs (suc k) xs)
    ∙ sym (times_append p (each_before (segments qs k l) (combined qs (suc k) xs)) (each_before (segments qs k u) (combined qs (suc k) xs)))
step_parts t qs k (suc m) (x ∷ xs) e c p =
    let d = cuts_side x t.bound in
    let s = seg_cond t qs k x false (not_here t k d (eqb t.field k) refl (λ f. absurd (omega arith))) in
    let ih = step_parts t qs (suc k) m xs (omega arith) c in
    let l = combined qs (suc k) (lower xs m t.bound) in
    let u = combined qs (suc k) (upper xs m t.bound) in
    ap (λ z. times p (each_before z (combined (t ∷ qs) (suc k) xs))) s
    ∙ each_same p (segments qs k x) (combined (t ∷ qs) (suc k) xs) (l ++ u) ih
    ∙ each_rest p (segments qs k x) l u
    ∙ sym (times_append p (each_before (segments qs k x) l) (each_before (segments qs k x) u))

none_left : (k : ℕ) (xs : List Side) → xs ∷ [] ≡ combined [] k xs
unfolding combined segments each_before before
none_left k [] = refl
none_left k (x ∷ xs) = ap (λ z. each_before (x ∷ []) z) (none_left (suc k) xs)

pieces_go : (t : Step) (qs : List Step) (xs : List Side) → ((ys : List Side) → Same (pieces qs ys) (combined qs 0 ys)) → (b : Bool) → cuts xs t.field t.bound ≡ b →
    Same (cond b (pieces qs (lower xs t.field t.bound) ++ pieces qs (upper xs t.field t.bound)) (pieces qs xs)) (combined (t ∷ qs) 0 xs)
pieces_go t qs xs ih true c p =
    let l = lower xs t.field t.bound in
    let u = upper xs t.field t.bound in
    times_append p (pieces qs l) (pieces qs u) ∙ ap (λ z. z + times p (pieces qs u)) (ih l p) ∙ ap (λ z. times p (combined qs 0 l) + z) (ih u p)
    ∙ sym (times_append p (combined qs 0 l) (combined qs 0 u)) ∙ sym (step_parts t qs 0 t.field xs (omega arith) c p)
pieces_go t qs xs ih false c p =
    ih xs p ∙ ap (times p) (sym (step_none t qs 0 xs (λ m e. let z : t.field ≡ m = omega arith in ap (λ n. cuts xs n t.bound) (sym z) ∙ c)))

-- the recursive cut and the combinations of segments hold the same pieces, each equally often
pub pieces_combined : (qs : List Step) (xs : List Side) → Same (pieces qs xs) (combined qs 0 xs)
unfolding pieces
pieces_combined [] xs p = ap (times p) (none_left 0 xs)
pieces_combined (t ∷ qs) xs p = pieces_go t qs xs (λ ys r. pieces_combined qs ys r) (cuts xs t.field t.bound) refl p
