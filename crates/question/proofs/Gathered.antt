-- The steps among the commands are those of the expression.
use Rattle.std.proofs.Common.{◌≡◌, ℕ, zero, suc, pred, ◌+◌, ◌-◌, ◌*◌, ◌/◌, ◌%◌, ◌<◌, Bool, true, false, cond, ◌&&◌, ◌||◌, eqb, nat_le, List, [], ◌∷◌, ◌++◌, length, get_or, take, drop, is_some, Some, None, Option, sym, refl, ap, ◌∙◌, append_assoc, append-nil, arith, length-drop, take_all}
use Rattle.std.proofs.lemmas.Bool.Decides.{nat_tests}
use Rattle.question.specs.declared.steps.Step.{Step}
use Rattle.question.specs.Expressions.{Op, plus, minus, times, less, equal, and, or, Field, index, Expression, field, number, two, nought, choose, written, sign}
use Rattle.question.specs.Steps.{step, number_step, less_step, two_step, simple, stepped, alone, steps}
use Rattle.question.specs.Fronts.{front_step, prefixed, walk}
use Rattle.question.proofs.Operands.{sign_apart}
use Rattle.question.proofs.Stepping.{two_as, simple_as_step}

-- ---- some steps before others

pub prefixed_none : (r : Option (List Step)) → prefixed [] r ≡ r
prefixed_none None = refl
prefixed_none (Some us) = refl

pub prefixed_more : (ts us : List Step) (r : Option (List Step)) → prefixed (ts ++ us) r ≡ prefixed ts (prefixed us r)
prefixed_more ts us None = refl
prefixed_more ts us (Some vs) = ap Some (append_assoc ts us vs)

-- the steps of an expression, if it is stepped
abbrev pub own : Bool → List Step → Option (List Step)
own b ts = cond b (Some ts) None

abbrev joined : Option (List Step) → Option (List Step) → Option (List Step)
joined None r = None
joined (Some ts) r = prefixed ts r

joined_two : (a b : Bool) (ts us : List Step) (r : Option (List Step)) → joined (own a ts) (joined (own b us) r) ≡ joined (own (a && b) (ts ++ us)) r
joined_two true true ts us r = sym (prefixed_more ts us r)
joined_two true false ts us r = refl
joined_two false b ts us r = refl

-- ---- a step at the front is the expression

front_number : (k : Field) (b : Expression) (rest : List ℕ) → front_step (60 ∷ (written (field k) ++ written b) ++ rest) ≡ number_step (index k) b
front_number k (number hi lo) rest = let e : nat_le 6 (length (60 ∷ 102 ∷ index k ∷ 99 ∷ hi ∷ lo ∷ rest)) ≡ true = grind (arith, nat_tests) in rw e
front_number k (field j) rest = refl
front_number k (two o a b) rest = rw (sign_apart o).1
front_number k (nought a) rest = refl
front_number k (choose a b c) rest = refl

front_less : (a b : Expression) (rest : List ℕ) → front_step (60 ∷ (written a ++ written b) ++ rest) ≡ less_step a b
front_less (field k) b rest = front_number k b rest
front_less (number hi lo) b rest = refl
front_less (two o a c) b rest = rw (sign_apart o).0
front_less (nought a) b rest = refl
front_less (choose a c d) b rest = refl

front_two : (o : Op) (a b : Expression) (rest : List ℕ) → front_step (sign o ∷ (written a ++ written b) ++ rest) ≡ two_step o a b
front_two less a b rest = front_less a b rest
front_two plus a b rest = refl
front_two minus a b rest = refl
front_two times a b rest = refl
front_two equal a b rest = refl
front_two and a b rest = refl
front_two or a b rest = refl

pub front_simple : (t : Expression) (rest : List ℕ) → front_step (written t ++ rest) ≡ simple t
front_simple (two o a b) rest = front_two o a b rest
front_simple (field k) rest = refl
front_simple (number hi lo) rest = refl
front_simple (nought a) rest = refl
front_simple (choose a b c) rest = refl

-- ---- the bytes of an expression that is a step

pub simple_step : (e : Expression) (t : Step) → get_or (written e) 5 0 < 256 → simple e ≡ Some t → written e ≡ step t.field t.bound
simple_step e t b h =
    let s = simple_as_step e t h in
    let w = ap written s.is in
    let l : s.lo < 256 = omega (arith, ap (λ q. get_or q 5 0) w) in
    let v : t.bound ≡ s.hi * 256 + s.lo = ap (λ (u : Step). u.bound) s.told in
    let k : index s.k ≡ t.field = sym (ap (λ (u : Step). u.field) s.told) in
    let x : s.hi ≡ t.bound / 256 = omega (arith, v) in
    let y : s.lo ≡ t.bound % 256 = omega (arith, v) in
    w ∙ rw (k, x, y)

-- ---- the walk

skip : (xs rest : List ℕ) → walk (length xs) (xs ++ rest) ≡ walk 0 rest
skip [] rest = refl
skip (x ∷ xs) rest = skip xs rest

-- the walk goes on after a step, or after the front's own byte
abbrev on : ℕ → List ℕ → Option Step → Option (List Step)
on b bs o = elim o [ Some t ↦ prefixed (t ∷ []) (walk 5 bs) | None ↦ cond (eqb b 102) None (cond (eqb b 99) (walk 2 bs) (walk 0 bs)) ]

-- the operands of a step take five bytes
two_five : (o : Op) (a b : Expression) (t : Step) → two_step o a b ≡ Some t → length (written a ++ written b) ≡ 5
two_five o a b t e = let s = two_as o a b t e in ap (λ d. pred (length (written d))) s.is

walk_two : (o : Op) (a b : Expression) (rest : List ℕ) (u : Option Step) → two_step o a b ≡ u → walk 0 ((written a ++ written b) ++ rest) ≡ joined (own (stepped a && stepped b) (steps a ++ steps b)) (walk 0 rest) → on (sign o) ((written a ++ written b) ++ rest) u ≡ joined (own (is_some u || (stepped a && stepped b)) (alone u (steps a ++ steps b))) (walk 0 rest)
walk_two o a b rest (Some t) e h =
    ap (prefixed (t ∷ [])) (ap (λ n. walk n ((written a ++ written b) ++ rest)) (sym (two_five o a b t e)) ∙ skip (written a ++ written b) rest)
walk_two o a b rest None e h = rw ((sign_apart o).0, (sign_apart o).1) h

pub walk_written : (t : Expression) (rest : List ℕ) → walk 0 (written t ++ rest) ≡ joined (own (stepped t) (steps t)) (walk 0 rest)
walk_written (field k) rest = refl
walk_written (number hi lo) rest = sym (prefixed_none (walk 0 rest))
walk_written (two o a b) rest =
    let h : walk 0 ((written a ++ written b) ++ rest) ≡ joined (own (stepped a && stepped b) (steps a ++ steps b)) (walk 0 rest) = ap (walk 0) (append_assoc (written a) (written b) rest) ∙ (walk_written a (written b ++ rest) ∙ (ap (joined (own (stepped a) (steps a))) (walk_written b rest) ∙ joined_two (stepped a) (stepped b) (steps a) (steps b) (walk 0 rest))) in
    ap (on (sign o) ((written a ++ written b) ++ rest)) (front_two o a b rest) ∙ walk_two o a b rest (two_step o a b) refl h
walk_written (nought a) rest = walk_written a rest
walk_written (choose a b c) rest =
    ap (walk 0) (append_assoc (written a) (written b ++ written c) rest)
    ∙ (walk_written a ((written b ++ written c) ++ rest)
    ∙ (ap (joined (own (stepped a) (steps a))) (ap (walk 0) (append_assoc (written b) (written c) rest)
    ∙ (walk_written b (written c ++ rest) ∙ (ap (joined (own (stepped b) (steps b))) (walk_written c rest) ∙ joined_two (stepped b) (stepped c) (steps b) (steps c) (walk 0 rest))))
    ∙ joined_two (stepped a) (stepped b && stepped c) (steps a) (steps b ++ steps c) (walk 0 rest)))

pub walk_whole : (t : Expression) → walk 0 (written t ++ []) ≡ own (stepped t) (steps t)
walk_whole t = walk_written t [] ∙ joined_end (stepped t) (steps t)
  where
    joined_end : (b : Bool) (ts : List Step) → joined (own b ts) (Some []) ≡ own b ts
    joined_end true ts = ap Some (append-nil ts)
    joined_end false ts = refl

-- ---- as the code takes bytes apart

passes : (n : ℕ) (bs : List ℕ) → walk n bs ≡ walk 0 (drop n bs)
passes zero bs = refl
passes (suc n) [] = refl
passes (suc n) (x ∷ bs) = passes n bs

past_step : (bs : List ℕ) {t : Step} → Some t ≡ front_step bs → walk 0 bs ≡ prefixed (t ∷ []) (walk 0 (take (length bs - 6) (drop 6 bs)))
past_step [] e = cc
past_step (b ∷ bs) {t} e =
    ap (on b bs) (sym e) ∙ ap (prefixed (t ∷ [])) (passes 5 bs ∙ ap (walk 0) (sym (take_all (length (b ∷ bs) - 6) (drop 5 bs) (omega (arith, length-drop 5 bs)))))

pub after_step : (bs : List ℕ) {t : Step} (ts : List Step) {us : List Step} → Some t ≡ front_step bs → us ≡ ts ++ t ∷ [] → prefixed us (walk 0 (take (length bs - 6) (drop 6 bs))) ≡ prefixed ts (walk 0 bs)
after_step bs {t} ts e f =
    let r = walk 0 (take (length bs - 6) (drop 6 bs)) in
    ap (λ x. prefixed x r) f ∙ (prefixed_more ts (t ∷ []) r ∙ ap (prefixed ts) (sym (past_step bs e)))
