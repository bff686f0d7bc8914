-- The reading of bytes agrees with expressions and with the scan of slots.
use Rattle.std.proofs.Common.{◌≡◌, ℕ, zero, suc, ◌+◌, ◌-◌, ◌<◌, ◌≤◌, Bool, true, false, cond, nat_le, List, [], ◌∷◌, ◌++◌, length, Some, None, Option, sym, refl, ap, ◌∙◌, subst, append_assoc, le_refl, arith, length-append, leb-true}
use Rattle.std.proofs.lemmas.Bool.Decides.{nat_tests}
use Rattle.question.specs.Expressions.{longest, Op, first, second, third, fourth, index, Expression, field, number, two, nought, choose, written, sign, stands, completed}
use Rattle.refusal.specs.Replies.{Reply, given, declined, mapped}
use Rattle.question.specs.Reading.{Command, a_field, a_number, a_two, a_nought, a_choose, unknown, command, Front, found, wrong, after, field_of, field_front, number_front, step, front, first_over, limits, whole, reading}
use Rattle.question.specs.Fronts.{Slot, question, any, wants, follows, stuck, Stuck, Reads, Small}
use Rattle.question.proofs.Firsts.{both_none, none_within}
use Rattle.question.proofs.Operands.{of_sign}
use Rattle.question.proofs.Scan.{spelt, two_slots, passed, two_first, three_first, three_second}

-- ---- a writing is read as its expression

two_fronts : (a b : Expression) (n : ℕ) (rest : List ℕ) → length ((written a ++ written b) ++ rest) ≤ n → ((r : List ℕ) → length (written a ++ r) ≤ n → front n (written a ++ r) ≡ found a r) → ((r : List ℕ) → length (written b ++ r) ≤ n → front n (written b ++ r) ≡ found b r) → (front n ((written a ++ written b) ++ rest) ≡ found a (written b ++ rest)) × (front n (written b ++ rest) ≡ found b rest)
two_fronts a b n rest h f g =
    let e = ap length (append_assoc (written a) (written b) rest) ∙ length-append (written a) (written b ++ rest) in
    let k = length-append (written a) (written b ++ rest) in
    (rw append_assoc (f (written b ++ rest) (omega (arith, e, k, h))), g rest (omega (arith, e, h)))

pub front_written : (t : Expression) (n : ℕ) (rest : List ℕ) → length (written t ++ rest) ≤ n → front n (written t ++ rest) ≡ found t rest
front_written (field k) zero rest h = absurd (omega arith)
front_written (field first) (suc n) rest h = refl
front_written (field second) (suc n) rest h = refl
front_written (field third) (suc n) rest h = refl
front_written (field fourth) (suc n) rest h = refl
front_written (number hi lo) zero rest h = absurd (omega arith)
front_written (number hi lo) (suc n) rest h = refl
front_written (two o a b) zero rest h = absurd (omega arith)
front_written (two o a b) (suc n) rest h =
    let p = two_fronts a b n rest (omega arith) (front_written a n) (front_written b n) in
    let X = (written a ++ written b) ++ rest in
    let g : step (front n) (sign o) X (a_two o) ≡ found (two o a b) rest = rw (p.0, p.1) in
    ap (step (front n) (sign o) X) (of_sign o) ∙ g
front_written (nought a) zero rest h = absurd (omega arith)
front_written (nought a) (suc n) rest h = rw (front_written a n rest (omega arith))
front_written (choose a b c) zero rest h = absurd (omega arith)
front_written (choose a b c) (suc n) rest h =
    let e = ap length (append_assoc (written a) (written b ++ written c) rest) ∙ length-append (written a) ((written b ++ written c) ++ rest) in
    let p : front n ((written a ++ (written b ++ written c)) ++ rest) ≡ found a ((written b ++ written c) ++ rest) = rw append_assoc (front_written a n ((written b ++ written c) ++ rest) (omega (arith, e, length-append (written a) ((written b ++ written c) ++ rest)))) in
    let q = two_fronts b c n rest (omega (arith, e)) (front_written b n) (front_written c n) in
    rw (p, q.0, q.1)

-- ---- and all else is stuck

abbrev pub Agree : List ℕ → Front → Type 0
Agree bs (found t r) = bs ≡ written t ++ r
Agree bs (wrong l) = Stuck bs l

two_second : (o : Op) (bs r : List ℕ) (x : Expression) {l : ℕ} → bs ≡ written x ++ r → Stuck r l → Stuck (sign o ∷ bs) l
two_second o bs r x e h = record { whatever = λ ss. two_slots o ss bs ∙ (passed {bs = bs} {rest = r} (record { tree = x; is = e }) (question ∷ ss) ∙ h.whatever ss) }

three_third : (bs r q : List ℕ) (x y : Expression) {l : ℕ} → bs ≡ written x ++ r → r ≡ written y ++ q → Stuck q l → Stuck (63 ∷ bs) l
three_third bs r q x y e f h =
    record { whatever = λ ss. passed {bs = bs} {rest = r} (record { tree = x; is = e }) (question ∷ question ∷ ss) ∙ (passed {bs = r} {rest = q} (record { tree = y; is = f }) (question ∷ ss) ∙ h.whatever ss) }

agree_two_2 : (o : Op) (bs r : List ℕ) (x : Expression) → bs ≡ written x ++ r → (G : Front) → Agree r G → Agree (sign o ∷ bs) (after G (λ y q. found (two o x y) q))
agree_two_2 o bs r x e (wrong l) h = two_second o bs r x e h
agree_two_2 o bs r x e (found y q) h = ap (λ z. sign o ∷ z) (rw append_assoc (e ∙ ap (λ z. written x ++ z) h))

agree_two : (o : Op) (n : ℕ) (f : List ℕ → Front) (bs : List ℕ) (F : Front) → ((r : List ℕ) → length r ≤ n → Agree r (f r)) → length bs ≤ n → Agree bs F → Agree (sign o ∷ bs) (after F (λ x r. after (f r) (λ y q. found (two o x y) q)))
agree_two o n f bs (wrong l) g m h = two_first o bs h
agree_two o n f bs (found x r) g m h = agree_two_2 o bs r x h (f r) (g r (omega (arith, ap length h ∙ length-append (written x) r)))

agree_one : (bs : List ℕ) (F : Front) → Agree bs F → Agree (33 ∷ bs) (after F (λ x r. found (nought x) r))
agree_one bs (wrong l) h = record { whatever = h.whatever }
agree_one bs (found x r) h = ap (λ z. 33 ∷ z) h

agree_three_3 : (bs r q : List ℕ) (x y : Expression) → bs ≡ written x ++ r → r ≡ written y ++ q → (H : Front) → Agree q H → Agree (63 ∷ bs) (after H (λ z e. found (choose x y z) e))
agree_three_3 bs r q x y e f (wrong l) h = three_third bs r q x y e f h
agree_three_3 bs r q x y e f (found z s) h = ap (λ i. 63 ∷ i) (e ∙ (ap (λ i. written x ++ i) (f ∙ ap (λ i. written y ++ i) h) ∙ simp append_assoc))

agree_three_2 : (n : ℕ) (f : List ℕ → Front) (bs r : List ℕ) (x : Expression) → ((r : List ℕ) → length r ≤ n → Agree r (f r)) → length r ≤ n → bs ≡ written x ++ r → (G : Front) → Agree r G → Agree (63 ∷ bs) (after G (λ y q. after (f q) (λ z e. found (choose x y z) e)))
agree_three_2 n f bs r x g m e (wrong l) h = three_second bs r (record { tree = x; is = e }) h
agree_three_2 n f bs r x g m e (found y q) h = agree_three_3 bs r q x y e h (f q) (g q (omega (arith, ap length h ∙ length-append (written y) q)))

agree_three : (n : ℕ) (f : List ℕ → Front) (bs : List ℕ) (F : Front) → ((r : List ℕ) → length r ≤ n → Agree r (f r)) → length bs ≤ n → Agree bs F → Agree (63 ∷ bs) (after F (λ x r. after (f r) (λ y q. after (f q) (λ z e. found (choose x y z) e))))
agree_three n f bs (wrong l) g m h = three_first bs h
agree_three n f bs (found x r) g m h =
    let k : length r ≤ n = omega (arith, ap length h ∙ length-append (written x) r) in
    agree_three_2 n f bs r x g k h (f r) (g r k)

index_of : (k : ℕ) → k ≤ 3 → k ≡ index (field_of k)
index_of zero h = refl
index_of (suc zero) h = refl
index_of (suc (suc zero)) h = refl
index_of (suc (suc (suc zero))) h = refl
index_of (suc (suc (suc (suc k)))) h = absurd (omega arith)

abbrev shut : Bool → Option (List Slot)
shut x = cond x (Some []) None

agree_which : (k : ℕ) (bs : List ℕ) (x : Bool) → nat_le k 3 ≡ x → Agree (102 ∷ k ∷ bs) (cond x (found (field (field_of k)) bs) (wrong (length (k ∷ bs))))
agree_which k bs true e = ap (λ i. 102 ∷ i ∷ bs) (index_of k (leb-true k 3 e))
agree_which k bs false e = record { whatever = λ ss. ap (λ x. (elim (shut x) [ None ↦ Some (length (k ∷ bs)) | Some new ↦ stuck (new ++ ss) bs ])) e }

agree_field : (bs : List ℕ) → Agree (102 ∷ bs) (field_front bs)
agree_field [] = record { whatever = λ ss. refl }
agree_field (k ∷ bs) = agree_which k bs (nat_le k 3) refl

agree_number : (bs : List ℕ) → Agree (99 ∷ bs) (number_front bs)
agree_number [] = record { whatever = λ ss. refl }
agree_number (hi ∷ []) = record { whatever = λ ss. refl }
agree_number (hi ∷ lo ∷ bs) = refl

agree_step : (n : ℕ) (f : List ℕ → Front) (b : ℕ) (bs : List ℕ) → ((r : List ℕ) → length r ≤ n → Agree r (f r)) → length bs ≤ n → (k : Command) → command b ≡ k → Agree (b ∷ bs) (step f b bs k)
agree_step n f b bs g m a_field e = subst (λ x. Agree (x ∷ bs) (field_front bs)) (sym (spelt b a_field e refl)) (agree_field bs)
agree_step n f b bs g m a_number e = subst (λ x. Agree (x ∷ bs) (number_front bs)) (sym (spelt b a_number e refl)) (agree_number bs)
agree_step n f b bs g m (a_two o) e = subst (λ x. Agree (x ∷ bs) (step f b bs (a_two o))) (sym (spelt b (a_two o) e refl)) (agree_two o n f bs (f bs) g m (g bs m))
agree_step n f b bs g m a_nought e = subst (λ x. Agree (x ∷ bs) (step f b bs a_nought)) (sym (spelt b a_nought e refl)) (agree_one bs (f bs) (g bs m))
agree_step n f b bs g m a_choose e = subst (λ x. Agree (x ∷ bs) (step f b bs a_choose)) (sym (spelt b a_choose e refl)) (agree_three n f bs (f bs) g m (g bs m))
agree_step n f b bs g m unknown e = record { whatever = λ ss. ap (λ k. (elim (wants k) [ None ↦ Some (length (b ∷ bs)) | Some new ↦ stuck (new ++ ss) bs ])) e }

-- what is found is written there, and otherwise the scan is stuck
pub agree : (n : ℕ) (bs : List ℕ) → length bs ≤ n → Agree bs (front n bs)
agree zero [] h = record { whatever = λ ss. refl }
agree zero (b ∷ bs) h = absurd (omega arith)
agree (suc n) [] h = record { whatever = λ ss. refl }
agree (suc n) (b ∷ bs) h = agree_step n (front n) b bs (agree n) (omega arith) (command b) refl

-- ---- the reading

no_found : (r : List ℕ) (l : ℕ) → stuck [] r ≡ Some l → stuck (any ∷ []) r ≡ Some l → ⊥
no_found [] l e f = cc
no_found (x ∷ []) l e f = cc
no_found (x ∷ y ∷ r) l e f =
    let a : length (x ∷ y ∷ r) ≡ l = cc in
    let b : length (y ∷ r) ≡ l = cc in
    omega arith

stuck_by : (bs : List ℕ) (l : ℕ) → Stuck bs l → (F : Front) → Agree bs F → F ≡ wrong l
stuck_by bs l h (wrong k) g = ap wrong (let z : k ≡ l = cc (h.whatever [], g.whatever []) in z)
stuck_by bs l h (found t r) g =
    absurd (no_found r l (sym (passed {bs = bs} {rest = r} (record { tree = t; is = g }) []) ∙ h.whatever []) (sym (passed {bs = bs} {rest = r} (record { tree = t; is = g }) (any ∷ [])) ∙ h.whatever (any ∷ [])))

pub stuck_front : (bs : List ℕ) (l : ℕ) → Stuck bs l → front (length bs) bs ≡ wrong l
stuck_front bs l h = stuck_by bs l h (front (length bs) bs) (agree (length bs) bs (le_refl (length bs)))

pub found_front : (bs : List ℕ) (t : Expression) (rest : List ℕ) → bs ≡ written t ++ rest → front (length bs) bs ≡ found t rest
found_front bs t rest e = ap (front (length bs)) e ∙ front_written t (length bs) rest (omega (arith, ap length e))

pub reading_short : (bs : List ℕ) (F : Front) → length bs ≤ longest → front (length bs) bs ≡ F → reading bs ≡ whole (length bs) F
unfolding reading
reading_short bs F h e = let s : nat_le (length bs) longest ≡ true = grind (arith, nat_tests) in rw s (ap (whole (length bs)) e)

pub reading_long : (bs : List ℕ) → longest < length bs → reading bs ≡ declined 9 (Some longest)
unfolding reading
reading_long bs h = let s : nat_le (length bs) longest ≡ false = grind (arith, nat_tests) in rw s

-- ---- what is accepted

clear_small : (t : Expression) (p : ℕ) → first_over (completed p t) ≡ None → Small t
clear_small (field k) p e = omega arith
clear_small (number hi lo) p e = (none_within (completed p (number hi lo)) e).0
clear_small (two o a b) p e =
    let f = both_none (completed (p + 1) a) _ e in
    let g = both_none (completed (p + 1 + length (written a)) b) _ f.1 in
    (clear_small a (p + 1) f.0, clear_small b (p + 1 + length (written a)) g.0, (none_within (stands p (two o a b) ∷ []) g.1).0)
clear_small (nought a) p e = clear_small a (p + 1) (both_none (completed (p + 1) a) _ e).0
clear_small (choose a b c) p e =
    let i = p + 1 + length (written a) in
    let f = both_none (completed (p + 1) a) _ e in
    let g = both_none (completed i b) _ f.1 in
    let h = both_none (completed (i + length (written b)) c) _ g.1 in
    (clear_small a (p + 1) f.0, clear_small b i g.0, clear_small c (i + length (written b)) h.0)

pub record Accepted (bs : List ℕ) : Type 0 where
  pub short : length bs ≤ longest
  pub tree : Expression
  pub is : bs ≡ written tree ++ []
  pub small : Small tree
  pub clear : first_over (completed 0 tree) ≡ None
  pub reads : reading bs ≡ given tree

abbrev pub checked : Reply Expression → Reply (Unit {0})
checked v = mapped (λ t. tt) v

accepted_over : (bs : List ℕ) (t : Expression) (o : Option ℕ) → length bs ≤ longest → first_over (completed 0 t) ≡ o → bs ≡ written t ++ [] → reading bs ≡ limits t o → given tt ≡ checked (limits t o) → Accepted bs
accepted_over bs t None m o e r h = record { short = m; tree = t; is = e; small = clear_small t 0 o; clear = o; reads = r }
accepted_over bs t (Some p) m o e r h = cc

accepted_front : (bs : List ℕ) (F : Front) → length bs ≤ longest → Agree bs F → reading bs ≡ whole (length bs) F → given tt ≡ checked (whole (length bs) F) → Accepted bs
accepted_front bs (wrong l) m g r h = cc
accepted_front bs (found t []) m g r h = accepted_over bs t (first_over (completed 0 t)) m refl g r h
accepted_front bs (found t (b ∷ q)) m g r h = cc

accepted_length : (bs : List ℕ) (x : Bool) → nat_le (length bs) longest ≡ x → given tt ≡ checked (reading bs) → Accepted bs
unfolding reading
accepted_length bs true e h =
    let m = leb-true (length bs) longest e in
    let r = reading_short bs (front (length bs) bs) m refl in
    accepted_front bs (front (length bs) bs) m (agree (length bs) bs (le_refl (length bs))) r (h ∙ ap checked r)
accepted_length bs false e h =
    let r : reading bs ≡ declined 9 (Some longest) = rw e in
    let f : given tt ≡ checked (declined 9 (Some longest)) = h ∙ ap checked r in
    cc

pub accepted : (bs : List ℕ) → given tt ≡ checked (reading bs) → Accepted bs
accepted bs h = accepted_length bs (nat_le (length bs) longest) refl h

-- ---- what is left is never more than there is

follow : (ss : List Slot) (b : ℕ) (bs : List ℕ) (left : ℕ) (o : Option (List Slot)) → ((new : List Slot) → stuck new bs ≡ Some left → left ≤ length bs) → elim o [ None ↦ Some (length (b ∷ bs)) | Some new ↦ stuck (new ++ ss) bs ] ≡ Some left → left ≤ length (b ∷ bs)
follow ss b bs left None h e = let z : length (b ∷ bs) ≡ left = cc in omega arith
follow ss b bs left (Some new) h e = omega (arith, h (new ++ ss) e)

pub left_least : (ss : List Slot) (bs : List ℕ) (left : ℕ) → stuck ss bs ≡ Some left → left ≤ length bs
left_least [] [] left e = cc
left_least [] (b ∷ bs) left e = let z : length (b ∷ bs) ≡ left = cc in omega arith
left_least (s ∷ ss) [] left e = let z : 0 ≡ left = cc in omega arith
left_least (s ∷ ss) (b ∷ bs) left e = follow ss b bs left (follows s b) (λ new. left_least new bs left) e

-- ---- as check finds them

pub checks : (bs rest : List ℕ) (o : Option ℕ) → Reads bs rest → length rest ≡ 0 → length bs ≤ longest → ((t : Expression) (r : List ℕ) → bs ≡ written t ++ r → first_over (completed 0 t) ≡ o) → (x : Reply (Unit {0})) → ((t : Expression) → checked (limits t o) ≡ x) → x ≡ checked (reading bs)
checks bs [] o r h l f x g =
    sym (ap checked (reading_short bs (found r.tree []) l (found_front bs r.tree [] r.is) ∙ ap (limits r.tree) (f r.tree [] r.is)) ∙ g r.tree)
checks bs (b ∷ rest) o r h l f x g = absurd (omega arith)

pub left_over : (bs rest : List ℕ) → Reads bs rest → 0 < length rest → length bs ≤ longest → reading bs ≡ declined 9 (Some (length bs - length rest))
left_over bs [] r h l = absurd (omega arith)
left_over bs (b ∷ rest) r h l = reading_short bs (found r.tree (b ∷ rest)) l (found_front bs r.tree (b ∷ rest) r.is)

pub goes_wrong : (bs : List ℕ) (left : ℕ) → Stuck bs left → length bs ≤ longest → reading bs ≡ declined 9 (Some (length bs - left))
goes_wrong bs left h l = reading_short bs (wrong left) l (stuck_front bs left h)
