-- The laws of questions that beliefs rest on.
use Rattle.std.proofs.Common.{◌≡◌, ℕ, zero, suc, ◌+◌, ◌*◌, ◌/◌, ◌%◌, ◌<◌, ◌≤◌, Bool, true, false, cond, not, ◌&&◌, ◌||◌, eqb, ltb, nat_le, List, [], ◌∷◌, ◌++◌, length, get_or, ℤ, pos, negsuc, is_some, Some, None, Option, sym, refl, ap, ◌∙◌, subst, inl, inr, add-one, arith, length-take, eq-eqb, eqb-true}
use Rattle.std.proofs.Math.Bool.{or-false}
use Rattle.std.proofs.lemmas.Bool.{and_parts, or_left, or_right, or_cases, cases_eq, false_from_ne_true}
use Rattle.std.proofs.ByRecursion.{All-append}
use Rattle.std.proofs.lemmas.Bool.Decides.{nat_tests}
use Rattle.std.specs.List.{AllByRecursion, list_all, range_with_len}
use Rattle.refusal.specs.Replies.{Reply, given, declined, mapped}
use Rattle.question.specs.declared.checked.Question.{Question}
use Rattle.question.specs.declared.steps.Step.{Step}
use Rattle.question.specs.Expressions.{greatest, longest, limit, Op, less, applied, truth, is_zero, Field, first, second, third, fourth, index, Expression, field, number, two, nought, choose, worth, clamped, mentions}
use Rattle.question.specs.Reading.{field_of, reading}
use Rattle.question.specs.Steps.{step, holds, two_step, simple, stepped, alone, steps, Agree}
use Rattle.question.specs.Questions.{read_or, is_question, value_of, answers, reads_field, is_stepped, steps_of, stepped_as, simple_as, reads_in, all_below, in_span}
use Rattle.question.specs.Texts.{text}
use Rattle.question.proofs.Stepping.{two_as}

pub impossible : {A : Type 0} (b : Bool) → b ≡ false → b ≡ true → A
impossible b p q = cc

pub and_left : (a b : Bool) → (a && b) ≡ true → a ≡ true
and_left a b e = (and_parts a b e).0

pub and_right : (a b : Bool) → (a && b) ≡ true → b ≡ true
and_right a b e = (and_parts a b e).1

-- ---- what was read

-- the expression that a question writes
pub record Asked (q : List ℕ) : Type 0 where
  pub expression : Expression
  pub is : reading q ≡ given expression

asked_by : (q : List ℕ) (r : Reply Expression) → reading q ≡ r → read_or false (λ e. true) r ≡ true → Asked q
asked_by q (given e) r h = record { expression = e; is = r }
asked_by q (declined n p) r h = impossible false refl h

pub asked_as : (q : List ℕ) → is_question q ≡ true → Asked q
unfolding is_question
asked_as q h = asked_by q (reading q) refl h

read_by : (bs : List ℕ) {q : List ℕ} (r : Reply Expression) → given q ≡ mapped (λ e. bs) r → (q ≡ bs) × (read_or false (λ e. true) r ≡ true)
read_by bs {q} (given e) h = (let z : q ≡ bs = cc in z, refl)
read_by bs (declined n p) h = cc

-- bytes that were read are the question's own
pub read_text : (bs : List ℕ) {q : List ℕ} → given q ≡ mapped (λ e. bs) (reading bs) → q ≡ bs
read_text bs h = (read_by bs (reading bs) h).0

pub read_asks : (bs : List ℕ) {q : List ℕ} → given q ≡ mapped (λ e. bs) (reading bs) → is_question bs ≡ true
unfolding is_question
read_asks bs h = (read_by bs (reading bs) h).1

pub read_as : (bs : List ℕ) {q : List ℕ} → given q ≡ mapped (λ e. bs) (reading bs) → Asked bs
read_as bs h = asked_as bs (read_asks bs h)

-- bytes that were refused are so by their reading
refused_by : (bs : List ℕ) {n : ℕ} {p : Option ℕ} (r : Reply Expression) → declined n p ≡ mapped (λ e. bs) r → r ≡ declined n p
refused_by bs (given e) h = cc
refused_by bs {n} {p} (declined m q) h = let y : m ≡ n = cc in let z : q ≡ p = cc in rw (y, z)

pub read_refused : (bs : List ℕ) {n : ℕ} {p : Option ℕ} → declined n p ≡ mapped (λ e. bs) (reading bs) → reading bs ≡ declined n p
read_refused bs h = refused_by bs (reading bs) h

pub refused_asks : (bs : List ℕ) {n : ℕ} {p : Option ℕ} → declined n p ≡ mapped (λ e. bs) (reading bs) → is_question bs ≡ false
unfolding is_question
refused_asks bs h = ap (read_or false (λ e. true)) (read_refused bs h)

-- what a question holds is one
pub text_asks : (q : Question) → is_question (text q) ≡ true
unfolding text
text_asks q = q.asked

pub text_fits : (q : Question) → length (text q) ≤ longest
unfolding text
text_fits q = omega (arith, length-take q.len q.bytes, q.fits)

-- ---- an answer depends on the fields read

worth_local : (e : Expression) (s t : List ℕ) → ((k : ℕ) → mentions k e ≡ true → get_or s k 0 ≡ get_or t k 0) → worth e s ≡ worth e t
worth_local (field k) s t h = ap pos (h (index k) (eq-eqb _ _ refl))
worth_local (number hi lo) s t h = refl
worth_local (two o a b) s t h =
    let x = worth_local a s t (λ k m. h k (or_left _ _ m)) in
    let y = worth_local b s t (λ k m. h k (or_right (mentions k a) _ m)) in
    ap (λ v. applied o v (worth b s)) x ∙ ap (λ v. applied o (worth a t) v) y
worth_local (nought a) s t h = ap (λ v. truth (is_zero v)) (worth_local a s t h)
worth_local (choose a b c) s t h =
    let x = worth_local a s t (λ k m. h k (or_left _ _ m)) in
    let y = worth_local b s t (λ k m. h k (or_right (mentions k a) _ (or_left _ _ m))) in
    let z = worth_local c s t (λ k m. h k (or_right (mentions k a) _ (or_right (mentions k b) _ m))) in
    rw (x, y, z)

local_by : (r : Reply Expression) (s t : List ℕ) → ((k : ℕ) → read_or false (mentions k) r ≡ true → get_or s k 0 ≡ get_or t k 0) → read_or 0 (λ e. clamped (worth e s)) r ≡ read_or 0 (λ e. clamped (worth e t)) r
local_by (given e) s t h = ap clamped (worth_local e s t h)
local_by (declined n p) s t h = refl

pub answers_local : (q s t : List ℕ) → ((k : ℕ) → reads_field q k ≡ true → get_or s k 0 ≡ get_or t k 0) → answers q s ≡ answers q t
unfolding answers reads_field
answers_local q s t h = local_by (reading q) s t h

-- ---- only fields 0 to 3 are read

index_four : (k : Field) → index k < 4
index_four first = omega arith
index_four second = omega arith
index_four third = omega arith
index_four fourth = omega arith

mentions_four : (e : Expression) (k : ℕ) → mentions k e ≡ true → k < 4
mentions_four (field f) k m = let z = eqb-true _ _ m in omega (arith, index_four f)
mentions_four (number hi lo) k m = impossible false refl m
mentions_four (two o a b) k m = elim (or_cases (mentions k a) (mentions k b) m) [ inl x ↦ mentions_four a k x | inr y ↦ mentions_four b k y ]
mentions_four (nought a) k m = mentions_four a k m
mentions_four (choose a b c) k m =
    elim (or_cases (mentions k a) (mentions k b || mentions k c) m) [
      | inl x ↦ mentions_four a k x
      | inr y ↦ elim (or_cases (mentions k b) (mentions k c) y) [ inl v ↦ mentions_four b k v | inr w ↦ mentions_four c k w ]
    ]

four_by : (r : Reply Expression) (k : ℕ) → read_or false (mentions k) r ≡ true → k < 4
four_by (given e) k m = mentions_four e k m
four_by (declined n p) k m = impossible false refl m

pub reads_four : (q : List ℕ) (k : ℕ) → reads_field q k ≡ true → k < 4
unfolding reads_field
reads_four q k m = four_by (reading q) k m

-- ---- an answer is a value cut to the answers' range

value_by : (r : Reply Expression) (s : List ℕ) → read_or 0 (λ e. clamped (worth e s)) r ≡ clamped (read_or (pos 0) (λ e. worth e s) r)
value_by (given e) s = refl
value_by (declined n p) s = refl

pub answers_value : (q s : List ℕ) → answers q s ≡ clamped (value_of q s)
unfolding answers value_of
answers_value q s = value_by (reading q) s

-- ---- answers are at most the greatest

clamped_small : (z : ℤ) → clamped z ≤ greatest
clamped_small (pos n) = omega arith
clamped_small (negsuc n) = omega arith

small_by : (r : Reply Expression) (s : List ℕ) → read_or 0 (λ e. clamped (worth e s)) r ≤ greatest
small_by (given e) s = clamped_small (worth e s)
small_by (declined n p) s = omega arith

pub answers_small : (q s : List ℕ) → answers q s ≤ greatest
unfolding answers
answers_small q s = small_by (reading q) s

-- ---- a simple question

abbrev one : ℕ → ℕ → Expression
one k v = two less (field (field_of k)) (number (v / 256) (v % 256))

reading_step : (k v : ℕ) → k < 4 → v < 65536 → reading (step k v) ≡ given (one k v)
unfolding reading
reading_step zero v h l = let e : nat_le (v / 256 * 256 + v % 256) limit ≡ true = grind (arith, nat_tests) in rw e
reading_step (suc zero) v h l = let e : nat_le (v / 256 * 256 + v % 256) limit ≡ true = grind (arith, nat_tests) in rw e
reading_step (suc (suc zero)) v h l = let e : nat_le (v / 256 * 256 + v % 256) limit ≡ true = grind (arith, nat_tests) in rw e
reading_step (suc (suc (suc zero))) v h l = let e : nat_le (v / 256 * 256 + v % 256) limit ≡ true = grind (arith, nat_tests) in rw e
reading_step (suc (suc (suc (suc k)))) v h l = absurd (omega arith)

index_field : (k : ℕ) → k < 4 → index (field_of k) ≡ k
index_field zero h = refl
index_field (suc zero) h = refl
index_field (suc (suc zero)) h = refl
index_field (suc (suc (suc zero))) h = refl
index_field (suc (suc (suc (suc k)))) h = absurd (omega arith)

-- it reads its field only, and is its one step
pub step_asks : (k v : ℕ) → k < 4 → v < 65536 → is_question (step k v) ≡ true
unfolding is_question
step_asks k v h l = ap (read_or false (λ e. true)) (reading_step k v h l)

pub step_reads : (k v j : ℕ) → k < 4 → v < 65536 → reads_field (step k v) j ≡ eqb k j
unfolding reads_field
step_reads k v j h l =
    ap (read_or false (mentions j)) (reading_step k v h l) ∙ (or-false (eqb (index (field_of k)) j) ∙ ap (λ i. eqb i j) (index_field k h))

pub step_stepped : (k v : ℕ) → k < 4 → v < 65536 → is_stepped (step k v) ≡ true
unfolding is_stepped
step_stepped k v h l = ap (read_or false stepped) (reading_step k v h l)

pub step_steps : (k v : ℕ) → k < 4 → v < 65536 → steps_of (step k v) ≡ record { field = k; bound = v } ∷ []
unfolding steps_of
step_steps k v h l =
    let e : v / 256 * 256 + v % 256 ≡ v = omega arith in
    let i = index_field k h in
    ap (read_or [] steps) (reading_step k v h l) ∙ ap (λ (t : Step). t ∷ []) (λ n. record { field = i n; bound = e n })

pub step_simple : (k v : ℕ) → k < 4 → v < 65536 → simple_as (step k v) ≡ Some (record { field = k; bound = v })
unfolding simple_as
step_simple k v h l =
    let e : v / 256 * 256 + v % 256 ≡ v = omega arith in
    let i = index_field k h in
    ap (read_or None simple) (reading_step k v h l) ∙ ap Some (λ n. record { field = i n; bound = e n })

-- it answers 1 where the field is less than the number, else 0
pub step_answers : (k v : ℕ) (s : List ℕ) → k < 4 → v < 65536 → answers (step k v) s ≡ cond (ltb (get_or s k 0) v) 1 0
unfolding answers
step_answers k v s h l =
    let e : v / 256 * 256 + v % 256 ≡ v = omega arith in
    ap (read_or 0 (λ e. clamped (worth e s))) (reading_step k v h l)
    ∙ ap {B = ℕ} (λ i. clamped (truth (ltb (get_or s i 0) (v / 256 * 256 + v % 256)))) (index_field k h)
    ∙ ap {B = ℕ} (λ n. clamped (truth (ltb (get_or s k 0) n))) e
    ∙ told (ltb (get_or s k 0) v)
  where
    told : (b : Bool) → clamped (truth b) ≡ cond b 1 0
    told true = refl
    told false = refl

-- ---- fields of a span

pub below_at : (n : ℕ) (p : ℕ → Bool) (k : ℕ) → all_below n p ≡ true → k < n → p k ≡ true
unfolding all_below
below_at zero p k e h = absurd (omega arith)
below_at (suc n) p k e h =
    elim (cases_eq k n) [ inl s ↦ ap p s ∙ and_right _ _ e | inr z ↦ below_at n p k (and_left _ _ e) (omega arith) ]

pub all_below_true : (n : ℕ) (p : ℕ → Bool) → ((k : ℕ) → k < n → p k ≡ true) → all_below n p ≡ true
unfolding all_below
all_below_true zero p h = refl
all_below_true (suc n) p h = let a = all_below_true n p (λ k l. h k (omega arith)) in let b = h n (omega arith) in simp (a, b)

-- as a loop over the numbers below n finds it
pub all_more : (n : ℕ) (p : ℕ → Bool) → all_below n p ≡ true → p n ≡ true → all_below (n + 1) p ≡ true
unfolding all_below
all_more n p a b = let e : all_below (suc n) p ≡ true = simp (a, b) in rw add-one e

-- as a walk over the four fields finds it
pub all_four : (p : ℕ → Bool) → list_all p (range_with_len 0 4) ≡ all_below 4 p
unfolding all_below
all_four p = by (p 0) (p 1) (p 2) (p 3)
  where
    by : (a b c d : Bool) → a && (b && (c && (d && true))) ≡ ((a && b) && c) && d
    by a b c d = grind arith

pub all_fails : (n : ℕ) (p : ℕ → Bool) (k : ℕ) → k < n → p k ≡ false → all_below n p ≡ false
all_fails n p k l e = false_from_ne_true (all_below n p) (λ a. impossible {A = ⊥} (p k) e (below_at n p k a l))

implied : (a b : Bool) → a ≡ true → (not a || b) ≡ true → b ≡ true
implied true b e h = h
implied false b e h = cc

implies : (a b : Bool) → (a ≡ true → b ≡ true) → (not a || b) ≡ true
implies true b h = h refl
implies false b h = refl

-- what reads_in says, field by field
pub reads_inside : (f c : ℕ) (q : List ℕ) → reads_in f c q ≡ true → (k : ℕ) → reads_field q k ≡ true → in_span f c k ≡ true
unfolding reads_in
reads_inside f c q e k r = implied _ _ r (below_at 4 _ k e (reads_four q k r))

pub inside_reads : (f c : ℕ) (q : List ℕ) → ((k : ℕ) → reads_field q k ≡ true → in_span f c k ≡ true) → reads_in f c q ≡ true
unfolding reads_in
inside_reads f c q h = all_below_true 4 _ (λ k l. implies _ _ (h k))

-- so an answer to a question that reads only the span depends on the span's fields only
pub answers_span : (f c : ℕ) (q s t : List ℕ) → reads_in f c q ≡ true → ((k : ℕ) → in_span f c k ≡ true → get_or s k 0 ≡ get_or t k 0) → answers q s ≡ answers q t
answers_span f c q s t e h = answers_local q s t (λ k r. h k (reads_inside f c q e k r))

-- a simple question reads only the span where its field lies in it
pub step_inside : (f c k v : ℕ) → k < 4 → v < 65536 → in_span f c k ≡ true → reads_in f c (step k v) ≡ true
step_inside f c k v h l e = inside_reads f c (step k v) (λ j r. ap (in_span f c) (sym (eqb-true k j (sym (step_reads k v j h l) ∙ r))) ∙ e)

pub step_outside : (f c k v : ℕ) → k < 4 → v < 65536 → in_span f c k ≡ false → reads_in f c (step k v) ≡ false
step_outside f c k v h l e = false_from_ne_true (reads_in f c (step k v)) (λ r. impossible {A = ⊥} (in_span f c k) e (reads_inside f c (step k v) r k (step_reads k v k h l ∙ eq-eqb k k refl)))

-- ---- an answer to a stepped question depends on its steps

agree_left : (xs ys : List Step) (s u : List ℕ) → Agree (xs ++ ys) s u → Agree xs s u
agree_left [] ys s u a = tt
agree_left (t ∷ xs) ys s u a = (a.0, agree_left xs ys s u a.1)

agree_right : (xs ys : List Step) (s u : List ℕ) → Agree (xs ++ ys) s u → Agree ys s u
agree_right [] ys s u a = a
agree_right (t ∷ xs) ys s u a = agree_right xs ys s u a.1

-- what an expression that is a step says
two_worth : (o : Op) (a b : Expression) (t : Step) → two_step o a b ≡ Some t → (s u : List ℕ) → holds t s ≡ holds t u → worth (two o a b) s ≡ worth (two o a b) u
two_worth o a b t e s u h =
    let x = two_as o a b t e in
    let i : holds (record { field = index x.k; bound = x.hi * 256 + x.lo }) s ≡ holds (record { field = index x.k; bound = x.hi * 256 + x.lo }) u = subst (λ (v : Step). holds v s ≡ holds v u) x.told h in
    subst (λ d. worth d s ≡ worth d u) (sym x.is) (ap truth i)

two_agree : (o : Op) (a b : Expression) (s u : List ℕ) (t : Option Step) → two_step o a b ≡ t → (is_some t || (stepped a && stepped b)) ≡ true → Agree (alone t (steps a ++ steps b)) s u → (stepped a ≡ true → Agree (steps a) s u → worth a s ≡ worth a u) → (stepped b ≡ true → Agree (steps b) s u → worth b s ≡ worth b u) → worth (two o a b) s ≡ worth (two o a b) u
two_agree o a b s u (Some t) e d g f h = two_worth o a b t e s u g.0
two_agree o a b s u None e d g f h =
    let x = f (and_left _ _ d) (agree_left (steps a) (steps b) s u g) in
    let y = h (and_right (stepped a) _ d) (agree_right (steps a) (steps b) s u g) in
    ap (λ v. applied o v (worth b s)) x ∙ ap (λ v. applied o (worth a u) v) y

worth_agree : (e : Expression) (s u : List ℕ) → stepped e ≡ true → Agree (steps e) s u → worth e s ≡ worth e u
worth_agree (field k) s u d g = impossible false refl d
worth_agree (number hi lo) s u d g = refl
worth_agree (two o a b) s u d g = two_agree o a b s u (two_step o a b) refl d g (worth_agree a s u) (worth_agree b s u)
worth_agree (nought a) s u d g = ap (λ v. truth (is_zero v)) (worth_agree a s u d g)
worth_agree (choose a b c) s u d g =
    let x = worth_agree a s u (and_left _ _ d) (agree_left (steps a) (steps b ++ steps c) s u g) in
    let k = agree_right (steps a) (steps b ++ steps c) s u g in
    let l = and_right (stepped a) _ d in
    let y = worth_agree b s u (and_left _ _ l) (agree_left (steps b) (steps c) s u k) in
    let z = worth_agree c s u (and_right (stepped b) _ l) (agree_right (steps b) (steps c) s u k) in
    rw (x, y, z)

agree_by : (r : Reply Expression) (s u : List ℕ) → read_or false stepped r ≡ true → Agree (read_or [] steps r) s u → read_or 0 (λ e. clamped (worth e s)) r ≡ read_or 0 (λ e. clamped (worth e u)) r
agree_by (given e) s u d g = ap clamped (worth_agree e s u d g)
agree_by (declined n p) s u d g = refl

pub answers_agree : (q s u : List ℕ) → is_stepped q ≡ true → Agree (steps_of q) s u → answers q s ≡ answers q u
unfolding answers is_stepped steps_of
answers_agree q s u d g = agree_by (reading q) s u d g

-- ---- the steps of a question

pub stepped_given : (q : List ℕ) {e : Expression} → reading q ≡ given e → stepped_as q ≡ cond (stepped e) (Some (steps e)) None
unfolding stepped_as is_stepped steps_of
stepped_given q r = ap (λ v. cond (read_or false stepped v) (Some (read_or [] steps v)) None) r

own_some : (b : Bool) (ts : List Step) {us : List Step} → Some us ≡ cond b (Some ts) None → (b ≡ true) × (us ≡ ts)
own_some true ts {us} e = (refl, let z : us ≡ ts = cc in z)
own_some false ts e = cc

own_none : (b : Bool) (ts : List Step) → None ≡ cond b (Some ts) None → b ≡ false
own_none true ts e = cc
own_none false ts e = refl

-- with steps it is stepped, and they are its own; without it is not
pub some_stepped : (q : List ℕ) {ts : List Step} → Some ts ≡ stepped_as q → is_stepped q ≡ true
unfolding stepped_as
some_stepped q e = (own_some (is_stepped q) (steps_of q) e).0

pub some_steps : (q : List ℕ) {ts : List Step} → Some ts ≡ stepped_as q → ts ≡ steps_of q
unfolding stepped_as
some_steps q e = (own_some (is_stepped q) (steps_of q) e).1

pub none_stepped : (q : List ℕ) → None ≡ stepped_as q → is_stepped q ≡ false
unfolding stepped_as
none_stepped q e = own_none (is_stepped q) (steps_of q) e

-- their fields are among the four

two_four : (o : Op) (a b : Expression) (ts : List Step) (u : Option Step) → two_step o a b ≡ u → AllByRecursion (λ t. t.field < 4) ts → AllByRecursion (λ t. t.field < 4) (alone u ts)
two_four o a b ts (Some t) e h = let x = two_as o a b t e in (subst (λ (v : Step). v.field < 4) (sym x.told) (index_four x.k), tt)
two_four o a b ts None e h = h

four_steps : (e : Expression) → AllByRecursion (λ t. t.field < 4) (steps e)
four_steps (field k) = tt
four_steps (number hi lo) = tt
four_steps (two o a b) =
    two_four o a b (steps a ++ steps b) (two_step o a b) refl (All-append (λ t. t.field < 4) (steps a) (steps b) (four_steps a) (four_steps b))
four_steps (nought a) = four_steps a
four_steps (choose a b c) =
    All-append (λ t. t.field < 4) (steps a) (steps b ++ steps c) (four_steps a) (All-append (λ t. t.field < 4) (steps b) (steps c) (four_steps b) (four_steps c))

steps_by : (r : Reply Expression) → AllByRecursion (λ t. t.field < 4) (read_or [] steps r)
steps_by (given e) = four_steps e
steps_by (declined n p) = tt

pub steps_four : (q : List ℕ) → AllByRecursion (λ t. t.field < 4) (steps_of q)
unfolding steps_of
steps_four q = steps_by (reading q)
