-- The expression at the front of some bytes, by its command.
use Rattle.std.proofs.Common.{◌≡◌, ℕ, suc, ◌+◌, ◌-◌, ◌<◌, ◌≤◌, Bool, true, false, eqb, List, [], ◌∷◌, ◌++◌, length, get_or, take, drop, sym, refl, ap, ◌∙◌, subst, append_assoc, arith, length-append, take_all}
use Rattle.question.specs.Expressions.{Op, plus, minus, times, less, equal, and, or, Field, first, second, third, fourth, index, Expression, field, number, two, nought, choose, written, sign}
use Rattle.question.specs.Reading.{Command, a_field, a_number, a_two, a_nought, a_choose, unknown, command}
use Rattle.question.specs.Fronts.{Begins, Each}

-- ---- bytes as a slice pattern takes them apart

abbrev pub head : List ℕ → ℕ
head bs = get_or bs 0 0

abbrev pub tail : List ℕ → List ℕ
tail bs = take (length bs - 1) (drop 1 bs)

abbrev pub tail2 : List ℕ → List ℕ
tail2 bs = take (length bs - 2) (drop 2 bs)

abbrev pub tail3 : List ℕ → List ℕ
tail3 bs = take (length bs - 3) (drop 3 bs)

pub tail_cons : (b : ℕ) (bs : List ℕ) → tail (b ∷ bs) ≡ bs
tail_cons b bs = take_all (length (b ∷ bs) - 1) bs (omega arith)

pub tail2_cons : (x y : ℕ) (bs : List ℕ) → tail2 (x ∷ y ∷ bs) ≡ bs
tail2_cons x y bs = take_all (length (x ∷ y ∷ bs) - 2) bs (omega arith)

pub tail_tail : (bs : List ℕ) → tail (tail bs) ≡ tail2 bs
tail_tail [] = refl
tail_tail (x ∷ xs) = ap tail (tail_cons x xs) ∙ ap (λ n. take n (drop 1 xs)) (omega arith)

pub tail2_tail : (bs : List ℕ) → tail2 (tail bs) ≡ tail3 bs
tail2_tail [] = refl
tail2_tail (x ∷ xs) = ap tail2 (tail_cons x xs) ∙ ap (λ n. take n (drop 2 xs)) (omega arith)

pub tail_at : (bs : List ℕ) (i : ℕ) → get_or (tail bs) i 0 ≡ get_or bs (suc i) 0
tail_at [] i = refl
tail_at (x ∷ xs) i = ap (λ r. get_or r i 0) (tail_cons x xs)

pub opened : (bs : List ℕ) → 1 ≤ length bs → bs ≡ head bs ∷ tail bs
opened [] h = absurd (omega arith)
opened (x ∷ xs) h = ap (λ r. x ∷ r) (sym (tail_cons x xs))

pub opened2 : (bs : List ℕ) → 2 ≤ length bs → bs ≡ get_or bs 0 0 ∷ get_or bs 1 0 ∷ tail2 bs
opened2 [] h = absurd (omega arith)
opened2 (x ∷ []) h = absurd (omega arith)
opened2 (x ∷ y ∷ xs) h = ap (λ r. x ∷ y ∷ r) (sym (tail2_cons x y xs))

-- ---- commands

abbrev pub known : Command → Bool
known a_field = true
known a_number = true
known (a_two o) = true
known a_nought = true
known a_choose = true
known unknown = false

pub of_sign : (o : Op) → command (sign o) ≡ a_two o
of_sign plus = refl
of_sign minus = refl
of_sign times = refl
of_sign less = refl
of_sign equal = refl
of_sign and = refl
of_sign or = refl

-- no sign is an f or a c
pub sign_apart : (o : Op) → (eqb (sign o) 102 ≡ false) × (eqb (sign o) 99 ≡ false)
sign_apart plus = (refl, refl)
sign_apart minus = (refl, refl)
sign_apart times = (refl, refl)
sign_apart less = (refl, refl)
sign_apart equal = (refl, refl)
sign_apart and = (refl, refl)
sign_apart or = (refl, refl)

-- bytes with a command in front are that byte and the rest
pub begun : (bs : List ℕ) {k : Command} → command (head bs) ≡ k → known k ≡ true → bs ≡ head bs ∷ tail bs
begun [] {k} h g = cc (ap known h)
begun (x ∷ xs) h g = opened (x ∷ xs) (omega arith)

pub longer : (bs : List ℕ) {k : Command} → command (head bs) ≡ k → known k ≡ true → length bs ≡ length (tail bs) + 1
longer bs h g = omega (arith, ap length (begun bs h g))

abbrev shape : Expression → Command
shape (field k) = a_field
shape (number hi lo) = a_number
shape (two o a b) = a_two o
shape (nought a) = a_nought
shape (choose a b c) = a_choose

shaped : (t : Expression) (rest : List ℕ) → command (head (written t ++ rest)) ≡ shape t
shaped (field k) rest = refl
shaped (number hi lo) rest = refl
shaped (two o a b) rest = of_sign o
shaped (nought a) rest = refl
shaped (choose a b c) rest = refl

shape_known : (t : Expression) → known (shape t) ≡ true
shape_known (field k) = refl
shape_known (number hi lo) = refl
shape_known (two o a b) = refl
shape_known (nought a) = refl
shape_known (choose a b c) = refl

pub at_shape : (t : Expression) (bs rest : List ℕ) {k : Command} → command (head bs) ≡ k → bs ≡ written t ++ rest → shape t ≡ k
at_shape t bs rest h e = sym (ap (λ x. command (head x)) e ∙ shaped t rest) ∙ h

-- ---- the expression, by its command

pub record AField (t : Expression) (bs rest : List ℕ) : Type 0 where
  pub k : Field
  pub is : t ≡ field k
  pub after : tail bs ≡ index k ∷ rest

pub as_field : (t : Expression) (bs rest : List ℕ) → command (head bs) ≡ a_field → bs ≡ written t ++ rest → AField t bs rest
as_field (field k) bs rest h e = record { k = k; is = refl; after = ap tail e ∙ tail_cons 102 (index k ∷ rest) }
as_field (number hi lo) bs rest h e = cc (at_shape (number hi lo) bs rest h e)
as_field (two o a b) bs rest h e = cc (at_shape (two o a b) bs rest h e)
as_field (nought a) bs rest h e = cc (at_shape (nought a) bs rest h e)
as_field (choose a b c) bs rest h e = cc (at_shape (choose a b c) bs rest h e)

pub record ANumber (t : Expression) (bs rest : List ℕ) : Type 0 where
  pub hi : ℕ
  pub lo : ℕ
  pub is : t ≡ number hi lo
  pub after : tail bs ≡ hi ∷ lo ∷ rest

pub as_number : (t : Expression) (bs rest : List ℕ) → command (head bs) ≡ a_number → bs ≡ written t ++ rest → ANumber t bs rest
as_number (number hi lo) bs rest h e = record { hi = hi; lo = lo; is = refl; after = ap tail e ∙ tail_cons 99 (hi ∷ lo ∷ rest) }
as_number (field k) bs rest h e = cc (at_shape (field k) bs rest h e)
as_number (two o a b) bs rest h e = cc (at_shape (two o a b) bs rest h e)
as_number (nought a) bs rest h e = cc (at_shape (nought a) bs rest h e)
as_number (choose a b c) bs rest h e = cc (at_shape (choose a b c) bs rest h e)

pub record One (t : Expression) (bs rest : List ℕ) : Type 0 where
  pub a : Expression
  pub is : t ≡ nought a
  pub after : tail bs ≡ written a ++ rest

pub as_one : (t : Expression) (bs rest : List ℕ) → command (head bs) ≡ a_nought → bs ≡ written t ++ rest → One t bs rest
as_one (nought a) bs rest h e = record { a = a; is = refl; after = ap tail e ∙ tail_cons 33 (written a ++ rest) }
as_one (field k) bs rest h e = cc (at_shape (field k) bs rest h e)
as_one (number hi lo) bs rest h e = cc (at_shape (number hi lo) bs rest h e)
as_one (two o a b) bs rest h e = cc (at_shape (two o a b) bs rest h e)
as_one (choose a b c) bs rest h e = cc (at_shape (choose a b c) bs rest h e)

pub record Two (o : Op) (t : Expression) (bs rest : List ℕ) : Type 0 where
  pub a : Expression
  pub b : Expression
  pub is : t ≡ two o a b
  pub after : tail bs ≡ written a ++ (written b ++ rest)

pub as_two : (o : Op) (t : Expression) (bs rest : List ℕ) → command (head bs) ≡ a_two o → bs ≡ written t ++ rest → Two o t bs rest
as_two o (two p a b) bs rest h e =
    let q : p ≡ o = cc (at_shape (two p a b) bs rest h e) in
    record {
      a = a;
      b = b;
      is = ap (λ x. two x a b) q;
      after = ap tail e ∙ (tail_cons (sign p) ((written a ++ written b) ++ rest) ∙ append_assoc (written a) (written b) rest);
    }
as_two o (field k) bs rest h e = cc (at_shape (field k) bs rest h e)
as_two o (number hi lo) bs rest h e = cc (at_shape (number hi lo) bs rest h e)
as_two o (nought a) bs rest h e = cc (at_shape (nought a) bs rest h e)
as_two o (choose a b c) bs rest h e = cc (at_shape (choose a b c) bs rest h e)

pub record Three (t : Expression) (bs rest : List ℕ) : Type 0 where
  pub a : Expression
  pub b : Expression
  pub c : Expression
  pub is : t ≡ choose a b c
  pub after : tail bs ≡ written a ++ (written b ++ (written c ++ rest))

pub as_three : (t : Expression) (bs rest : List ℕ) → command (head bs) ≡ a_choose → bs ≡ written t ++ rest → Three t bs rest
as_three (choose a b c) bs rest h e =
    record { a = a; b = b; c = c; is = refl; after = ap tail e ∙ (tail_cons 63 ((written a ++ (written b ++ written c)) ++ rest) ∙ simp append_assoc) }
as_three (field k) bs rest h e = cc (at_shape (field k) bs rest h e)
as_three (number hi lo) bs rest h e = cc (at_shape (number hi lo) bs rest h e)
as_three (two o a b) bs rest h e = cc (at_shape (two o a b) bs rest h e)
as_three (nought a) bs rest h e = cc (at_shape (nought a) bs rest h e)

-- ---- what begins here, begins so at each operand

-- the bytes of an operand: fewer than those of the whole
pub record Operand (P : Expression → Type 0) (bs next : List ℕ) : Type 0 where
  pub begins : Begins P next
  pub fewer : length next < length bs

pub operand_one : {P Q : Expression → Type 0} (bs : List ℕ) → command (head bs) ≡ a_nought → Begins P bs → ((a : Expression) → P (nought a) → Q a) → Operand Q bs (tail bs)
operand_one {P} bs h r f =
    let p = as_one r.tree bs r.rest h r.is in
    record { begins = record { tree = p.a; rest = r.rest; is = p.after; has = f p.a (subst P p.is r.has) }; fewer = omega (arith, longer bs h refl) }

pub operand_two : {P Q : Expression → Type 0} (o : Op) (bs : List ℕ) → command (head bs) ≡ a_two o → Begins P bs → ((a b : Expression) → P (two o a b) → Q a) → Operand Q bs (tail bs)
operand_two {P} o bs h r f =
    let p = as_two o r.tree bs r.rest h r.is in
    record {
      begins = record { tree = p.a; rest = written p.b ++ r.rest; is = p.after; has = f p.a p.b (subst P p.is r.has) };
      fewer = omega (arith, longer bs h refl);
    }

pub operand_two_2 : {P Q R : Expression → Type 0} (o : Op) (bs : List ℕ) {r1 : List ℕ} → command (head bs) ≡ a_two o → Begins P bs → Each R (tail bs) r1 → ((a b : Expression) → P (two o a b) → Q b) → Operand Q bs r1
operand_two_2 {P} o bs h r w f =
    let p = as_two o r.tree bs r.rest h r.is in
    let q = w.behind p.a (written p.b ++ r.rest) p.after in
    record {
      begins = record { tree = p.b; rest = r.rest; is = q; has = f p.a p.b (subst P p.is r.has) };
      fewer = omega (arith, longer bs h refl, ap length q, ap length p.after ∙ length-append (written p.a) (written p.b ++ r.rest));
    }

pub operand_three : {P Q : Expression → Type 0} (bs : List ℕ) → command (head bs) ≡ a_choose → Begins P bs → ((a b c : Expression) → P (choose a b c) → Q a) → Operand Q bs (tail bs)
operand_three {P} bs h r f =
    let p = as_three r.tree bs r.rest h r.is in
    record {
      begins = record { tree = p.a; rest = written p.b ++ (written p.c ++ r.rest); is = p.after; has = f p.a p.b p.c (subst P p.is r.has) };
      fewer = omega (arith, longer bs h refl);
    }

pub operand_three_2 : {P Q R : Expression → Type 0} (bs : List ℕ) {r1 : List ℕ} → command (head bs) ≡ a_choose → Begins P bs → Each R (tail bs) r1 → ((a b c : Expression) → P (choose a b c) → Q b) → Operand Q bs r1
operand_three_2 {P} bs h r w f =
    let p = as_three r.tree bs r.rest h r.is in
    let rest = written p.b ++ (written p.c ++ r.rest) in
    let q = w.behind p.a rest p.after in
    record {
      begins = record { tree = p.b; rest = written p.c ++ r.rest; is = q; has = f p.a p.b p.c (subst P p.is r.has) };
      fewer = omega (arith, longer bs h refl, ap length q, ap length p.after ∙ length-append (written p.a) rest);
    }

pub operand_three_3 : {P Q R S : Expression → Type 0} (bs : List ℕ) {r1 r2 : List ℕ} → command (head bs) ≡ a_choose → Begins P bs → Each R (tail bs) r1 → Each S r1 r2 → ((a b c : Expression) → P (choose a b c) → Q c) → Operand Q bs r2
operand_three_3 {P} bs h r w v f =
    let p = as_three r.tree bs r.rest h r.is in
    let last = written p.c ++ r.rest in
    let rest = written p.b ++ last in
    let q = v.behind p.b last (w.behind p.a rest p.after) in
    record {
      begins = record { tree = p.c; rest = r.rest; is = q; has = f p.a p.b p.c (subst P p.is r.has) };
      fewer = omega (arith, longer bs h refl, ap length q, ap length p.after ∙ length-append (written p.a) rest, length-append (written p.b) last);
    }

-- ---- what each operand has makes what the whole has

pub each_one : {P : Expression → Type 0} (Q : Expression → Type 0) (bs : List ℕ) {r1 : List ℕ} → command (head bs) ≡ a_nought → Each P (tail bs) r1 → ((a : Expression) → P a → Q (nought a)) → Each Q bs r1
each_one Q bs h w f =
    record {
      has = λ t rest e. let p = as_one t bs rest h e in subst Q (sym p.is) (f p.a (w.has p.a rest p.after));
      behind = λ t rest e. let p = as_one t bs rest h e in w.behind p.a rest p.after;
    }

pub each_two : {P R : Expression → Type 0} (Q : Expression → Type 0) (o : Op) (bs : List ℕ) {r1 r2 : List ℕ} → command (head bs) ≡ a_two o → Each P (tail bs) r1 → Each R r1 r2 → ((a b : Expression) → P a → R b → Q (two o a b)) → Each Q bs r2
each_two Q o bs h w v f =
    record {
      has = λ t rest e.
          let p = as_two o t bs rest h e in
          let q = w.behind p.a (written p.b ++ rest) p.after in
          subst Q (sym p.is) (f p.a p.b (w.has p.a (written p.b ++ rest) p.after) (v.has p.b rest q));
      behind = λ t rest e.
          let p = as_two o t bs rest h e in
          v.behind p.b rest (w.behind p.a (written p.b ++ rest) p.after);
    }

pub each_three : {P R S : Expression → Type 0} (Q : Expression → Type 0) (bs : List ℕ) {r1 r2 r3 : List ℕ} → command (head bs) ≡ a_choose → Each P (tail bs) r1 → Each R r1 r2 → Each S r2 r3 → ((a b c : Expression) → P a → R b → S c → Q (choose a b c)) → Each Q bs r3
each_three Q bs h w v u f =
    record {
      has = λ t rest e.
          let p = as_three t bs rest h e in
          let q = w.behind p.a (written p.b ++ (written p.c ++ rest)) p.after in
          let s = v.behind p.b (written p.c ++ rest) q in
          subst Q (sym p.is) (f p.a p.b p.c (w.has p.a (written p.b ++ (written p.c ++ rest)) p.after) (v.has p.b (written p.c ++ rest) q) (u.has p.c rest s));
      behind = λ t rest e.
          let p = as_three t bs rest h e in
          let q = w.behind p.a (written p.b ++ (written p.c ++ rest)) p.after in
          u.behind p.c rest (v.behind p.b (written p.c ++ rest) q);
    }

pub each_field : (Q : Expression → Type 0) (bs : List ℕ) → command (head bs) ≡ a_field → ((k : Field) → index k ≡ head (tail bs) → Q (field k)) → Each Q bs (tail (tail bs))
each_field Q bs h f =
    record {
      has = λ t rest e. let p = as_field t bs rest h e in subst Q (sym p.is) (f p.k (sym (ap head p.after)));
      behind = λ t rest e. let p = as_field t bs rest h e in ap tail p.after ∙ tail_cons (index p.k) rest;
    }

pub each_number : (Q : Expression → Type 0) (bs : List ℕ) → command (head bs) ≡ a_number → Q (number (get_or (tail bs) 0 0) (get_or (tail bs) 1 0)) → Each Q bs (tail2 (tail bs))
each_number Q bs h f =
    record {
      has = λ t rest e.
          let p = as_number t bs rest h e in
          let x : get_or (tail bs) 0 0 ≡ p.hi = ap (λ x. get_or x 0 0) p.after in
          let y : get_or (tail bs) 1 0 ≡ p.lo = ap (λ x. get_or x 1 0) p.after in
          subst Q (cc) f;
      behind = λ t rest e. let p = as_number t bs rest h e in ap tail2 p.after ∙ tail2_cons p.hi p.lo rest;
    }

-- ---- bytes with an expression in front have a command there, and its fixed operands

index_low : (k : Field) → index k ≤ 3
index_low first = omega arith
index_low second = omega arith
index_low third = omega arith
index_low fourth = omega arith

pub record Fair (bs : List ℕ) : Type 0 where
  pub some : 1 ≤ length bs
  pub knows : command (head bs) ≡ unknown → ⊥
  pub one : command (head bs) ≡ a_field → 1 ≤ length (tail bs)
  pub low : command (head bs) ≡ a_field → head (tail bs) ≤ 3
  pub both : command (head bs) ≡ a_number → 2 ≤ length (tail bs)

pub fair : {P : Expression → Type 0} (bs : List ℕ) → Begins P bs → Fair bs
fair bs r =
    let s = at_shape r.tree bs r.rest refl r.is in
    record {
      some = omega (arith, longer bs (sym s) (shape_known r.tree));
      knows = λ h. cc (shape_known r.tree, ap known (s ∙ h));
      one = λ h. let p = as_field r.tree bs r.rest h r.is in omega (arith, ap length p.after);
      low = λ h. let p = as_field r.tree bs r.rest h r.is in omega (arith, ap head p.after, index_low p.k);
      both = λ h. let p = as_number r.tree bs r.rest h r.is in omega (arith, ap length p.after);
    }
