-- The bound of a command from those of its operands.
use Rattle.std.proofs.Common.{◌≡◌, ℕ, ◌+◌, ◌-◌, ◌*◌, ◌<◌, ◌≤◌, max, List, [], ◌∷◌, ◌++◌, length, get_or, Some, Result, Bor, sym, refl, ap, ◌∙◌, subst, arith, length-append}
use Rattle.std.specs.Result.{IsErrAnd, MatchResult}
use Rattle.std.proofs.lemmas.Result.{err_from_is_err_and}
use Rattle.question.specs.Expressions.{limit, Op, Expression, two, nought, choose, written, bound, limited, Placed, stands, completed}
use Rattle.question.specs.Reading.{command, a_field, a_number, a_two, a_nought, a_choose, first_over}
use Rattle.question.specs.Fronts.{Begins, Each, Any, Bounded, Passes}
use Rattle.question.proofs.Operands.{head, tail, tail2, longer, as_one, as_two, as_three, each_one, each_two, each_three, each_field, each_number}
use Rattle.question.proofs.Firsts.{first_none, first_some, here, clear}
use Rattle.question.proofs.Values.{small_bound}

-- an operand's bound within the limit
pub low : (bs : List ℕ) {x : ℕ} {next : List ℕ} → Begins Any bs → Each (Bounded x) bs next → x ≤ limit
low bs r w =
    let b = w.has r.tree r.rest r.is in
    omega (arith, b.is, small_bound r.tree b.small)

-- ---- all operands are clear

pub field_bounded : (bs : List ℕ) → command (head bs) ≡ a_field → Each (Bounded 255) bs (tail (tail bs))
field_bounded bs h = each_field (Bounded 255) bs h (λ k e. record { is = refl; small = omega arith; clear = λ p. refl })

pub number_bounded : (bs : List ℕ) → command (head bs) ≡ a_number → get_or (tail bs) 0 0 ≤ 255 → get_or (tail bs) 1 0 ≤ 255 → Each (Bounded (get_or (tail bs) 0 0 * 256 + get_or (tail bs) 1 0)) bs (tail2 (tail bs))
number_bounded bs h a b =
    let l : get_or (tail bs) 0 0 * 256 + get_or (tail bs) 1 0 ≤ limit = omega arith in
    each_number (Bounded (get_or (tail bs) 0 0 * 256 + get_or (tail bs) 1 0)) bs h (record { is = refl; small = l; clear = λ p. clear _ [] l })

pub one_bounded : (bs : List ℕ) {x : ℕ} {r1 : List ℕ} → command (head bs) ≡ a_nought → Each (Bounded x) (tail bs) r1 → Each (Bounded 1) bs r1
one_bounded bs h w = each_one (Bounded 1) bs h w (λ a b. record { is = refl; small = b.small; clear = λ p. first_none (completed (p + 1) a) _ (b.clear (p + 1)) })

fit : (o : Op) {a b : Expression} {x y : ℕ} → Bounded x a → Bounded y b → limited o x y ≡ bound (two o a b)
fit o {a} {b} {x} {y} p q = ap (λ n. limited o n y) p.is ∙ ap (λ n. limited o (bound a) n) q.is

pub two_bounded : (o : Op) (bs : List ℕ) {x y : ℕ} {r1 r2 : List ℕ} → command (head bs) ≡ a_two o → Each (Bounded x) (tail bs) r1 → Each (Bounded y) r1 r2 → limited o x y ≤ limit → Each (Bounded (limited o x y)) bs r2
two_bounded o bs {x} {y} h w v l =
    each_two (Bounded (limited o x y)) o bs h w v (λ a b p q.
    let e = fit o p q in
    let m : bound (two o a b) ≤ limit = subst (λ n. n ≤ limit) e l in
    record {
      is = e;
      small = (p.small, q.small, m);
      clear = λ i.
          first_none (completed (i + 1) a) _ (p.clear (i + 1))
          ∙ (first_none (completed (i + 1 + length (written a)) b) _ (q.clear (i + 1 + length (written a))) ∙ clear (stands i (two o a b)) [] m);
    })

pub three_bounded : (bs : List ℕ) {x y z : ℕ} {r1 r2 r3 : List ℕ} → command (head bs) ≡ a_choose → Each (Bounded x) (tail bs) r1 → Each (Bounded y) r1 r2 → Each (Bounded z) r2 r3 → Each (Bounded (max y z)) bs r3
three_bounded bs {x} {y} {z} h w v u =
    each_three (Bounded (max y z)) bs h w v u (λ a b c p q r.
    let m : max (bound b) (bound c) ≤ limit = omega (arith, small_bound b q.small, small_bound c r.small) in
    record {
      is = ap (λ n. max n z) q.is ∙ ap (λ n. max (bound b) n) r.is;
      small = (p.small, q.small, r.small);
      clear = λ i.
          first_none (completed (i + 1) a) _ (p.clear (i + 1))
          ∙ (first_none (completed (i + 1 + length (written a)) b) _ (q.clear (i + 1 + length (written a)))
          ∙ (first_none (completed (i + 1 + length (written a) + length (written b)) c) _ (r.clear (i + 1 + length (written a) + length (written b))) ∙ clear (stands i (choose a b c)) [] m));
    })

-- ---- an operand passes the limit

-- where the bound of an operand has failed
pub failed : (bs : List ℕ) {left : ℕ} (r : Result (ℕ × Bor (List ℕ)) ℕ) → IsErrAnd r (λ e. e ≡ left) → Passes bs left → MatchResult r (λ x. Each (Bounded x.0) bs x.1.now) (λ left. Passes bs left)
failed bs r h s = let p = err_from_is_err_and r h in rw (p.1, p.2) s

-- the place of an expression, as a property
abbrev Over : ℕ → ℕ → Expression → Type 0
Over q p t = first_over (completed p t) ≡ Some q

-- an operand of t that stands at r1, of which the place is the place of t
record Inner (t : Expression) (bs r1 : List ℕ) : Type 0 where
  u : Expression
  next : List ℕ
  is : r1 ≡ written u ++ next
  leads : (p q : ℕ) → Over q (p + (length bs - length r1)) u → Over q p t

pass_on : (bs r1 : List ℕ) {left : ℕ} → length r1 ≤ length bs → ((t : Expression) (rest : List ℕ) → bs ≡ written t ++ rest → Inner t bs r1) → Passes r1 left → Passes bs left
pass_on bs r1 {left} l f w =
    record {
      place = λ t rest e p.
          let o = f t rest e in
          let g : (p + (length bs - length r1)) + (length r1 - left) ≡ p + (length bs - left) = omega (arith, w.within) in
          o.leads p (p + (length bs - left)) (w.place o.u o.next o.is (p + (length bs - length r1)) ∙ ap Some g);
      within = omega (arith, w.within);
    }

moved : (u : Expression) {x y q : ℕ} → x ≡ y → Over q x u → Over q y u
moved u {q = q} e g = subst (λ z. Over q z u) e g

-- the first operand of an expression, and the second: what is completed begins with them
record Led (t : Expression) (bs : List ℕ) : Type 0 where
  a : Expression
  next : List ℕ
  after : tail bs ≡ written a ++ next
  ends : ℕ → List Placed
  is : (p : ℕ) → completed p t ≡ completed (p + 1) a ++ ends p

record Followed (t : Expression) (bs : List ℕ) : Type 0 where
  a : Expression
  b : Expression
  next : List ℕ
  after : tail bs ≡ written a ++ (written b ++ next)
  ends : ℕ → List Placed
  is : (p : ℕ) → completed p t ≡ completed (p + 1) a ++ (completed (p + 1 + length (written a)) b ++ ends p)

pass_first : (bs : List ℕ) {left : ℕ} → length bs ≡ length (tail bs) + 1 → ((t : Expression) (rest : List ℕ) → bs ≡ written t ++ rest → Led t bs) → Passes (tail bs) left → Passes bs left
pass_first bs n f w =
    pass_on bs (tail bs) (omega arith) (λ t rest e.
    let k = f t rest e in
    record {
      u = k.a;
      next = k.next;
      is = k.after;
      leads = λ p q g.
          let m : p + (length bs - length (tail bs)) ≡ p + 1 = omega arith in
          ap first_over (k.is p) ∙ first_some (completed (p + 1) k.a) _ (moved k.a m g);
    }) w

pass_second : (bs : List ℕ) {x : ℕ} {r1 : List ℕ} {left : ℕ} → length bs ≡ length (tail bs) + 1 → ((t : Expression) (rest : List ℕ) → bs ≡ written t ++ rest → Followed t bs) → Each (Bounded x) (tail bs) r1 → length r1 < length bs → Passes r1 left → Passes bs left
pass_second bs {x} {r1} n f v d w =
    pass_on bs r1 (omega arith) (λ t rest e.
    let k = f t rest e in
    let R = written k.b ++ k.next in
    let s = v.behind k.a R k.after in
    let l = ap length k.after ∙ length-append (written k.a) R in
    record {
      u = k.b;
      next = k.next;
      is = s;
      leads = λ p q g.
          let m : p + (length bs - length r1) ≡ p + 1 + length (written k.a) = omega (arith, ap length s) in
          let c = (v.has k.a R k.after).clear (p + 1) in
          ap first_over (k.is p)
          ∙ (first_none (completed (p + 1) k.a) _ c ∙ first_some (completed (p + 1 + length (written k.a)) k.b) _ (moved k.b m g));
    }) w

one_led : (bs : List ℕ) → command (head bs) ≡ a_nought → (t : Expression) (rest : List ℕ) → bs ≡ written t ++ rest → Led t bs
one_led bs h t rest e =
    let k = as_one t bs rest h e in
    record { a = k.a; next = rest; after = k.after; ends = λ p. stands p (nought k.a) ∷ []; is = λ p. ap (completed p) k.is }

two_followed : (o : Op) (bs : List ℕ) → command (head bs) ≡ a_two o → (t : Expression) (rest : List ℕ) → bs ≡ written t ++ rest → Followed t bs
two_followed o bs h t rest e =
    let k = as_two o t bs rest h e in
    record { a = k.a; b = k.b; next = rest; after = k.after; ends = λ p. stands p (two o k.a k.b) ∷ []; is = λ p. ap (completed p) k.is }

three_followed : (bs : List ℕ) → command (head bs) ≡ a_choose → (t : Expression) (rest : List ℕ) → bs ≡ written t ++ rest → Followed t bs
three_followed bs h t rest e =
    let k = as_three t bs rest h e in
    record {
      a = k.a;
      b = k.b;
      next = written k.c ++ rest;
      after = k.after;
      ends = λ p. completed (p + 1 + length (written k.a) + length (written k.b)) k.c ++ (stands p (choose k.a k.b k.c) ∷ []);
      is = λ p. ap (completed p) k.is;
    }

led : {t : Expression} {bs : List ℕ} → Followed t bs → Led t bs
led k = record { a = k.a; next = written k.b ++ k.next; after = k.after; ends = λ p. completed (p + 1 + length (written k.a)) k.b ++ k.ends p; is = k.is }

pub pass_one : (bs : List ℕ) {left : ℕ} → command (head bs) ≡ a_nought → Passes (tail bs) left → Passes bs left
pass_one bs h w = pass_first bs (longer bs h refl) (one_led bs h) w

pub pass_two : (o : Op) (bs : List ℕ) {left : ℕ} → command (head bs) ≡ a_two o → Passes (tail bs) left → Passes bs left
pass_two o bs h w = pass_first bs (longer bs h refl) (λ t rest e. led (two_followed o bs h t rest e)) w

pub pass_two_2 : (o : Op) (bs : List ℕ) {x : ℕ} {r1 : List ℕ} {left : ℕ} → command (head bs) ≡ a_two o → Each (Bounded x) (tail bs) r1 → length r1 < length bs → Passes r1 left → Passes bs left
pass_two_2 o bs h v d w = pass_second bs (longer bs h refl) (two_followed o bs h) v d w

pub pass_here : (o : Op) (bs : List ℕ) {x y : ℕ} {r1 r2 : List ℕ} → command (head bs) ≡ a_two o → Each (Bounded x) (tail bs) r1 → Each (Bounded y) r1 r2 → limit < limited o x y → Passes bs (length bs)
pass_here o bs {x} {y} h w v l =
    record {
      place = λ t rest e p.
          let k = as_two o t bs rest h e in
          let s = w.behind k.a (written k.b ++ rest) k.after in
          let a = w.has k.a (written k.b ++ rest) k.after in
          let b = v.has k.b rest s in
          let m : limit < bound (two o k.a k.b) = subst (λ n. limit < n) (fit o a b) l in
          let g : p ≡ p + (length bs - length bs) = omega arith in
          subst (Over (p + (length bs - length bs)) p) (sym k.is) (
          first_none (completed (p + 1) k.a) _ (a.clear (p + 1))
          ∙ (first_none (completed (p + 1 + length (written k.a)) k.b) _ (b.clear (p + 1 + length (written k.a)))
          ∙ (here (stands p (two o k.a k.b)) [] m ∙ ap Some g)));
      within = omega arith;
    }

pub pass_three : (bs : List ℕ) {left : ℕ} → command (head bs) ≡ a_choose → Passes (tail bs) left → Passes bs left
pass_three bs h w = pass_first bs (longer bs h refl) (λ t rest e. led (three_followed bs h t rest e)) w

pub pass_three_2 : (bs : List ℕ) {x : ℕ} {r1 : List ℕ} {left : ℕ} → command (head bs) ≡ a_choose → Each (Bounded x) (tail bs) r1 → length r1 < length bs → Passes r1 left → Passes bs left
pass_three_2 bs h v d w = pass_second bs (longer bs h refl) (three_followed bs h) v d w

pub pass_three_3 : (bs : List ℕ) {x y : ℕ} {r1 r2 : List ℕ} {left : ℕ} → command (head bs) ≡ a_choose → Each (Bounded x) (tail bs) r1 → Each (Bounded y) r1 r2 → length r2 < length bs → Passes r2 left → Passes bs left
pass_three_3 bs {x} {y} {r1} {r2} h v u d w =
    let n = longer bs h refl in
    pass_on bs r2 (omega arith) (λ t rest e.
    let k = as_three t bs rest h e in
    let R = written k.b ++ (written k.c ++ rest) in
    let s = v.behind k.a R k.after in
    let s2 = u.behind k.b (written k.c ++ rest) s in
    let l = ap length k.after ∙ length-append (written k.a) R in
    let l2 = length-append (written k.b) (written k.c ++ rest) in
    record {
      u = k.c;
      next = rest;
      is = s2;
      leads = λ p q g.
          let i = p + 1 + length (written k.a) in
          let m : p + (length bs - length r2) ≡ i + length (written k.b) = omega (arith, ap length s2) in
          let c = (v.has k.a R k.after).clear (p + 1) in
          let d = (u.has k.b (written k.c ++ rest) s).clear i in
          subst (Over q p) (sym k.is) (
          first_none (completed (p + 1) k.a) _ c
          ∙ (first_none (completed i k.b) _ d ∙ first_some (completed (i + length (written k.b)) k.c) _ (moved k.c m g)));
    }) w
