-- Checks in their order: what a reply tells of them.
use Rattle.std.proofs.Common.{◌≡◌, ℕ, zero, suc, ◌<◌, Bool, true, false, ◌&&◌, ◌||◌, nat_le, ◌⊎◌, List, length, None, Option, sym, refl, ap, ◌∙◌, inl, inr, ⊎_elim, arith}
use Rattle.std.proofs.lemmas.Bool.{and_from, le-leb, or_cases, or_left, or_right, cases_eq}
use Rattle.refusal.specs.Replies.{Reply, given, declined, and_then, refuse_if}
use Rattle.question.specs.Expressions.{longest, Expression, written}
use Rattle.question.specs.Laws.{Told, asked, long, wrong, over}
use Rattle.question.specs.Reading.{reading}
use Rattle.question.proofs.Laws.{told}
use Rattle.question.proofs.Scan.{some}
use Rattle.history.specs.Judging.{some_below}

-- a reply with a value comes from the next check
pub next : {A : Type 0} (b : Bool) (n : ℕ) (r : Reply A) (y : A) → given y ≡ refuse_if b n r → given y ≡ r
next true n r y e = cc
next false n r y e = e

-- bytes are declined as no question, or for a bound
pub unread : (q : List ℕ) (k : ℕ) (p : Option ℕ) → declined k p ≡ reading q → (k ≡ 9) ⊎ (k ≡ 10)
unread q k p e = by (reading q) e (told q)
  where
    by : (r : Reply Expression) → declined k p ≡ r → Told q r → (k ≡ 9) ⊎ (k ≡ 10)
    by r e (asked t l w b) = cc
    by r e (long l) = inl cc
    by r e (wrong i l w) = inl cc
    by r e (over t i l w b) = inr cc

-- a question has 1 byte, and no more than the most
pub read_size : (q : List ℕ) (t : Expression) → reading q ≡ given t → (nat_le 1 (length q) && nat_le (length q) longest) ≡ true
read_size q t e = by (reading q) e (told q)
  where
    by : (r : Reply Expression) → r ≡ given t → Told q r → (nat_le 1 (length q) && nat_le (length q) longest) ≡ true
    by r e (asked u l w b) = let n = some u in let m : length q ≡ length (written u) = ap length w in and_from (nat_le 1 (length q)) (nat_le (length q) longest) (le-leb 1 (length q) (omega arith)) (le-leb (length q) longest l)
    by r e (long l) = cc
    by r e (wrong i l w) = cc
    by r e (over u i l w b) = cc

-- the checks of a question, by what each says; b, c and t are those of 11, 12 and 14
abbrev pub checked : Reply Expression → Bool → Bool → Bool → ℕ → Reply ℕ
checked o b c t v = and_then o (λ e. refuse_if b 11 (refuse_if c 12 (refuse_if t 14 (given v))))

-- whether a question is answered does not depend on the answer, and neither does the refusal
pub alone : (o : Reply Expression) (b c t : Bool) → ((v : ℕ) → checked o b c t v ≡ given v) ⊎ ((k : ℕ) × (p : Option ℕ) × ((v : ℕ) → checked o b c t v ≡ declined k p))
alone (declined k p) b c t = inr (k, p, λ v. refl)
alone (given e) true c t = inr (11, None, λ v. refl)
alone (given e) false true t = inr (12, None, λ v. refl)
alone (given e) false false true = inr (14, None, λ v. refl)
alone (given e) false false false = inl (λ v. refl)

-- a question that was answered passed every check
pub record Answered (o : Reply Expression) (b t : Bool) (v a : ℕ) : Type 0 where
  pub expression : Expression
  pub reads : o ≡ given expression
  pub room : b ≡ false
  pub silent : t ≡ false
  pub own : a ≡ v

pub answered : (o : Reply Expression) (b c t : Bool) (v a : ℕ) → given a ≡ checked o b c t v → Answered o b t v a
answered (declined k p) b c t v a e = cc
answered (given x) true c t v a e = cc
answered (given x) false true t v a e = cc
answered (given x) false false true v a e = cc
answered (given x) false false false v a e = record { expression = x; reads = refl; room = refl; silent = refl; own = cc }

-- which check refused a question: that of its code, of its bytes, of 11, or one after them, which leaves an entry
pub data Refused (o : Reply Expression) (b : Bool) (k : ℕ) : Type 0 where
  no_code : k ≡ 6 → Refused o b k
  no_question : (k ≡ 9) ⊎ (k ≡ 10) → Refused o b k
  no_room : k ≡ 11 → Refused o b k
  later : (e : Expression) → o ≡ given e → b ≡ false → (k ≡ 12) ⊎ (k ≡ 14) → Refused o b k

pub refused : (o : Reply Expression) (b c t : Bool) (v k : ℕ) (p : Option ℕ) → (declined k p ≡ o → (k ≡ 9) ⊎ (k ≡ 10)) → declined k p ≡ checked o b c t v → Refused o b k
refused (declined i j) b c t v k p u e = no_question (u (cc))
refused (given x) true c t v k p u e = no_room cc
refused (given x) false true t v k p u e = later x refl refl (inl cc)
refused (given x) false false true v k p u e = later x refl refl (inr cc)
refused (given x) false false false v k p u e = cc

-- a test of some number below n
pub some_below_reached : (n : ℕ) (p : ℕ → Bool) → some_below n p ≡ true → (k : ℕ) × (p k ≡ true)
unfolding some_below
some_below_reached zero p h = cc
some_below_reached (suc n) p h = ⊎_elim (λ e. some_below_reached n p e) (λ e. (n, e)) (or_cases (some_below n p) (p n) h)

pub below_some : (n : ℕ) (p : ℕ → Bool) (k : ℕ) → k < n → p k ≡ true → some_below n p ≡ true
unfolding some_below
below_some zero p k l e = absurd (omega arith)
below_some (suc n) p k l e = go (cases_eq k n) (λ m. below_some n p k m e)
  where
    go : (k ≡ n) ⊎ (k ≡ n → ⊥) → (k < n → some_below n p ≡ true) → (some_below n p || p n) ≡ true
    go (inl s) below = or_right (some_below n p) (p n) (ap p (sym s) ∙ e)
    go (inr d) below = or_left (some_below n p) (p n) (below (omega arith))

-- the checks of an enrolment, by what each says
abbrev pub enrolling : Bool → Bool → Bool → Bool → Bool → Bool → Bool → ℕ → Reply ℕ
enrolling a b c d e f g v = refuse_if a 3 (refuse_if b 6 (refuse_if c 7 (refuse_if d 8 (refuse_if e 11 (refuse_if f 13 (refuse_if g 14 (given v)))))))

-- an enrolment that took place passed every check
pub record Cleared (b c d e f g : Bool) : Type 0 where
  pub code : b ≡ false
  pub place : c ≡ false
  pub fit : d ≡ false
  pub room : e ≡ false
  pub whole : f ≡ false
  pub low : g ≡ false

pub cleared : (a b c d e f g : Bool) (v k : ℕ) → given k ≡ enrolling a b c d e f g v → Cleared b c d e f g
cleared true b c d e f g v k i = cc
cleared false true c d e f g v k i = cc
cleared false false true d e f g v k i = cc
cleared false false false true e f g v k i = cc
cleared false false false false true f g v k i = cc
cleared false false false false false true g v k i = cc
cleared false false false false false false true v k i = cc
cleared false false false false false false false v k i = record { code = refl; place = refl; fit = refl; room = refl; whole = refl; low = refl }
