-- What the scan of slots does on the bytes of an expression.
use Rattle.std.proofs.Common.{◌≡◌, ℕ, zero, suc, ◌<◌, ◌≤◌, Bool, true, false, eqb, List, ◌∷◌, ◌++◌, length, get_or, Some, None, Ok, Err, Result, sym, refl, ap, ◌∙◌, subst, inl, inr, append_assoc, arith, Bor, MatchResult}
use Rattle.std.specs.Result.{IsErrAnd}
use Rattle.std.proofs.lemmas.Result.{err_from_is_err_and}
use Rattle.std.proofs.lemmas.Bool.{cases_eq, ne_eqb}
use Rattle.question.specs.Expressions.{Op, Field, first, second, third, fourth, index, Expression, field, number, two, nought, choose, written, sign}
use Rattle.question.specs.Reading.{Command, a_field, a_number, a_two, a_nought, a_choose, unknown, command}
use Rattle.question.specs.Fronts.{Slot, question, wants, stuck, Stuck, Reads, is_sign}
use Rattle.question.proofs.Operands.{head, tail, tail2, known, of_sign, opened, opened2, begun}

-- ---- a command's byte

abbrev pub letter : Command → ℕ
letter a_field = 102
letter a_number = 99
letter (a_two o) = sign o
letter a_nought = 33
letter a_choose = 63
letter unknown = 0

try : (b n : ℕ) {k : Command} → command b ≡ k → n ≡ letter (command n) → (eqb b n ≡ false → b ≡ letter k) → b ≡ letter k
try b n h g f = elim (cases_eq b n) [ inl e ↦ e ∙ (g ∙ ap letter (sym (ap command e) ∙ h)) | inr z ↦ f (ne_eqb b n z) ]

pub spelt : (b : ℕ) (k : Command) → command b ≡ k → known k ≡ true → b ≡ letter k
spelt b k h g =
    try b 102 h refl (λ z0.
    try b 99 h refl (λ z1.
    try b 43 h refl (λ z2.
    try b 45 h refl (λ z3.
    try b 42 h refl (λ z4.
    try b 60 h refl (λ z5.
    try b 61 h refl (λ z6.
    try b 38 h refl (λ z7.
    try b 124 h refl (λ z8.
    try b 33 h refl (λ z9.
    try b 63 h refl (λ z10.
    let u : command b ≡ unknown = rw (z0, z1, z2, z3, z4, z5, z6, z7, z8, z9, z10) in
    cc (ap known (sym u ∙ h)))))))))))))

-- a byte with none of the other commands that is no sign either is no command
pub no_command : (b : ℕ) (k : Command) → command b ≡ k → is_sign (command b) ≡ false → (b ≡ 102 → ⊥) → (b ≡ 99 → ⊥) → (b ≡ 33 → ⊥) → (b ≡ 63 → ⊥) → command b ≡ unknown
no_command b a_field e s f n o c = absurd (f (spelt b a_field e refl))
no_command b a_number e s f n o c = absurd (n (spelt b a_number e refl))
no_command b (a_two p) e s f n o c = cc (ap is_sign e)
no_command b a_nought e s f n o c = absurd (o (spelt b a_nought e refl))
no_command b a_choose e s f n o c = absurd (c (spelt b a_choose e refl))
no_command b unknown e s f n o c = e

-- a sign, by its operation
pub record Sign (b : ℕ) : Type 0 where
  pub op : Op
  pub is : b ≡ sign op

sign_by : (b : ℕ) (k : Command) → command b ≡ k → is_sign k ≡ true → Sign b
sign_by b (a_two o) e h = record { op = o; is = spelt b (a_two o) e refl }
sign_by b a_field e h = cc
sign_by b a_number e h = cc
sign_by b a_nought e h = cc
sign_by b a_choose e h = cc
sign_by b unknown e h = cc

-- by what takes_two says
pub signed : (b : ℕ) {x : Bool} → x ≡ is_sign (command b) → x ≡ true → Sign b
signed b e h = sign_by b (command b) refl (sym e ∙ h)

pub signs : (b : ℕ) {x : Bool} → x ≡ is_sign (command b) → x ≡ true → (o : Op) × (command b ≡ a_two o)
signs b e h = let s = signed b e h in (s.op, ap command s.is ∙ of_sign s.op)

pub two_slots : (o : Op) (ss : List Slot) (bs : List ℕ) → stuck (question ∷ ss) (sign o ∷ bs) ≡ stuck (question ∷ question ∷ ss) bs
two_slots o ss bs = ap (λ k. (elim (wants k) [ None ↦ Some (length (sign o ∷ bs)) | Some new ↦ stuck (new ++ ss) bs ])) (of_sign o)

-- a writing fills its slot
pub filled : (t : Expression) (ss : List Slot) (rest : List ℕ) → stuck (question ∷ ss) (written t ++ rest) ≡ stuck ss rest
filled (field first) ss rest = refl
filled (field second) ss rest = refl
filled (field third) ss rest = refl
filled (field fourth) ss rest = refl
filled (number hi lo) ss rest = refl
filled (two o a b) ss rest =
    rw append_assoc (two_slots o ss (written a ++ (written b ++ rest)) ∙ (filled a (question ∷ ss) (written b ++ rest) ∙ filled b ss rest))
filled (nought a) ss rest = filled a ss rest
filled (choose a b c) ss rest =
    rw (append_assoc, append_assoc) (filled a (question ∷ question ∷ ss) (written b ++ (written c ++ rest)) ∙ (filled b (question ∷ ss) (written c ++ rest) ∙ filled c ss rest))

pub passed : {bs rest : List ℕ} → Reads bs rest → (ss : List Slot) → stuck (question ∷ ss) bs ≡ stuck ss rest
passed {bs} {rest} r ss = ap (stuck (question ∷ ss)) r.is ∙ filled r.tree ss rest

pub some : (t : Expression) → 0 < length (written t)
some (field k) = omega arith
some (number hi lo) = omega arith
some (two o a b) = omega arith
some (nought a) = omega arith
some (choose a b c) = omega arith

-- ---- a command before its operands

-- what the reader promises
abbrev pub Read : List ℕ → Result (Bor (List ℕ)) ℕ → Type 0
Read bs r = MatchResult r (λ rest. Reads bs rest.now) (λ left. Stuck bs left)

-- where the reading of an operand has failed
pub failed : (bs : List ℕ) {left : ℕ} (r : Result (Bor (List ℕ)) ℕ) → IsErrAnd r (λ e. e ≡ left) → Stuck bs left → Read bs r
failed bs r h s = let p = err_from_is_err_and r h in rw (p.1, p.2) s

pub one_last : (bs : List ℕ) (r : Result (Bor (List ℕ)) ℕ) → Read bs r → Read (33 ∷ bs) r
one_last bs (Ok rest) h = record { tree = nought h.tree; is = ap (λ x. 33 ∷ x) h.is }
one_last bs (Err left) h = record { whatever = h.whatever }

pub two_first : (o : Op) (bs : List ℕ) {left : ℕ} → Stuck bs left → Stuck (sign o ∷ bs) left
two_first o bs h = record { whatever = λ ss. two_slots o ss bs ∙ h.whatever (question ∷ ss) }

pub two_last : (o : Op) (bs r1 : List ℕ) (r : Result (Bor (List ℕ)) ℕ) → Reads bs r1 → Read r1 r → Read (sign o ∷ bs) r
two_last o bs r1 (Ok rest) p q =
    record { tree = two o p.tree q.tree; is = ap (λ x. sign o ∷ x) (rw append_assoc (p.is ∙ ap (λ x. written p.tree ++ x) q.is)) }
two_last o bs r1 (Err left) p h = record { whatever = λ ss. two_slots o ss bs ∙ (passed p (question ∷ ss) ∙ h.whatever ss) }

pub three_first : (bs : List ℕ) {left : ℕ} → Stuck bs left → Stuck (63 ∷ bs) left
three_first bs h = record { whatever = λ ss. h.whatever (question ∷ question ∷ ss) }

pub three_second : (bs r1 : List ℕ) {left : ℕ} → Reads bs r1 → Stuck r1 left → Stuck (63 ∷ bs) left
three_second bs r1 p h = record { whatever = λ ss. passed p (question ∷ question ∷ ss) ∙ h.whatever (question ∷ ss) }

pub three_last : (bs r1 r2 : List ℕ) (r : Result (Bor (List ℕ)) ℕ) → Reads bs r1 → Reads r1 r2 → Read r2 r → Read (63 ∷ bs) r
three_last bs r1 r2 (Ok rest) p q s =
    record {
      tree = choose p.tree q.tree s.tree;
      is = ap (λ x. 63 ∷ x) (p.is ∙ (ap (λ x. written p.tree ++ x) (q.is ∙ ap (λ x. written q.tree ++ x) s.is) ∙ simp append_assoc));
    }
three_last bs r1 r2 (Err left) p q h = record { whatever = λ ss. passed p (question ∷ question ∷ ss) ∙ (passed q (question ∷ ss) ∙ h.whatever ss) }

named : (k : ℕ) → k ≤ 3 → (f : Field) × (index f ≡ k)
named zero h = (first, refl)
named (suc zero) h = (second, refl)
named (suc (suc zero)) h = (third, refl)
named (suc (suc (suc zero))) h = (fourth, refl)
named (suc (suc (suc (suc k)))) h = absurd (omega arith)

pub front_is : (bs : List ℕ) (b : ℕ) {k : Command} → head bs ≡ b → command b ≡ k → known k ≡ true → bs ≡ b ∷ tail bs
front_is bs b e h g = begun bs (ap command e ∙ h) g ∙ ap (λ x. x ∷ tail bs) e

-- to show a thing of bytes, show it of their command before the rest
pub opens : (P : List ℕ → Type 0) (bs : List ℕ) (b : ℕ) {k : Command} → head bs ≡ b → command b ≡ k → known k ≡ true → P (b ∷ tail bs) → P bs
opens P bs b e h g x = subst P (sym (front_is bs b e h g)) x

pub opens_sign : (P : List ℕ → Type 0) (bs : List ℕ) (s : Sign (head bs)) → P (sign s.op ∷ tail bs) → P bs
opens_sign P bs s x = opens P bs (sign s.op) s.is (of_sign s.op) refl x

pub field_reads : (bs : List ℕ) → head bs ≡ 102 → 1 ≤ length (tail bs) → head (tail bs) ≤ 3 → Reads bs (tail (tail bs))
field_reads bs e l h =
    let f = named (head (tail bs)) h in
    record { tree = field f.0; is = front_is bs 102 e refl refl ∙ ap (λ x. 102 ∷ x) (opened (tail bs) l ∙ ap (λ k. k ∷ tail (tail bs)) (sym f.1)) }

pub number_reads : (bs : List ℕ) → head bs ≡ 99 → 2 ≤ length (tail bs) → Reads bs (tail2 (tail bs))
number_reads bs e l =
    record { tree = number (get_or (tail bs) 0 0) (get_or (tail bs) 1 0); is = front_is bs 99 e refl refl ∙ ap (λ x. 99 ∷ x) (opened2 (tail bs) l) }
