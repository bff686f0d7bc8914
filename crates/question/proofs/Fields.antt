-- The fields that stand among the commands are those of the expression.
use Rattle.std.proofs.Common.{◌≡◌, ℕ, false, ◌||◌, eqb, List, [], ◌∷◌, ◌++◌, sym, refl, ap, ◌∙◌, append_assoc}
use Rattle.std.proofs.Math.Bool.{or-false, or_assoc}
use Rattle.question.specs.Expressions.{index, Expression, field, number, two, nought, choose, written, sign, mentions}
use Rattle.question.specs.Fronts.{scan}
use Rattle.question.proofs.Operands.{sign_apart}

scan_field : (k x : ℕ) (bs : List ℕ) → scan k (102 ∷ x ∷ bs) ≡ eqb x k || scan k bs
scan_field k x [] = sym (or-false (eqb x k))
scan_field k x (y ∷ bs) = refl

scan_other : (k b : ℕ) (bs : List ℕ) → eqb b 102 ≡ false → eqb b 99 ≡ false → scan k (b ∷ bs) ≡ scan k bs
scan_other k b [] f n = refl
scan_other k b (x ∷ []) f n = rw f
scan_other k b (x ∷ y ∷ bs) f n = rw (f, n)

pub scan_written : (k : ℕ) (t : Expression) (rest : List ℕ) → scan k (written t ++ rest) ≡ mentions k t || scan k rest
scan_written k (field f) rest = scan_field k (index f) rest
scan_written k (number hi lo) rest = refl
scan_written k (two o a b) rest =
    scan_other k (sign o) ((written a ++ written b) ++ rest) (sign_apart o).0 (sign_apart o).1
    ∙ (ap (scan k) (append_assoc (written a) (written b) rest)
    ∙ (scan_written k a (written b ++ rest)
    ∙ (ap (λ x. mentions k a || x) (scan_written k b rest)
    ∙ sym (or_assoc (mentions k a) (mentions k b) (scan k rest)))))
scan_written k (nought a) rest = scan_other k 33 (written a ++ rest) refl refl ∙ scan_written k a rest
scan_written k (choose a b c) rest =
    scan_other k 63 ((written a ++ (written b ++ written c)) ++ rest) refl refl
    ∙ (ap (scan k) (append_assoc (written a) (written b ++ written c) rest)
    ∙ (scan_written k a ((written b ++ written c) ++ rest)
    ∙ (ap (λ x. mentions k a || x) (ap (scan k) (append_assoc (written b) (written c) rest)
    ∙ (scan_written k b (written c ++ rest) ∙ (ap (λ x. mentions k b || x) (scan_written k c rest) ∙ sym (or_assoc (mentions k b) (mentions k c) (scan k rest)))))
    ∙ sym (or_assoc (mentions k a) (mentions k b || mentions k c) (scan k rest)))))

pub scan_whole : (k : ℕ) (t : Expression) → scan k (written t ++ []) ≡ mentions k t
scan_whole k t = scan_written k t [] ∙ or-false (mentions k t)
