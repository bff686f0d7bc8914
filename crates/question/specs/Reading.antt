-- What bytes are as a question: the expression that they write, or why and where they are declined. Assumes nothing.
-- It is worked out here from the first byte to the last; specs/Laws.antt says what it is.
use Rattle.std.specs.Prelude.{ℕ, zero, suc, ◌-◌, cond, List, [], ◌∷◌, length, Some, None, Option, ◌==◌, nat_le}
use Rattle.refusal.specs.Replies.{Reply, given, declined}
use Rattle.question.specs.Expressions.{longest, limit, Op, plus, minus, times, less, equal, and, or, Field, first, second, third, fourth, Expression, field, number, two, nought, choose, Placed, completed}

-- what a byte is as a command
pub data Command : Type 0 where
  a_field : Command
  a_number : Command
  a_two : Op → Command
  a_nought : Command
  a_choose : Command
  unknown : Command

-- the letters f c + - * < = & | ! ?
abbrev pub command : ℕ → Command
command b =
    cond (b == 102) a_field (
    cond (b == 99) a_number (
    cond (b == 43) (a_two plus) (
    cond (b == 45) (a_two minus) (
    cond (b == 42) (a_two times) (
    cond (b == 60) (a_two less) (
    cond (b == 61) (a_two equal) (
    cond (b == 38) (a_two and) (
    cond (b == 124) (a_two or) (
    cond (b == 33) a_nought (
    cond (b == 63) a_choose unknown))))))))))

-- what stands at the front of some bytes: an expression and what follows it, or how many bytes are left at the first that cannot stand there
pub data Front : Type 0 where
  found : Expression → List ℕ → Front
  wrong : ℕ → Front

abbrev pub after : Front → (Expression → List ℕ → Front) → Front
after (found t r) f = f t r
after (wrong l) f = wrong l

abbrev pub field_of : ℕ → Field
field_of k = cond (k == 0) first (cond (k == 1) second (cond (k == 2) third fourth))

abbrev pub field_front : List ℕ → Front
field_front [] = wrong 0
field_front (k ∷ bs) = cond (nat_le k 3) (found (field (field_of k)) bs) (wrong (length (k ∷ bs)))

abbrev pub number_front : List ℕ → Front
number_front [] = wrong 0
number_front (hi ∷ []) = wrong 0
number_front (hi ∷ lo ∷ bs) = found (number hi lo) bs

-- a command b before bs, its operands read by read
abbrev pub step : (List ℕ → Front) → ℕ → List ℕ → Command → Front
step read b bs a_field = field_front bs
step read b bs a_number = number_front bs
step read b bs (a_two o) = after (read bs) (λ x r. after (read r) (λ y q. found (two o x y) q))
step read b bs a_nought = after (read bs) (λ x r. found (nought x) r)
step read b bs a_choose = after (read bs) (λ x r. after (read r) (λ y q. after (read q) (λ z e. found (choose x y z) e)))
step read b bs unknown = wrong (length (b ∷ bs))

-- n is at least the number of bytes
abbrev pub front : ℕ → List ℕ → Front
front zero bs = wrong (length bs)
front (suc n) [] = wrong 0
front (suc n) (b ∷ bs) = step (front n) b bs (command b)

-- ---- the question that bytes are

-- the place of the first of some commands whose bound passes the limit
abbrev pub first_over : List Placed → Option ℕ
first_over [] = None
first_over (c ∷ cs) = cond (nat_le c.size limit) (first_over cs) (Some c.place)

-- an expression, unless a bound passes the limit at a place
abbrev pub limits : Expression → Option ℕ → Reply Expression
limits t None = given t
limits t (Some p) = declined 10 (Some p)

-- n bytes, by what stands at their front
abbrev pub whole : ℕ → Front → Reply Expression
whole n (wrong l) = declined 9 (Some (n - l))
whole n (found t []) = limits t (first_over (completed 0 t))
whole n (found t (b ∷ r)) = declined 9 (Some (n - length (b ∷ r)))

-- the expression that bytes write, or the number and the place of the refusal
unfoldable pub reading : List ℕ → Reply Expression
reading bs = cond (nat_le (length bs) longest) (whole (length bs) (front (length bs) bs)) (declined 9 (Some longest))
