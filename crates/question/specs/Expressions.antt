-- The expressions of the question language: their bytes, values, fields and bounds. Assumes nothing.
use Rattle.std.specs.Prelude.{ℕ, ◌+◌, ◌*◌, min, max, Bool, false, cond, not, ◌&&◌, ◌||◌, List, [], ◌∷◌, ◌++◌, length, ℤ, pos, negsuc, ◌+ℤ◌, ◌-ℤ◌, ◌*ℤ◌, ◌==◌, int_lt, slice_index}

-- the greatest answer
abbrev pub greatest : ℕ
greatest = 15

-- the most bytes that a question may have
abbrev pub longest : ℕ
longest = 64

-- the most that a command's bound may be
abbrev pub limit : ℕ
limit = 1000000

-- the operations on two values
pub data Op : Type 0 where
  plus : Op
  minus : Op
  times : Op
  less : Op
  equal : Op
  and : Op
  or : Op

-- the fields of a sheet
pub data Field : Type 0 where
  first : Field
  second : Field
  third : Field
  fourth : Field

-- a field's value; a number, by its high and its low byte; an operation on two values;
-- whether a value is 0; the second value unless the first is 0, else the third
pub data Expression : Type 0 where
  field : Field → Expression
  number : ℕ → ℕ → Expression
  two : Op → Expression → Expression → Expression
  nought : Expression → Expression
  choose : Expression → Expression → Expression → Expression

abbrev pub index : Field → ℕ
index first = 0
index second = 1
index third = 2
index fourth = 3

-- + - * < = & |
abbrev pub sign : Op → ℕ
sign plus = 43
sign minus = 45
sign times = 42
sign less = 60
sign equal = 61
sign and = 38
sign or = 124

-- an expression in prefix notation: f, c, the signs, ! and ?
abbrev pub written : Expression → List ℕ
written (field k) = 102 ∷ index k ∷ []
written (number hi lo) = 99 ∷ hi ∷ lo ∷ []
written (two o a b) = sign o ∷ (written a ++ written b)
written (nought a) = 33 ∷ written a
written (choose a b c) = 63 ∷ (written a ++ (written b ++ written c))

-- ---- values

abbrev pub truth : Bool → ℤ
truth b = cond b (pos 1) (pos 0)

abbrev pub is_zero : ℤ → Bool
is_zero (pos n) = n == 0
is_zero (negsuc n) = false

abbrev pub same : ℤ → ℤ → Bool
same (pos a) (pos b) = a == b
same (pos a) (negsuc b) = false
same (negsuc a) (pos b) = false
same (negsuc a) (negsuc b) = a == b

abbrev pub applied : Op → ℤ → ℤ → ℤ
applied plus x y = x +ℤ y
applied minus x y = x -ℤ y
applied times x y = x *ℤ y
applied less x y = truth (int_lt x y)
applied equal x y = truth (same x y)
applied and x y = truth (not (is_zero x) && not (is_zero y))
applied or x y = truth (not (is_zero x) || not (is_zero y))

-- the value on a sheet
abbrev pub worth : Expression → List ℕ → ℤ
worth (field k) s = pos (slice_index s (index k))
worth (number hi lo) s = pos (hi * 256 + lo)
worth (two o a b) s = applied o (worth a s) (worth b s)
worth (nought a) s = truth (is_zero (worth a s))
worth (choose a b c) s = cond (is_zero (worth a s)) (worth c s) (worth b s)

-- a value as an answer: below 0 it is 0, from 0 to the greatest answer it is itself, above it is the greatest
abbrev pub clamped : ℤ → ℕ
clamped (pos n) = min n greatest
clamped (negsuc n) = 0

-- f k stands anywhere in it
abbrev pub mentions : ℕ → Expression → Bool
mentions k (field f) = index f == k
mentions k (number hi lo) = false
mentions k (two o a b) = mentions k a || mentions k b
mentions k (nought a) = mentions k a
mentions k (choose a b c) = mentions k a || (mentions k b || mentions k c)

-- ---- bounds

abbrev pub limited : Op → ℕ → ℕ → ℕ
limited plus x y = x + y
limited minus x y = x + y
limited times x y = x * y
limited less x y = 1
limited equal x y = 1
limited and x y = 1
limited or x y = 1

abbrev pub bound : Expression → ℕ
bound (field k) = 255
bound (number hi lo) = hi * 256 + lo
bound (two o a b) = limited o (bound a) (bound b)
bound (nought a) = 1
bound (choose a b c) = max (bound b) (bound c)

-- a command that stands in an expression: the place of its byte, and its bound
pub record Placed : Type 0 where
  pub place : ℕ
  pub size : ℕ

abbrev pub stands : ℕ → Expression → Placed
stands p e = record { place = p; size = bound e }

-- the commands of an expression whose first byte stands at p, in the order in which they are completed:
-- a command is completed after its operands, and these in their order
abbrev pub completed : ℕ → Expression → List Placed
completed p (field k) = stands p (field k) ∷ []
completed p (number hi lo) = stands p (number hi lo) ∷ []
completed p (two o a b) = completed (p + 1) a ++ (completed (p + 1 + length (written a)) b ++ (stands p (two o a b) ∷ []))
completed p (nought a) = completed (p + 1) a ++ (stands p (nought a) ∷ [])
completed p (choose a b c) =
    completed (p + 1) a
    ++ (completed (p + 1 + length (written a)) b
    ++ (completed (p + 1 + length (written a) + length (written b)) c
    ++ (stands p (choose a b c) ∷ [])))
