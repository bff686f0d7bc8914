-- What the walks over bytes promise, each from the front of some bytes. No public contract speaks of this file.
use Rattle.std.specs.Prelude.{◌≡◌, ℕ, zero, suc, ◌+◌, ◌-◌, ◌*◌, ◌≤◌, Bool, true, false, cond, ◌||◌, List, [], ◌∷◌, ◌++◌, length, ℤ, Some, None, Option, ◌==◌, nat_le, slice_index, unsigned_abs}
use Rattle.question.specs.declared.steps.Step.{Step}
use Rattle.question.specs.Expressions.{limit, Op, plus, Expression, field, number, two, nought, choose, written, worth, bound, completed}
use Rattle.question.specs.Reading.{Command, a_field, a_number, a_two, a_nought, a_choose, unknown, command, first_over}

-- ---- the reader

-- what is still to come: an expression, a field's number, any byte
pub data Slot : Type 0 where
  question : Slot
  which : Slot
  any : Slot

-- what a command calls for
abbrev pub wants : Command → Option (List Slot)
wants a_field = Some (which ∷ [])
wants a_number = Some (any ∷ any ∷ [])
wants (a_two o) = Some (question ∷ question ∷ [])
wants a_nought = Some (question ∷ [])
wants a_choose = Some (question ∷ question ∷ question ∷ [])
wants unknown = None

-- what a byte in a slot calls for, or nothing if it cannot stand there
abbrev pub follows : Slot → ℕ → Option (List Slot)
follows question b = wants (command b)
follows which b = cond (nat_le b 3) (Some []) None
follows any b = Some []

-- how many bytes are left at the first that cannot stand there, is left over, or is missing
abbrev pub stuck : List Slot → List ℕ → Option ℕ
stuck [] [] = None
stuck [] (b ∷ bs) = Some (length (b ∷ bs))
stuck (s ∷ ss) [] = Some 0
stuck (s ∷ ss) (b ∷ bs) = elim (follows s b) [ None ↦ Some (length (b ∷ bs)) | Some new ↦ stuck (new ++ ss) bs ]

-- the expression at the front goes wrong there, whatever is to follow it
pub record Stuck (bs : List ℕ) (left : ℕ) : Type 0 where
  pub whatever : (ss : List Slot) → stuck (question ∷ ss) bs ≡ Some left

-- an expression stands at the front, and rest follows it
pub record Reads (bs rest : List ℕ) : Type 0 where
  pub tree : Expression
  pub is : bs ≡ written tree ++ rest

-- ---- bound and value

-- no command's bound passes the limit
abbrev pub Small : Expression → Type 0
Small (field k) = bound (field k) ≤ limit
Small (number hi lo) = bound (number hi lo) ≤ limit
Small (two o a b) = Small a × Small b × (bound (two o a b) ≤ limit)
Small (nought a) = Small a
Small (choose a b c) = Small a × Small b × Small c

-- an expression with P stands at the front
pub record Begins (P : Expression → Type 0) (bs : List ℕ) : Type 0 where
  pub tree : Expression
  pub rest : List ℕ
  pub is : bs ≡ written tree ++ rest
  pub has : P tree

abbrev pub Any : Expression → Type 0
Any t = Unit {0}

-- each expression that stands at the front has P, and next follows it
pub record Each (P : Expression → Type 0) (bs next : List ℕ) : Type 0 where
  pub has : (t : Expression) (rest : List ℕ) → bs ≡ written t ++ rest → P t
  pub behind : (t : Expression) (rest : List ℕ) → bs ≡ written t ++ rest → next ≡ rest

-- v is its value
abbrev pub Worth : List ℕ → ℤ → Expression → Type 0
Worth s v t = v ≡ worth t s

-- n is its bound, and no bound in it passes the limit
pub record Bounded (n : ℕ) (t : Expression) : Type 0 where
  pub is : n ≡ bound t
  pub small : Small t
  pub clear : (p : ℕ) → first_over (completed p t) ≡ None

-- the first completed command past the limit has left bytes from its own on
pub record Passes (bs : List ℕ) (left : ℕ) : Type 0 where
  pub place : (t : Expression) (rest : List ℕ) → bs ≡ written t ++ rest → (p : ℕ) → first_over (completed p t) ≡ Some (p + (length bs - left))
  pub within : left ≤ length bs

-- ---- two operands

-- the operation of a sign, where it is one
abbrev pub op_in : Command → Op
op_in (a_two o) = o
op_in a_field = plus
op_in a_number = plus
op_in a_nought = plus
op_in a_choose = plus
op_in unknown = plus

abbrev pub op : ℕ → Op
op b = op_in (command b)

-- the byte is the sign of an operation
abbrev pub is_sign : Command → Bool
is_sign (a_two o) = true
is_sign a_field = false
is_sign a_number = false
is_sign a_nought = false
is_sign a_choose = false
is_sign unknown = false

abbrev pub Signs : ℕ → Type 0
Signs b = is_sign (command b) ≡ true

pub record Both (x y : ℤ) : Type 0 where
  pub first : unsigned_abs x ≤ limit
  pub second : unsigned_abs y ≤ limit

-- ---- fields

-- f k stands among the commands
abbrev pub scan : ℕ → List ℕ → Bool
scan k [] = false
scan k (b ∷ []) = false
scan k (b ∷ x ∷ []) = cond (b == 102) (x == k) false
scan k (b ∷ x ∷ y ∷ bs) =
    cond (b == 102) (x == k || scan k (y ∷ bs)) (
    cond (b == 99) (scan k bs)
    (scan k (x ∷ y ∷ bs)))

-- ---- steps

-- the step at the front, if there is one
abbrev pub front_step : List ℕ → Option Step
front_step bs =
    cond (slice_index bs 0 == 60) (
    cond (slice_index bs 1 == 102) (
    cond (slice_index bs 3 == 99) (
    cond (nat_le 6 (length bs)) (Some (record { field = slice_index bs 2; bound = slice_index bs 4 * 256 + slice_index bs 5 }))
    None) None) None) None

-- some steps before others, if there are others
abbrev pub prefixed : List Step → Option (List Step) → Option (List Step)
prefixed ts None = None
prefixed ts (Some us) = Some (ts ++ us)

-- the steps among the commands after the next n bytes, if no field stands outside a step
abbrev pub walk : ℕ → List ℕ → Option (List Step)
walk zero [] = Some []
walk (suc n) [] = Some []
walk (suc n) (b ∷ bs) = walk n bs
walk zero (b ∷ bs) =
    elim (front_step (b ∷ bs)) [
      | Some t ↦ prefixed (t ∷ []) (walk 5 bs)
      | None ↦ cond (b == 102) None (cond (b == 99) (walk 2 bs) (walk 0 bs))
    ]
