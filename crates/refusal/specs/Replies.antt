-- What a call replies: a value, or the number of a refusal and its place. Assumes nothing.
use Rattle.std.specs.Prelude.{ℕ, Bool, true, false, cond, Some, None, Ok, Err, Option, Result}
use Rattle.refusal.specs.declared.list.Refusal.{Refusal}
use Rattle.refusal.specs.declared.list.Refusal.TheVariants.{Span, Value, Amount, Sides, Excess, Code, Full, Unfit, Unreadable, Bound, Short, NotCarried, NoMass, TooTelling}

-- the number of each refusal, which is its place in the order of the checks
abbrev pub number_of : Refusal → ℕ
number_of Span = 1
number_of Value = 2
number_of Amount = 3
number_of Sides = 4
number_of Excess = 5
number_of Code = 6
number_of Full = 7
number_of Unfit = 8
number_of (Unreadable at) = 9
number_of (Bound at) = 10
number_of Short = 11
number_of NotCarried = 12
number_of NoMass = 13
number_of TooTelling = 14

-- the place that 9 and 10 bring with them
abbrev pub place_of : Refusal → Option ℕ
place_of Span = None
place_of Value = None
place_of Amount = None
place_of Sides = None
place_of Excess = None
place_of Code = None
place_of Full = None
place_of Unfit = None
place_of (Unreadable at) = Some at
place_of (Bound at) = Some at
place_of Short = None
place_of NotCarried = None
place_of NoMass = None
place_of TooTelling = None

-- a value, or a refusal's number and place
pub data Reply (A : Type 0) : Type 0 where
  given : A → Reply A
  declined : ℕ → Option ℕ → Reply A

-- what a call returned, as a reply
abbrev pub reply : {A : Type 0} → Result A Refusal → Reply A
reply (Ok x) = given x
reply (Err e) = declined (number_of e) (place_of e)

-- a reply whose value is seen through f
abbrev pub mapped : {A B : Type 0} → (A → B) → Reply A → Reply B
mapped f (given x) = given (f x)
mapped f (declined n p) = declined n p

-- the reply of what comes after a reply, which comes only where that has a value
abbrev pub and_then : {A B : Type 0} → Reply A → (A → Reply B) → Reply B
and_then (given x) f = f x
and_then (declined n p) f = declined n p

-- refusal n where the test holds, else the reply of what is checked next
abbrev pub refuse_if : {A : Type 0} → Bool → ℕ → Reply A → Reply A
refuse_if test n next = cond test (declined n None) next

-- whether a call was refused
abbrev pub refused : {A : Type 0} → Result A Refusal → Bool
refused (Ok x) = false
refused (Err e) = true
