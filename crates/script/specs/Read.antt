-- What a part of a line is read as: a value, or that the line is not understood. Assumes nothing.
use Rattle.std.specs.Prelude.{◌≡◌, ℕ, Some, None, Ok, Err, Option, Result, ⊤}
use Rattle.std.specs.Result.{result_ok}
use Rattle.std.specs.IoError.{error_kind}
use Rattle.std.specs.declared.io.ErrorKind.TheVariants.{OutOfMemory}
use Rattle.script.specs.declared.error.LineError.{LineError}
use Rattle.script.specs.declared.error.LineError.TheVariants.{NotUnderstood, Failed}

-- the failure that memory ran out
abbrev pub IsFailure : LineError → Type 0
IsFailure NotUnderstood = ⊥
IsFailure (Failed e) = error_kind e ≡ OutOfMemory

-- the value seen through f, or that there is none, unless memory runs out: no other failure comes of it
abbrev pub IsReadBy : {A B : Type 0} → (A → B) → Result A LineError → Option B → Type 0
IsReadBy f (Ok x) o = o ≡ Some (f x)
IsReadBy f (Err NotUnderstood) o = o ≡ None
IsReadBy f (Err (Failed e)) o = error_kind e ≡ OutOfMemory

-- a number as the value v of a type that may not hold it, where `gives` says what numbers become there
abbrev pub IsReadInto : {A E : Type 0} → (ℕ → Result A E → Type 0) → Option A → Option ℕ → Type 0
IsReadInto gives v None = v ≡ None
IsReadInto {A} {E} gives v (Some n) = (t : Result A E) × gives n t × (v ≡ result_ok t)
