-- What the calls judge of a belief: whether it fits a cabinet, and whether it tells too much. Assumes nothing.
use Rattle.std.specs.Prelude.{ℕ, zero, suc, ◌*◌, Bool, false, ◌&&◌, ◌||◌, List, ◌==◌, nat_le, nat_lt}
use Rattle.std.specs.Str.{bytes_eq}
use Rattle.question.specs.Expressions.{greatest}
use Rattle.belief.specs.Meaning.{Meaning, mass_of, heaviest_of}

-- whether n / d is a threshold
abbrev pub threshold : ℕ → ℕ → Bool
threshold n d = nat_le 1 n && (nat_le n d && nat_le d 65535)

-- whether a belief is sound, and about all of these fields and no others
abbrev pub fitting : ℕ → List ℕ → Meaning → Bool
fitting count tops m = m.sound && (m.first == 0 && (m.count == count && bytes_eq m.tops tops))

-- whether a part of a whole is more than n / d of it
abbrev pub exceeds : ℕ → ℕ → ℕ → ℕ → Bool
exceeds n d part whole = nat_lt (n * whole) (part * d)

-- whether an answer is possible, and its heaviest sheet would then be above n / d
abbrev pub is_telling_at : Meaning → List ℕ → ℕ → ℕ → ℕ → Bool
is_telling_at m q n d a = nat_lt 0 (mass_of m q a) && exceeds n d (heaviest_of m q a) (mass_of m q a)

-- p of some number below k
unfoldable pub some_below : ℕ → (ℕ → Bool) → Bool
some_below zero p = false
some_below (suc k) p = some_below k p || p k

-- whether some answer is such
unfoldable pub telling : Meaning → List ℕ → ℕ → ℕ → Bool
telling m q n d = some_below (suc greatest) (is_telling_at m q n d)
