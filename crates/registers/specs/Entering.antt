-- Entering a register: where an entry comes to stand, and what is then in the register.
use Rattle.std.specs.Prelude.{ℕ, cond, List, is_some, Some, None, Option, ◌==◌, slice_set}
use Rattle.register.specs.Places.{place, vacant}

-- no place for code 0 or for a code that has one, else the first free one
abbrev pub entered : {E : Type 0} → (E → ℕ) → E → List E → Option ℕ
entered key e xs = cond (key e == 0) None (cond (is_some (place key (key e) xs)) None (vacant key xs))

abbrev pub leaves : {E : Type 0} → Option ℕ → E → List E → List E
leaves None e xs = xs
leaves (Some at) e xs = slice_set xs at e
