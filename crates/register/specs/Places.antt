-- Where a code stands in a list of entries, of whatever kind: key is the code of an entry. Assumes nothing.
use Rattle.std.specs.Prelude.{◌≡◌, ℕ, suc, ◌<◌, cond, List, [], ◌∷◌, length, Some, None, Option, ◌==◌, ◌≢◌, slice_index_or, slice_set}
use Rattle.std.specs.Option.{option_map}

-- ---- the law of looking, in words of places alone; d stands for what lies past the end, of which nothing is asked

-- the entry at place i has the code, and none before it has
pub record First {E : Type 0} (key : E → ℕ) (c : ℕ) (xs : List E) (i : ℕ) : Type 0 where
  pub within : i < length xs
  pub here : (d : E) → key (slice_index_or xs i d) ≡ c
  pub before : (k : ℕ) (d : E) → k < i → key (slice_index_or xs k d) ≢ c

-- no entry has the code
pub record Absent {E : Type 0} (key : E → ℕ) (c : ℕ) (xs : List E) : Type 0 where
  pub nowhere : (k : ℕ) (d : E) → k < length xs → key (slice_index_or xs k d) ≢ c

-- what was got in looking for the code: i exactly where i is its first place, nothing exactly where no entry has it
pub record Sought {E : Type 0} (key : E → ℕ) (c : ℕ) (xs : List E) (got : Option ℕ) : Type 0 where
  pub some : (i : ℕ) → got ≡ Some i → First key c xs i
  pub only : (i : ℕ) → First key c xs i → got ≡ Some i
  pub none : got ≡ None → Absent key c xs
  pub missing : Absent key c xs → got ≡ None

-- the same in a register, where code 0 means that a place is free and is never found
pub record Looked {E : Type 0} (key : E → ℕ) (c : ℕ) (xs : List E) (got : Option ℕ) : Type 0 where
  pub other : c ≢ 0 → Sought key c xs got
  pub nought : c ≡ 0 → got ≡ None

-- ---- the same to be computed

-- the first place of a code
abbrev pub first : {E : Type 0} → (E → ℕ) → ℕ → List E → Option ℕ
first key c [] = None
first key c (x ∷ xs) = cond (key x == c) (Some 0) (option_map suc (first key c xs))

-- the place of a code in a register
abbrev pub place : {E : Type 0} → (E → ℕ) → ℕ → List E → Option ℕ
place key c xs = cond (c == 0) None (first key c xs)

-- the free place that is taken next
abbrev pub vacant : {E : Type 0} → (E → ℕ) → List E → Option ℕ
vacant key xs = first key 0 xs

-- ---- each code stands once

-- no code other than 0 has two places
pub record Distinct {E : Type 0} (key : E → ℕ) (xs : List E) : Type 0 where
  pub once : (i j : ℕ) (d : E) → i < length xs → j < length xs → key (slice_index_or xs i d) ≡ key (slice_index_or xs j d) → key (slice_index_or xs i d) ≢ 0 → i ≡ j

-- so it is where every place is free, and so it stays where an entry is put whose code has no place, wherever it is put
pub record Once {E : Type 0} (key : E → ℕ) : Type 0 where
  pub free : (xs : List E) → ((i : ℕ) (d : E) → i < length xs → key (slice_index_or xs i d) ≡ 0) → Distinct key xs
  pub put : (xs : List E) (at : ℕ) (e : E) → Distinct key xs → place key (key e) xs ≡ None → Distinct key (slice_set xs at e)
