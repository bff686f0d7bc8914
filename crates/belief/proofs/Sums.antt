-- Order and equality of folds over sheets.
use Rattle.std.proofs.Common.{◌≡◌, ℕ, zero, suc, ◌≤◌, max, Bool, true, false, cond, eqb, List, [], ◌∷◌, arith}
use Rattle.belief.specs.Sheets.{up_to, over_sheets, sum_of, max_of, plus}
use Rattle.question.specs.Questions.{answers}
use Rattle.belief.specs.Meaning.{Meaning, kept, total_of, mass_of, heaviest_of, peak_of}

pub record Mono (op : ℕ → ℕ → ℕ) : Type 0 where
  pub mono : (a b c d : ℕ) → a ≤ c → b ≤ d → op a b ≤ op c d

-- termwise order passes to the fold
pub up_to_mono : (op : ℕ → ℕ → ℕ) → Mono op → (n : ℕ) (f g : ℕ → ℕ) → ((v : ℕ) → f v ≤ g v) → up_to op n f ≤ up_to op n g
up_to_mono op m zero f g h = h 0
up_to_mono op m (suc n) f g h = m.mono _ _ _ _ (up_to_mono op m n f g h) (h (suc n))

pub over_mono : (op : ℕ → ℕ → ℕ) → Mono op → (ts : List ℕ) (f g : List ℕ → ℕ) → ((s : List ℕ) → f s ≤ g s) → over_sheets op ts f ≤ over_sheets op ts g
over_mono op m [] f g h = h []
over_mono op m (t ∷ ts) f g h = up_to_mono op m t _ _ (λ v. over_mono op m ts _ _ (λ s. h (v ∷ s)))

pub plus_mono : Mono plus
plus_mono = record { mono = λ a b c d h k. omega arith }

pub max_mono : Mono max
max_mono = record { mono = λ a b c d h k. omega arith }

-- equal terms, equal folds
pub up_to_cong : {A : Type 0} (op : A → A → A) (n : ℕ) (f g : ℕ → A) → ((v : ℕ) → f v ≡ g v) → up_to op n f ≡ up_to op n g
up_to_cong op zero f g h = h 0
up_to_cong op (suc n) f g h = let a = up_to_cong op n f g h in let b = h (suc n) in cc

pub over_cong : {A : Type 0} (op : A → A → A) (ts : List ℕ) (f g : List ℕ → A) → ((s : List ℕ) → f s ≡ g s) → over_sheets op ts f ≡ over_sheets op ts g
over_cong op [] f g h = h []
over_cong op (t ∷ ts) f g h = up_to_cong op t _ _ (λ v. over_cong op ts _ _ (λ s. h (v ∷ s)))

-- the greatest is at most the sum
pub up_to_max : (n : ℕ) (f g : ℕ → ℕ) → ((v : ℕ) → f v ≤ g v) → up_to max n f ≤ up_to plus n g
up_to_max zero f g h = h 0
up_to_max (suc n) f g h = let a = up_to_max n f g h in let b = h (suc n) in omega arith

pub max_sum : (ts : List ℕ) (f : List ℕ → ℕ) → max_of ts f ≤ sum_of ts f
max_sum [] f = omega arith
max_sum (t ∷ ts) f = up_to_max t _ _ (λ v. max_sum ts (λ s. f (v ∷ s)))

cond_le : (b : Bool) (x : ℕ) → cond b x 0 ≤ x
cond_le true x = omega arith
cond_le false x = omega arith

pub kept_le : (q : List ℕ) (a : ℕ) (w : List ℕ → ℕ) (s : List ℕ) → kept q a w s ≤ w s
unfolding kept
kept_le q a w s = cond_le (eqb (answers q s) a) (w s)

pub mass_total : (m : Meaning) (q : List ℕ) (a : ℕ) → mass_of m q a ≤ total_of m
unfolding mass_of total_of
mass_total m q a = over_mono plus plus_mono m.tops _ _ (kept_le q a m.weight)

pub heaviest_mass : (m : Meaning) (q : List ℕ) (a : ℕ) → heaviest_of m q a ≤ mass_of m q a
unfolding mass_of heaviest_of
heaviest_mass m q a = max_sum m.tops (kept q a m.weight)

pub heaviest_peak : (m : Meaning) (q : List ℕ) (a : ℕ) → heaviest_of m q a ≤ peak_of m
unfolding heaviest_of peak_of
heaviest_peak m q a = over_mono max max_mono m.tops _ _ (kept_le q a m.weight)

pub peak_total : (m : Meaning) → peak_of m ≤ total_of m
unfolding peak_of total_of
peak_total m = max_sum m.tops m.weight
