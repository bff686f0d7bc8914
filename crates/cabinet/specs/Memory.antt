-- All memory that the calls of a cabinet read and change: the cabinet, the folders, the audit. Assumes nothing.
use Rattle.std.specs.Prelude.{◌≡◌, ℕ, ◌+◌, ◌-◌, Bool, cond, List, [], ◌∷◌, map, length, Some, None, Option, ◌==◌, nat_lt}
use Rattle.std.specs.Borrow.{MutBor}
use Rattle.belief.specs.Meaning.{Meaning}
use Rattle.audit.specs.Format.{Line, encode}
use Rattle.audit.specs.Writing.{written}
use Rattle.cabinet.specs.declared.cabinets.Cabinet.{Cabinet}
use Rattle.cabinet.specs.declared.folders.Folder.{Folder}
use Rattle.cabinet.specs.declared.thresholds.Threshold.{Threshold}

-- X is a kind of belief, or Meaning for folders that hold what their beliefs mean
pub record State (X : Type 0) : Type 0 where
  pub cabinet : Cabinet
  pub folders : List (Folder X)
  pub audit : List ℕ

abbrev pub state : {X : Type 0} → Cabinet → List (Folder X) → List ℕ → State X
state c fs bytes = record { cabinet = c; folders = fs; audit = bytes }

-- ---- beliefs by what they mean

abbrev pub filed : {X : Type 0} → ℕ → Threshold → X → Folder X
filed code threshold belief = record { code = code; threshold = threshold; belief = belief }

abbrev pub meant : {X : Type 0} → (X → Meaning) → Folder X → Folder Meaning
meant means f = filed f.code f.threshold (means f.belief)

abbrev pub understood : {X : Type 0} → (X → Meaning) → State X → State Meaning
understood means s = record { cabinet = s.cabinet; folders = map (meant means) s.folders; audit = s.audit }

-- ---- folders

-- a register stays over the same entries, those that were lent to it
abbrev pub Lent : {X : Type 0} → MutBor (List X) → MutBor (List X) → Type 0
Lent old new = new.ghost_name ≡ old.ghost_name

-- the first folder with a code
abbrev pub coded : {X : Type 0} → ℕ → List (Folder X) → Option (Folder X)
coded c [] = None
coded c (f ∷ fs) = cond (f.code == c) (Some f) (coded c fs)

-- a restorer's folder: code 0 is nobody's
abbrev pub folder_of : {X : Type 0} → ℕ → List (Folder X) → Option (Folder X)
folder_of c fs = cond (c == 0) None (coded c fs)

-- the folders, the first one with a code changed by g
abbrev pub changed : {X : Type 0} → ℕ → (Folder X → Folder X) → List (Folder X) → List (Folder X)
changed c g [] = []
changed c g (f ∷ fs) = cond (f.code == c) (g f ∷ fs) (f ∷ changed c g fs)

-- ---- the audit

-- whether the audit has fewer free bytes than a line needs
abbrev pub short : {X : Type 0} → State X → Line → Bool
short s l = nat_lt (length s.audit - s.cabinet.used) (length (encode l))

-- the cabinet after n bytes more were written
abbrev pub further : ℕ → Cabinet → Cabinet
further n c = record { sheet = c.sheet; count = c.count; tops = c.tops; used = c.used + n }

-- the memory after a line more was written, the folders being fs
abbrev pub logged : {X : Type 0} → State X → List (Folder X) → Line → State X
logged s fs l = record {
  cabinet = further (length (encode l)) s.cabinet;
  folders = fs;
  audit = written s.audit s.cabinet.used (encode l);
}
