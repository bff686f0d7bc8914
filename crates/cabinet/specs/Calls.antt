-- What each call replies, the first refusal that applies or else its value, and what it leaves in memory. Assumes nothing.
use Rattle.std.specs.Prelude.{◌≡◌, ℕ, Bool, cond, not, ◌||◌, List, [], is_some, Some, None, Option, ◌==◌, nat_lt, slice_index}
use Rattle.refusal.specs.Replies.{Reply, given, declined, and_then, refuse_if}
use Rattle.question.specs.Reading.{reading}
use Rattle.question.specs.Questions.{answers}
use Rattle.belief.specs.Meaning.{Meaning, total_of, peak_of, whole_of, mass_of, revised}
use Rattle.register.specs.Places.{vacant}
use Rattle.audit.specs.Format.{enrolled, answered, refused, declines}
use Rattle.cabinet.specs.declared.cabinets.Cabinet.{Cabinet}
use Rattle.cabinet.specs.declared.folders.Folder.{Folder}
use Rattle.cabinet.specs.declared.views.View.{View}
use Rattle.cabinet.specs.Memory.{State, folder_of, coded, changed, short, logged}
use Rattle.history.specs.Judging.{threshold, fitting, exceeds, some_below, telling}

-- refusal n where there is nothing
abbrev pub some_or : {A B : Type 0} → ℕ → Option A → (A → Reply B) → Reply B
some_or n (Some x) f = f x
some_or n None f = declined n None

-- ---- making: 1, 2

-- a value of field k passes its top, or the cabinet lacks field k and its top or value is not 0
abbrev pub misfit : ℕ → List ℕ → List ℕ → ℕ → Bool
misfit count tops sheet k =
    cond (nat_lt k count) (nat_lt (slice_index tops k) (slice_index sheet k)) (not (slice_index tops k == 0) || not (slice_index sheet k == 0))

abbrev pub making : ℕ → List ℕ → List ℕ → Reply Cabinet
making count tops sheet =
    refuse_if (count == 0 || nat_lt 4 count) 1 (
    refuse_if (some_below 4 (misfit count tops sheet)) 2 (
    given (record { sheet = sheet; count = count; tops = tops; used = 0 })))

-- ---- enrolling: 3, 6, 7, 8, 11, 13, 14

abbrev pub enrolling : State Meaning → ℕ → Folder Meaning → Reply ℕ
enrolling s kind f =
    refuse_if (not (threshold f.threshold.n f.threshold.d)) 3 (
    refuse_if (f.code == 0 || is_some (coded f.code s.folders)) 6 (
    some_or 7 (vacant (λ g. g.code) s.folders) (λ i.
    refuse_if (not (fitting s.cabinet.count s.cabinet.tops f.belief)) 8 (
    refuse_if (short s (enrolled f.code f.threshold.n f.threshold.d kind)) 11 (
    refuse_if (not (whole_of f.belief)) 13 (
    refuse_if (exceeds f.threshold.n f.threshold.d (peak_of f.belief) (total_of f.belief)) 14 (
    given i)))))))

-- the first free folder is now f, and a line is written; a refusal leaves all as it was
abbrev pub after_enrolling : {X : Type 0} → State X → ℕ → Folder X → Reply ℕ → State X
after_enrolling s kind f (given i) = logged s (changed 0 (λ g. f) s.folders) (enrolled f.code f.threshold.n f.threshold.d kind)
after_enrolling s kind f (declined n p) = s

-- ---- asking: 6, 8, 9, 10, 11, 12, 13, 14

-- the folder of a code: 6, 8
abbrev pub known : Cabinet → List (Folder Meaning) → ℕ → Reply (Folder Meaning)
known c fs code = some_or 6 (folder_of code fs) (λ f. refuse_if (not (fitting c.count c.tops f.belief)) 8 (given f))

-- a question that would be answered a: 12, 13, 14
abbrev pub judging : Folder Meaning → List ℕ → ℕ → Reply ℕ
judging f q a =
    refuse_if (not (f.belief.carries [] q)) 12 (
    refuse_if (mass_of f.belief q a == 0) 13 (
    refuse_if (telling f.belief q f.threshold.n f.threshold.d) 14 (
    given a)))

-- a question of a known folder: 9, 10, 11, then as it is judged
abbrev pub answering : State Meaning → ℕ → List ℕ → Folder Meaning → Reply ℕ
answering s code q f =
    and_then (reading q) (λ e.
    refuse_if (short s (answered code (answers q s.cabinet.sheet) q)) 11 (
    judging f q (answers q s.cabinet.sheet)))

abbrev pub asking : State Meaning → ℕ → List ℕ → Reply ℕ
asking s code q = and_then (known s.cabinet s.folders code) (answering s code q)

-- the folder after an answer was heard
abbrev pub hearing : List ℕ → ℕ → Folder Meaning → Folder Meaning
hearing q a f = record { code = f.code; threshold = f.threshold; belief = revised f.belief q a }

-- an answer revises the belief and is written; so is a refusal with 12 or 14; any other refusal leaves all as it was
abbrev pub after_asking : State Meaning → ℕ → List ℕ → Reply ℕ → State Meaning
after_asking s code q (given a) = logged s (changed code (hearing q a) s.folders) (answered code a q)
after_asking s code q (declined n p) = cond (declines n) (logged s s.folders (refused code n q)) s

-- all folders but the one that heard an answer are the very same
abbrev pub Others : {X : Type 0} → ℕ → Reply ℕ → List (Folder X) → List (Folder X) → Type 0
Others {X} code (given a) old new = (f : Folder X) → changed code (λ g. f) new ≡ changed code (λ g. f) old
Others code (declined n p) old new = new ≡ old

-- ---- looking: 6, 8

abbrev pub looking : Cabinet → List (Folder Meaning) → ℕ → Reply View
looking c fs code = and_then (known c fs code) (λ f. given (record { total = total_of f.belief; peak = peak_of f.belief; threshold = f.threshold }))
