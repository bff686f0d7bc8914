-- What the functions of a sound belief reply, and what a revising leaves. Assumes nothing.
use Rattle.std.specs.Prelude.{ℕ, Bool, not, List, [], Ok, Err, Result, ◌==◌}
use Rattle.refusal.specs.declared.list.Refusal.{Refusal}
use Rattle.refusal.specs.Replies.{Reply, given, mapped, and_then, refuse_if}
use Rattle.question.specs.Reading.{reading}
use Rattle.belief.specs.Meaning.{Meaning, mass_of, revised}

-- carries: 9 or 10, else whether the question is carried
abbrev pub carrying : Meaning → List ℕ → Reply Bool
carrying m q = mapped (λ e. m.carries [] q) (reading q)

-- mass and heaviest: 9 or 10, then 12, else the value v
abbrev pub replied : {V : Type 0} → Meaning → List ℕ → V → Reply V
replied m q v = and_then (reading q) (λ e. refuse_if (not (m.carries [] q)) 12 (given v))

-- revise: 9 or 10, then 12, then 13
abbrev pub revising : Meaning → List ℕ → ℕ → Reply (Unit {0})
revising m q a =
    and_then (reading q) (λ e.
    refuse_if (not (m.carries [] q)) 12 (
    refuse_if (mass_of m q a == 0) 13 (given tt)))

-- what revise leaves, by what it returned
abbrev pub leaving : Result (Unit {0}) Refusal → Meaning → List ℕ → ℕ → Meaning
leaving (Ok u) m q a = revised m q a
leaving (Err e) m q a = m

-- what a making returned, seen through the meaning of what was made
abbrev pub seen : {B : Type 0} → (B → Meaning) → Reply B → Reply Meaning
seen means r = mapped means r
