-- Steps: questions that say that a field is less than a number, and expressions that read fields by steps alone. Assumes nothing.
use Rattle.std.specs.Prelude.{◌≡◌, ℕ, ◌+◌, ◌*◌, ◌/◌, ◌%◌, ◌<◌, Bool, true, false, ◌&&◌, ◌||◌, List, [], ◌∷◌, ◌++◌, is_some, Some, None, Option, nat_lt, slice_index}
use Rattle.question.specs.declared.steps.Step.{Step}
use Rattle.question.specs.Expressions.{longest, Op, plus, minus, times, less, equal, and, or, index, Expression, field, number, two, nought, choose}

-- the six bytes that say that field k is less than v: < f k c and v in two bytes
abbrev pub step : ℕ → ℕ → List ℕ
step k v = 60 ∷ 102 ∷ k ∷ 99 ∷ (v / 256) ∷ (v % 256) ∷ []

-- a step takes six bytes, so a question has at most as many as fit
abbrev pub most_steps : ℕ
most_steps = longest / 6

-- whether a sheet has the field of a step below its number
abbrev pub holds : Step → List ℕ → Bool
holds t s = nat_lt (slice_index s t.field) t.bound

-- ---- the step that an expression is, if it is one

abbrev pub number_step : ℕ → Expression → Option Step
number_step k (number hi lo) = Some (record { field = k; bound = hi * 256 + lo })
number_step k (field j) = None
number_step k (two o a b) = None
number_step k (nought a) = None
number_step k (choose a b c) = None

abbrev pub less_step : Expression → Expression → Option Step
less_step (field k) b = number_step (index k) b
less_step (number hi lo) b = None
less_step (two o a c) b = None
less_step (nought a) b = None
less_step (choose a c d) b = None

abbrev pub two_step : Op → Expression → Expression → Option Step
two_step less a b = less_step a b
two_step plus a b = None
two_step minus a b = None
two_step times a b = None
two_step equal a b = None
two_step and a b = None
two_step or a b = None

-- an expression is simple if it is one step and nothing more
abbrev pub simple : Expression → Option Step
simple (two o a b) = two_step o a b
simple (field k) = None
simple (number hi lo) = None
simple (nought a) = None
simple (choose a b c) = None

-- the step told of some bytes: they are its six bytes, and wherever they are six such bytes it is told
pub record Simply (q : List ℕ) (r : Option Step) : Type 0 where
  pub told : (t : Step) → r ≡ Some t → q ≡ step t.field t.bound
  pub all : (k v : ℕ) → k < 4 → v < 65536 → q ≡ step k v → r ≡ Some (record { field = k; bound = v })

-- ---- the steps in an expression

-- an expression is stepped if every field in it belongs to a step
abbrev pub stepped : Expression → Bool
stepped (field k) = false
stepped (number hi lo) = true
stepped (two o a b) = is_some (two_step o a b) || (stepped a && stepped b)
stepped (nought a) = stepped a
stepped (choose a b c) = stepped a && (stepped b && stepped c)

abbrev pub alone : Option Step → List Step → List Step
alone (Some t) ts = t ∷ []
alone None ts = ts

-- the steps of an expression, from its first byte to its last
abbrev pub steps : Expression → List Step
steps (field k) = []
steps (number hi lo) = []
steps (two o a b) = alone (two_step o a b) (steps a ++ steps b)
steps (nought a) = steps a
steps (choose a b c) = steps a ++ (steps b ++ steps c)

-- two sheets agree on some steps
abbrev pub Agree : List Step → List ℕ → List ℕ → Type 0
Agree [] s u = Unit {0}
Agree (t ∷ ts) s u = (holds t s ≡ holds t u) × Agree ts s u
