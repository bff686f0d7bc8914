-- All combinations of the segments of a box's sides. Assumes nothing.
use Rattle.std.specs.Prelude.{◌≡◌, ℕ, suc, ◌+◌, Bool, cond, ◌&&◌, List, [], ◌∷◌, ◌++◌, ◌==◌}
use Rattle.question.specs.declared.steps.Step.{Step}
use Rattle.ranges.specs.declared.shapes.Side.{Side}
use Rattle.ranges.specs.Pieces.{cuts_side, below, above}

-- the segments of side k: for each step about its field it is cut between v - 1 and v, a place within one segment at most
unfoldable pub segments : List Step → ℕ → Side → List Side
segments [] k x = x ∷ []
segments (t ∷ ts) k x =
    cond (t.field == k && cuts_side x t.bound)
    (segments ts k (below x t.bound) ++ segments ts k (above x t.bound))
    (segments ts k x)

-- a segment before each of the rests, and each segment before each of the rests
unfoldable pub before : Side → List (List Side) → List (List Side)
before x [] = []
before x (p ∷ ps) = (x ∷ p) ∷ before x ps

unfoldable pub each_before : List Side → List (List Side) → List (List Side)
each_before [] ps = []
each_before (x ∷ xs) ps = before x ps ++ each_before xs ps

-- all combinations of the segments of the sides, the first of which is side k
unfoldable pub combined : List Step → ℕ → List Side → List (List Side)
combined ts k [] = [] ∷ []
combined ts k (x ∷ xs) = each_before (segments ts k x) (combined ts (suc k) xs)

-- how often a test holds in a list
unfoldable pub times : {A : Type 0} → (A → Bool) → List A → ℕ
times p [] = 0
times p (x ∷ xs) = cond (p x) 1 0 + times p xs

-- two lists hold the same, each as often: every test holds equally often in both
abbrev pub Same : {A : Type 0} → List A → List A → Type 0
Same {A} xs ys = (p : A → Bool) → times p xs ≡ times p ys
