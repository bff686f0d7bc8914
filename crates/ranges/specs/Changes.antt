-- What revising and leaning make of boxes. Assumes nothing.
use Rattle.std.specs.Prelude.{ℕ, suc, ◌+◌, ◌*◌, Bool, cond, List, [], ◌∷◌, map, filter, ◌==◌}
use Rattle.question.specs.declared.steps.Step.{Step}
use Rattle.question.specs.Questions.{answers, steps_of}
use Rattle.ranges.specs.declared.shapes.Side.{Side}
use Rattle.ranges.specs.declared.shapes.WeightedBox.{WeightedBox}
use Rattle.ranges.specs.Boxes.{inside, corner}
use Rattle.ranges.specs.Pieces.{cut_all}

-- ---- revising

-- whether a piece gives an answer: its lowest sheet does, and with it every sheet of it
unfoldable pub gives : List ℕ → ℕ → WeightedBox → Bool
gives q a p = answers q (corner p.sides) == a

-- the boxes after a revising: the pieces of all boxes under the question's steps that give the answer
unfoldable pub revised_boxes : List ℕ → ℕ → List WeightedBox → List WeightedBox
revised_boxes q a bs = filter (gives q a) (cut_all (steps_of q) bs)

-- ---- leaning

-- the edges of a box as steps, from field k on
unfoldable pub edges : ℕ → List Side → List Step
edges k [] = []
edges k (x ∷ xs) = record { field = k; bound = x.low } ∷ record { field = k; bound = x.high + 1 } ∷ edges (suc k) xs

-- a piece, its weight multiplied if it lies inside the box x
unfoldable pub leaned_piece : List Side → ℕ → WeightedBox → WeightedBox
leaned_piece x f p = record { sides = p.sides; weight = cond (inside x (corner p.sides)) (p.weight * f) p.weight }

-- the boxes after a leaning: the pieces of all boxes under the box's edges, those inside it multiplied
unfoldable pub leaned_boxes : List Side → ℕ → List WeightedBox → List WeightedBox
leaned_boxes x f bs = map (leaned_piece x f) (cut_all (edges 0 x) bs)
