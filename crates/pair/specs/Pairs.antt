-- What a pair of beliefs means, and when one is made. Assumes nothing.
use Rattle.std.specs.Prelude.{ℕ, ◌+◌, ◌*◌, Bool, false, cond, not, ◌&&◌, Some, None, Option, List, [], ◌∷◌, ◌==◌, nat_le}
use Rattle.refusal.specs.Replies.{Reply, given, refuse_if}
use Rattle.question.specs.Questions.{reads_in}
use Rattle.belief.specs.Joined.{joined}
use Rattle.belief.specs.Meaning.{Meaning, Asked, total_of}
use Rattle.belief.specs.Spans.{most_total}
use Rattle.pair.specs.declared.joint.Side.{Side}
use Rattle.pair.specs.declared.joint.Side.TheVariants.{Left, Right}

-- whether all fields that a question reads are a side's
abbrev pub within : Meaning → List ℕ → Bool
within m q = reads_in m.first m.count q

-- the side that a question is asked of: the left if all fields that it reads are the left's, else the right if they are the right's
abbrev pub side_of : Meaning → Meaning → List ℕ → Option Side
side_of l r q = cond (within l q) (Some Left) (cond (within r q) (Some Right) None)

-- the revisings that went to the left side
abbrev pub left_ones : Meaning → List Asked → List Asked
left_ones l [] = []
left_ones l (a ∷ h) = cond (within l a.question) (a ∷ left_ones l h) (left_ones l h)

-- the revisings that went to the right side: not the left's, but the right's
abbrev pub right_ones : Meaning → Meaning → List Asked → List Asked
right_ones l r [] = []
right_ones l r (a ∷ h) = cond (within l a.question) (right_ones l r h) (cond (within r a.question) (a ∷ right_ones l r h) (right_ones l r h))

-- a question of the left's fields is the left's to carry, else one of the right's fields the right's; any other is not carried
abbrev pub pair_carries : Meaning → Meaning → List Asked → List ℕ → Bool
pair_carries l r h q = cond (within l q) (l.carries (left_ones l h) q) (cond (within r q) (r.carries (right_ones l r h) q) false)

-- whether both sides are sound and the right begins where the left ends
abbrev pub sides : Meaning → Meaning → Bool
sides l r = l.sound && r.sound && r.first == l.first + l.count

-- whether the total stays within its limit
abbrev pub light : Meaning → Meaning → Bool
light l r = nat_le (total_of l * total_of r) most_total

-- two beliefs side by side: a sheet weighs its left weight times its right weight
abbrev pub paired : Meaning → Meaning → Meaning
paired l r = record {
  first = l.first;
  count = l.count + r.count;
  tops = joined l.tops r.tops;
  weight = λ s. l.weight s * r.weight s;
  carries = pair_carries l r;
  sound = sides l r && light l r;
}

-- what making a pair replies: 4, 5, or the pair
abbrev pub pair_made : Meaning → Meaning → Reply Meaning
pair_made l r =
    refuse_if (not (sides l r)) 4 (
    refuse_if (not (light l r)) 5 (
    given (paired l r)))
