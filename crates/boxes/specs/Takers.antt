-- What is done with the pieces of boxes as they come. Assumes nothing.
use Rattle.std.specs.Prelude.{◌≡◌, ℕ, suc, ◌+◌, ◌-◌, ◌*◌, ◌^◌, ◌≤◌, min, max, cond, List, length, take, replicate, ◌==◌, nat_lt, slice_index, slice_set}
use Rattle.question.specs.Expressions.{greatest}
use Rattle.question.specs.Questions.{answers}
use Rattle.question.specs.Texts.{text}
use Rattle.ranges.specs.declared.shapes.Side.{Side}
use Rattle.ranges.specs.declared.shapes.WeightedBox.{WeightedBox}
use Rattle.ranges.specs.Boxes.{inside, volume, corner, total_in, peak_in}
use Rattle.boxes.specs.declared.lists.BoxList.{BoxList}
use Rattle.boxes.specs.declared.takers.Wanted.{Wanted}
use Rattle.boxes.specs.declared.takers.Tally.{Tally}
use Rattle.boxes.specs.declared.takers.Sieve.{Sieve}
use Rattle.boxes.specs.declared.takers.Press.{Press}
use Rattle.boxes.specs.Holding.{most_boxes}

-- a sum or a product as far as 64 bits hold it
abbrev pub capped : ℕ → ℕ
capped n = min n (2 ^ 64 - 1)

-- the boxes of a list
unfoldable pub listed : BoxList → List WeightedBox
listed l = take l.len l.boxes

-- one box more; past the last place it is only counted
unfoldable pub put : BoxList → WeightedBox → BoxList
put l b = record { boxes = cond (nat_lt l.len most_boxes) (slice_set l.boxes l.len b) l.boxes; len = capped (l.len + 1) }

-- ---- what a taker makes of one piece more

-- the answer that a piece gives
abbrev pub answer_of : List ℕ → WeightedBox → ℕ
answer_of q p = answers q (corner p.sides)

-- one piece more is counted, and weighed if it gives the answer
unfoldable pub counted : List ℕ → ℕ → List ℕ
counted ns a = slice_set ns a (min (slice_index ns a + 1) 255)

abbrev pub untallied : Wanted → Tally
untallied wanted = record { wanted = wanted; pieces = replicate (suc greatest) 0; mass = 0; heaviest = 0 }

unfoldable pub tallied : Tally → WeightedBox → Tally
tallied t p = record {
  wanted = t.wanted;
  pieces = counted t.pieces (answer_of (text t.wanted.question) p);
  mass = cond (answer_of (text t.wanted.question) p == t.wanted.answer) (capped (t.mass + capped (volume p.sides * p.weight))) t.mass;
  heaviest = cond (answer_of (text t.wanted.question) p == t.wanted.answer) (max t.heaviest p.weight) t.heaviest;
}

-- one piece more is kept if it gives the answer
unfoldable pub sifted : Sieve → WeightedBox → Sieve
sifted s p = record {
  wanted = s.wanted;
  kept = cond (answer_of (text s.wanted.question) p == s.wanted.answer) (put s.kept p) s.kept;
}

-- one piece more is kept, its weight multiplied inside the box
unfoldable pub capped_piece : List Side → ℕ → WeightedBox → WeightedBox
capped_piece x f p = record { sides = p.sides; weight = cond (inside x (corner p.sides)) (capped (p.weight * f)) p.weight }

unfoldable pub pressed : Press → WeightedBox → Press
pressed s p = record { around = s.around; factor = s.factor; kept = put s.kept (capped_piece s.around s.factor p) }

-- ---- what the inner functions promise

-- a tally has what boxes weigh together, and their greatest weight
pub record Weighed (t : Tally) (bs : List WeightedBox) : Type 0 where
  pub mass : t.mass ≡ capped (total_in bs)
  pub heaviest : t.heaviest ≡ peak_in bs

-- a list has put so many boxes, and holds them if there is room for all
pub record Holds (l : BoxList) (bs : List WeightedBox) : Type 0 where
  pub len : l.len ≡ capped (length bs)
  pub all : length bs ≤ most_boxes → listed l ≡ bs
