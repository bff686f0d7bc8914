-- What a belief kept as boxes means, and what making and leaning give. Assumes nothing.
use Rattle.std.specs.Prelude.{◌≡◌, ℕ, suc, ◌*◌, Bool, true, false, cond, not, ◌&&◌, List, [], ◌∷◌, length, take, replicate, Ok, Err, Result, nat_eq, nat_le}
use Rattle.refusal.specs.declared.list.Refusal.{Refusal}
use Rattle.refusal.specs.Replies.{Reply, given, mapped, refuse_if}
use Rattle.question.specs.Expressions.{greatest}
use Rattle.question.specs.Questions.{is_stepped, reads_in, all_below}
use Rattle.belief.specs.Sheets.{all_of}
use Rattle.belief.specs.Meaning.{Asked, Meaning}
use Rattle.belief.specs.Spans.{good_span, zero_outside, span_only, span_made, most_total, good_total}
use Rattle.ranges.specs.declared.shapes.Side.{Side}
use Rattle.ranges.specs.declared.shapes.WeightedBox.{WeightedBox}
use Rattle.ranges.specs.Boxes.{inside, entire, weight_at, total_in, fits, fit_all, disjoint}
use Rattle.ranges.specs.Changes.{revised_boxes, leaned_boxes}
use Rattle.boxes.specs.declared.holding.Boxes.{Boxes}

-- the most boxes that are kept
abbrev pub most_boxes : ℕ
most_boxes = 64

-- ---- what boxes mean

-- the weight of four bytes: those outside the span are not looked at
unfoldable pub weight_in : ℕ → ℕ → List WeightedBox → List ℕ → ℕ
weight_in first count bs s = weight_at bs (span_only first count s)

-- at most 64 boxes, each within the tops, not empty and of weight 1 at least, no two with a sheet in common,
-- and a total of 1 to 2 to the 40th
unfoldable pub good_boxes : List ℕ → List WeightedBox → Bool
good_boxes tops bs = nat_le (length bs) most_boxes && (fit_all tops bs && (disjoint bs && good_total (total_in bs)))

-- sound boxes: such boxes over a span with its tops
unfoldable pub sound_in : ℕ → ℕ → List ℕ → List WeightedBox → Bool
sound_in first count tops bs = (good_span first count && zero_outside first count tops) && good_boxes tops bs

-- a question is carried if it is stepped, reads only fields of the span,
-- and for each answer at most 64 pieces of all boxes together give it
unfoldable pub carried : ℕ → ℕ → List WeightedBox → List ℕ → Bool
carried first count bs q = is_stepped q && (reads_in first count q && all_below (suc greatest) (λ a. nat_le (length (revised_boxes q a bs)) most_boxes))

-- the boxes after a list of revisings, the oldest first
unfoldable pub after : List Asked → List WeightedBox → List WeightedBox
after [] bs = bs
after (x ∷ h) bs = after h (revised_boxes x.question x.answer bs)

abbrev pub boxed : ℕ → ℕ → List ℕ → List WeightedBox → Meaning
boxed first count tops bs = record {
  first = first;
  count = count;
  tops = tops;
  weight = weight_in first count bs;
  carries = λ h q. carried first count (after h bs) q;
  sound = sound_in first count tops bs;
}

-- the boxes that are kept, and what they mean
unfoldable pub held : Boxes → List WeightedBox
held b = take b.kept.len b.kept.boxes

abbrev pub meaning : Boxes → Meaning
meaning b = boxed b.span.first b.span.count b.span.tops (held b)

-- ---- making

-- one box over the whole span, of weight 1
abbrev pub single : List ℕ → List WeightedBox
single tops = record { sides = entire tops; weight = 1 } ∷ []

-- fresh boxes: 1 or 2, else one box over the whole span, of weight 1
abbrev pub making : ℕ → ℕ → List ℕ → Reply Meaning
making first count tops = mapped (λ x. boxed x.first x.count x.tops (single x.tops)) (span_made first count tops)

-- a fresh belief is sound, and every sheet of its span weighs 1
pub record Fresh (m : Meaning) : Type 0 where
  pub sound : m.sound ≡ true
  pub ones : all_of m.tops (λ s. nat_eq (m.weight s) 1) ≡ true

-- a value to fill memory with: no boxes over no span, so it is not sound
pub record Blank (b : Boxes) : Type 0 where
  pub is : meaning b ≡ boxed 0 0 (replicate 4 0) []
  pub sound : (meaning b).sound ≡ false

-- ---- leaning

-- the box from a lowest to a highest value for each field
unfoldable pub between : List ℕ → List ℕ → List Side
between [] hs = []
between (l ∷ ls) [] = []
between (l ∷ ls) (h ∷ hs) = record { low = l; high = h } ∷ between ls hs

-- whether no value lies above its top, no lowest above its highest, and no byte outside the span is not 0
unfoldable pub good_edges : ℕ → ℕ → List ℕ → List ℕ → List ℕ → Bool
good_edges first count tops ls hs = fits tops (between ls hs) && (zero_outside first count ls && zero_outside first count hs)

abbrev pub good_factor : ℕ → Bool
good_factor f = nat_le 2 f && nat_le f 255

-- whether boxes are few enough, and light enough together
unfoldable pub room : List WeightedBox → Bool
room bs = nat_le (length bs) most_boxes && nat_le (total_in bs) most_total

-- what leaning on the box from ls to hs by the factor f replies: 2, then 3, then 5
unfoldable pub leaning : Boxes → List ℕ → List ℕ → ℕ → Reply (Unit {0})
leaning b ls hs f =
    refuse_if (not (good_edges b.span.first b.span.count b.span.tops ls hs)) 2 (
    refuse_if (not (good_factor f)) 3 (
    refuse_if (not (room (leaned_boxes (between ls hs) f (held b)))) 5 (
    given tt)))

-- what it leaves, by what it returned
abbrev pub leaned_to : Result (Unit {0}) Refusal → Boxes → List ℕ → List ℕ → ℕ → Meaning
leaned_to (Ok u) b ls hs f = boxed b.span.first b.span.count b.span.tops (leaned_boxes (between ls hs) f (held b))
leaned_to (Err e) b ls hs f = meaning b

-- sound boxes that were leaned stay sound, and the weights of the sheets inside the box are multiplied, all others kept
pub record Leaned (m n : Meaning) (x : List Side) (f : ℕ) : Type 0 where
  pub sound : n.sound ≡ true
  pub weights : (s : List ℕ) → n.weight s ≡ cond (inside x (span_only m.first m.count s)) (m.weight s * f) (m.weight s)
