-- What the definitions of boxes promise, in words of sheets, steps and answers. Assumes nothing.
use Rattle.std.specs.Prelude.{◌≡◌, ℕ, ◌+◌, ◌<◌, ◌≤◌, true, false, cond, List, [], ◌∷◌, length, All, Decides, slice_index}
use Rattle.question.specs.declared.steps.Step.{Step}
use Rattle.question.specs.Steps.{Agree}
use Rattle.question.specs.Questions.{answers, is_stepped, steps_of, in_span}
use Rattle.belief.specs.Sheets.{sum_of}
use Rattle.belief.specs.Meaning.{total_of, peak_of}
use Rattle.belief.specs.Spans.{most_total}
use Rattle.ranges.specs.declared.shapes.Side.{Side}
use Rattle.ranges.specs.declared.shapes.WeightedBox.{WeightedBox}
use Rattle.ranges.specs.Boxes.{inside, fits, corner, cover_at, fit_all}
use Rattle.ranges.specs.Pieces.{pieces, cut_all}
use Rattle.ranges.specs.Combinations.{combined, times, Same}
use Rattle.ranges.specs.Changes.{leaned_boxes}
use Rattle.boxes.specs.Holding.{most_boxes, weight_in, sound_in, boxed, single, between}

-- ---- worked cases: fresh boxes over one field, leaned once

pub record Case : Type 0 where
  pub tops : List ℕ
  pub lowest : List ℕ
  pub highest : List ℕ
  pub factor : ℕ
  pub boxes : ℕ
  pub total : ℕ
  pub peak : ℕ

abbrev pub leaned_case : Case → List WeightedBox
leaned_case c = leaned_boxes (between c.lowest c.highest) c.factor (single c.tops)

abbrev pub Hold : List Case → Type 0
Hold [] = Unit {0}
Hold (c ∷ cs) =
    (length (leaned_case c) ≡ c.boxes) × (total_of (boxed 0 1 c.tops (leaned_case c)) ≡ c.total) × (peak_of (boxed 0 1 c.tops (leaned_case c)) ≡ c.peak) × Hold cs

-- over 0 to 99, leaned on 40 to 59 by 3: three boxes, total 140, peak 3
abbrev pub cases : List Case
cases =
    record { tops = 99 ∷ 0 ∷ 0 ∷ 0 ∷ []; lowest = 40 ∷ 0 ∷ 0 ∷ 0 ∷ []; highest = 59 ∷ 0 ∷ 0 ∷ 0 ∷ []; factor = 3; boxes = 3; total = 140; peak = 3 }
    ∷ []

-- ---- pieces

-- the pieces of a box are all combinations of the segments of its sides, each as often
abbrev pub Combined : Type 0
Combined = (ts : List Step) (xs : List Side) → Same (pieces ts xs) (combined ts 0 xs)

-- they are the sheets of the box, sorted by what the steps say of them
pub record Sorted (ts : List Step) (xs : List Side) : Type 0 where
  -- every sheet of the box lies in one piece, and no other sheet in any
  pub once : (s : List ℕ) → times (λ p. inside p s) (pieces ts xs) ≡ cond (inside xs s) 1 0
  -- of two sheets of one piece every step says the same
  pub agree : All (λ p. (s u : List ℕ) → inside p s ≡ true → inside p u ≡ true → Agree ts s u) (pieces ts xs)
  -- two sheets of the box of which every step says the same lie in the same pieces
  pub joint : (s u : List ℕ) → inside xs s ≡ true → inside xs u ≡ true → Agree ts s u → All (λ p. inside p s ≡ inside p u) (pieces ts xs)

abbrev pub Sorts : Type 0
Sorts = (tops : List ℕ) (ts : List Step) (xs : List Side) → fits tops xs ≡ true → All (λ t. t.field < length tops) ts → Sorted ts xs

-- all sheets of a piece give the answer of its lowest sheet
abbrev pub OneAnswer : Type 0
OneAnswer =
    (tops q : List ℕ) (bs : List WeightedBox) → length tops ≡ 4 → is_stepped q ≡ true → fit_all tops bs ≡ true →
    All (λ p. (s : List ℕ) → inside p.sides s ≡ true → answers q s ≡ answers q (corner p.sides)) (cut_all (steps_of q) bs)

-- ---- soundness

-- what sound boxes are
pub record Sound (first count : ℕ) (tops : List ℕ) (bs : List WeightedBox) : Type 0 where
  -- the span has a field, and ends with the last field at most; tops are 0 outside it
  pub some : 1 ≤ count
  pub last : first + count ≤ 4
  pub outside : (k : ℕ) → in_span first count k ≡ false → slice_index tops k ≡ 0
  pub few : length bs ≤ most_boxes
  -- no box is empty or passes the tops, and each weighs at least 1
  pub fit : All (λ b. (fits tops b.sides ≡ true) × (1 ≤ b.weight)) bs
  -- every sheet lies in one box at most
  pub apart : (s : List ℕ) → cover_at bs s ≤ 1
  -- all sheets of the span weigh 1 to 2 to the 40th together
  pub least : 1 ≤ sum_of tops (weight_in first count bs)
  pub most : sum_of tops (weight_in first count bs) ≤ most_total

-- the test says exactly that
abbrev pub Soundness : Type 0
Soundness = (first count : ℕ) (tops : List ℕ) (bs : List WeightedBox) → length tops ≡ 4 → Decides (sound_in first count tops bs) (Sound first count tops bs)
