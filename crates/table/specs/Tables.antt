-- What a table means, and when one is made. Assumes nothing.
use Rattle.std.specs.Prelude.{◌≡◌, ℕ, Bool, true, cond, not, ◌&&◌, List, length, ◌==◌, nat_le, slice_index}
use Rattle.refusal.specs.Replies.{Reply, given, refuse_if}
use Rattle.question.specs.Questions.{reads_in, all_below}
use Rattle.belief.specs.Sheets.{sum_of}
use Rattle.belief.specs.Meaning.{Meaning}
use Rattle.belief.specs.Spans.{good_span, zero_outside, span_only, good_total}
use Rattle.table.specs.declared.held.Table.{Table}
use Rattle.table.specs.Places.{in_order, size_of, place_of, fits_in}

-- the weight of four values: 0 if one of the span lies above its top; values outside the span are not looked at
unfoldable pub weight_in : ℕ → ℕ → List ℕ → List ℕ → List ℕ → ℕ
weight_in first count tops list s =
    cond (fits_in tops (span_only first count s)) (slice_index list (place_of tops (span_only first count s))) 0

-- whether span and tops are those of a table
abbrev pub shaped : ℕ → ℕ → List ℕ → Bool
shaped first count tops = good_span first count && zero_outside first count tops && nat_le (size_of tops) 1024

-- a table over a span, with a list of weights
abbrev pub tabled : ℕ → ℕ → List ℕ → List ℕ → Meaning
tabled first count tops list = record {
  first = first;
  count = count;
  tops = tops;
  weight = weight_in first count tops list;
  carries = λ h q. reads_in first count q;
  sound = shaped first count tops && good_total (sum_of tops (weight_in first count tops list));
}

-- what a table means
abbrev pub meaning : Table → Meaning
meaning t = tabled t.span.first t.span.count t.span.tops t.weights

-- ---- making

-- whether a starting weight is 1 to 65,535
abbrev pub good_weight : ℕ → Bool
good_weight w = nat_le 1 w && nat_le w 65535

unfoldable pub good_weights : List ℕ → Bool
good_weights list = all_below (length list) (λ i. good_weight (slice_index list i))

-- whether the sheets are few enough, and the list has one starting weight for each
abbrev pub good_list : List ℕ → List ℕ → Bool
good_list tops list = nat_le (size_of tops) 1024 && (length list == size_of tops && good_weights list)

-- what making a table replies: 1, 2, 3, or the table
abbrev pub table_made : ℕ → ℕ → List ℕ → List ℕ → Reply Meaning
table_made first count tops list =
    refuse_if (not (good_span first count)) 1 (
    refuse_if (not (zero_outside first count tops)) 2 (
    refuse_if (not (good_list tops list)) 3 (
    given (tabled first count tops list))))

-- a table that was made is sound, and the weights of its sheets, the last field moving fastest, are the list
pub record Filled (list : List ℕ) (m : Meaning) : Type 0 where
  pub sound : m.sound ≡ true
  pub ordered : in_order m.tops m.weight ≡ list
