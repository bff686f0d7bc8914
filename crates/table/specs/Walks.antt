-- What the inner functions promise. Assumes nothing.
use Rattle.std.specs.Prelude.{◌≡◌, ℕ, ◌+◌, ◌<◌, true, cond, List, [], ◌∷◌, length, ◌==◌, nat_lt, slice_index}
use Rattle.question.specs.Questions.{answers}
use Rattle.question.specs.Texts.{text}
use Rattle.table.specs.declared.held.Table.{Table}
use Rattle.table.specs.declared.walks.Shares.{Shares}
use Rattle.table.specs.Places.{place_of, fits_in}
use Rattle.table.specs.Tables.{shaped}

-- span and tops are those of a table
pub record Shaped (t : Table) : Type 0 where
  pub is : shaped t.span.first t.span.count t.span.tops ≡ true

-- each sheet that gives the answer keeps its weight, and each other gets 0
pub record Kept (q : List ℕ) (a : ℕ) (t u : Table) : Type 0 where
  pub span : u.span ≡ t.span
  pub weights : (s : List ℕ) → length s ≡ 4 → fits_in t.span.tops s ≡ true → place_of t.span.tops s < 1024 →
      slice_index u.weights (place_of t.span.tops s) ≡ cond (answers q s == a) (slice_index t.weights (place_of t.span.tops s)) 0

-- a sheet within the tops with so many sheets before it
pub record Stands (tops s : List ℕ) (i : ℕ) : Type 0 where
  pub four : length s ≡ 4
  pub fits : fits_in tops s ≡ true
  pub place : place_of tops s ≡ i

-- the sheet with no sheet before it
abbrev pub first_sheet : List ℕ
first_sheet = 0 ∷ 0 ∷ 0 ∷ 0 ∷ []

-- the sheet after a sheet, and the first one after the last
unfoldable pub next_sheet : List ℕ → List ℕ → List ℕ
next_sheet tops s =
    cond (nat_lt (slice_index s 3) (slice_index tops 3)) (slice_index s 0 ∷ slice_index s 1 ∷ slice_index s 2 ∷ (slice_index s 3 + 1) ∷ []) (
    cond (nat_lt (slice_index s 2) (slice_index tops 2)) (slice_index s 0 ∷ slice_index s 1 ∷ (slice_index s 2 + 1) ∷ 0 ∷ []) (
    cond (nat_lt (slice_index s 1) (slice_index tops 1)) (slice_index s 0 ∷ (slice_index s 1 + 1) ∷ 0 ∷ 0 ∷ []) (
    cond (nat_lt (slice_index s 0) (slice_index tops 0)) ((slice_index s 0 + 1) ∷ 0 ∷ 0 ∷ 0 ∷ []) first_sheet)))

-- a list of weights, from a sheet on, with 0 for each sheet that does not give the answer
abbrev pub shares_from : List ℕ → ℕ → List ℕ → List ℕ → List ℕ → List ℕ
shares_from q a tops s [] = []
shares_from q a tops s (w ∷ ws) = cond (answers q s == a) w 0 ∷ shares_from q a tops (next_sheet tops s) ws

-- those that are still to come
abbrev pub shares_left : Shares → List ℕ
shares_left it = shares_from (text it.question.now) it.answer it.tops it.sheet it.weights.now
