-- The weights of a table and the shares of an answer, in the order of the sheets.
use Rattle.std.proofs.Common.{◌≡◌, ℕ, zero, suc, ◌+◌, ◌*◌, ◌<◌, ◌≤◌, min, max, Bool, true, false, cond, ◌&&◌, eqb, List, [], ◌∷◌, length, get_or, take, sym, refl, ap, ◌∙◌, subst, arith, length-take, get_or-take, take-suc, nat_le, ◌≢◌, set, get_or-set_other}
use Rattle.std.specs.List.{sum, fold, reduce, list_all}
use Rattle.std.specs.Option.{unwrap_or}
use Rattle.std.specs.Ordering.{max_by_ordering, nat_cmp}
use Rattle.std.proofs.Math.Seq.{take-length}
use Rattle.std.proofs.lemmas.List.Elements.{All-from_get_or}
use Rattle.std.proofs.lemmas.List.Folds.{list_all-append, max_of_map}
use Rattle.std.proofs.lemmas.List.Sums.{sum_by-le}
use Rattle.std.proofs.lemmas.List.Edits.{fill_by_more}
use Rattle.std.proofs.lemmas.List.{map-id}
use Rattle.question.specs.Questions.{all_below, answers}
use Rattle.belief.specs.Meaning.{Meaning, kept, total_of, peak_of, whole_of, mass_of, heaviest_of}
use Rattle.table.specs.declared.held.Table.{Table}
use Rattle.table.specs.Places.{in_order, size_of}
use Rattle.table.specs.Tables.{meaning}
use Rattle.table.specs.Walks.{Stands, Shaped, first_sheet, next_sheet, shares_from}
use Rattle.table.specs.Folds.{and_true, sheet_at, sum_in_order, max_in_order, all_in_order}
use Rattle.table.specs.Weights.{Shape, shape_of, weight_at_place, in_order_is}
use Rattle.table.proofs.Fours.{stands_first, stands_sheet, next_stands}

all_listed : (p : ℕ → Bool) (xs : List ℕ) (n : ℕ) → n ≤ length xs → list_all p (take n xs) ≡ all_below n (λ i. p (get_or xs i 0))
unfolding all_below
all_listed p xs zero l = refl
all_listed p xs (suc n) l =
    ap (list_all p) (take-suc xs n 0 l) ∙ list_all-append p (take n xs) (get_or xs n 0 ∷ [])
    ∙ ap (λ z. list_all p (take n xs) && z) (and_true (p (get_or xs n 0))) ∙ ap (λ z. z && p (get_or xs n 0)) (all_listed p xs n (omega arith))

-- whether all items of a list pass a test
pub all_items : (p : ℕ → Bool) (xs : List ℕ) → list_all p xs ≡ all_below (length xs) (λ i. p (get_or xs i 0))
all_items p xs = ap (list_all p) (sym (take-length xs)) ∙ all_listed p xs (length xs) (omega arith)

-- the greatest item of a list, or 0
pub greatest : (xs : List ℕ) → unwrap_or (reduce (λ p z. max_by_ordering (nat_cmp p z) p z) xs) 0 ≡ fold max 0 xs
greatest xs = ap (λ z. unwrap_or (reduce (λ p z. max_by_ordering (nat_cmp p z) p z) z) 0) (sym (map-id xs)) ∙ max_of_map (λ x. x) xs

-- ---- shares from a sheet on

module _ (q : List ℕ) (a : ℕ) (tops : List ℕ) where
  shares_length : (s us : List ℕ) → length (shares_from q a tops s us) ≡ length us
  shares_length s [] = refl
  shares_length s (u ∷ us) = ap suc (shares_length (next_sheet tops s) us)

  share_le : (b : Bool) (x n : ℕ) → x ≤ n → cond b x 0 ≤ n
  share_le true x n h = h
  share_le false x n h = omega arith

  shares_le : (n : ℕ) (s us : List ℕ) → ((i : ℕ) → get_or us i 0 ≤ n) → (i : ℕ) → get_or (shares_from q a tops s us) i 0 ≤ n
  shares_le n s [] h i = omega arith
  shares_le n s (u ∷ us) h zero = share_le (eqb (answers q s) a) u n (h 0)
  shares_le n s (u ∷ us) h (suc i) = shares_le n (next_sheet tops s) us (λ j. h (suc j)) i

  -- what they come to
  pub shares_sum : (n : ℕ) (s us : List ℕ) → ((i : ℕ) → get_or us i 0 ≤ n) → sum (shares_from q a tops s us) ≤ length us * n
  shares_sum n s us h =
      let b = sum_by-le (λ x. x) n (shares_from q a tops s us) (All-from_get_or (λ x. x ≤ n) (shares_from q a tops s us) 0 (λ i k. shares_le n s us h i)) in
      subst (λ z. sum (shares_from q a tops s us) ≤ z * n) (shares_length s us) b

  module _ (four : length tops ≡ 4) where
    shares_at : (us s : List ℕ) (k : ℕ) → Stands tops s k → k + length us ≤ size_of tops → (i : ℕ) → i < length us →
        get_or (shares_from q a tops s us) i 0 ≡ cond (eqb (answers q (sheet_at tops (k + i))) a) (get_or us i 0) 0
    shares_at [] s k st r i h = absurd (omega arith)
    shares_at (u ∷ us) s k st r zero h =
        let e : k ≡ k + 0 = omega arith in
        ap (λ z. cond (eqb (answers q z) a) u 0) (stands_sheet tops s k four st ∙ ap (sheet_at tops) e)
    shares_at (u ∷ us) s k st r (suc i) h =
        let e : k + 1 + i ≡ k + suc i = omega arith in
        shares_at us (next_sheet tops s) (k + 1) (next_stands tops s k four st (omega arith)) (omega arith) i (omega arith)
        ∙ ap (λ z. cond (eqb (answers q (sheet_at tops z)) a) (get_or us i 0) 0) e

-- ---- the weights that are held

module _ (t : Table) (s : Shaped t) (us : List ℕ) (e : us ≡ take (min (size_of t.span.tops) 1024) t.weights) where
  shape : Shape t.span.first t.span.count t.span.tops
  shape = shape_of t.span.first t.span.count t.span.tops t.four s.is

  held_length : length us ≡ size_of t.span.tops
  held_length =
      let k = shape.small in let p = t.places in
      let l : length us ≡ min (min (size_of t.span.tops) 1024) (length t.weights) = ap length e ∙ length-take (min (size_of t.span.tops) 1024) t.weights in omega arith

  held_at : (i : ℕ) → i < size_of t.span.tops → get_or us i 0 ≡ (meaning t).weight (sheet_at t.span.tops i)
  held_at i h =
      let k = shape.small in
      ap (λ z. get_or z i 0) e ∙ get_or-take (min (size_of t.span.tops) 1024) t.weights i 0 (omega arith) ∙ weight_at_place t.span.first t.span.count t.span.tops shape t.weights i h

  pub held_in_order : us ≡ in_order t.span.tops (meaning t).weight
  held_in_order = in_order_is t.span.tops (meaning t).weight us held_length held_at

  module _ (q : List ℕ) (a : ℕ) where
    kept_at : (i : ℕ) → i < size_of t.span.tops → get_or (shares_from q a t.span.tops first_sheet us) i 0 ≡ kept q a (meaning t).weight (sheet_at t.span.tops i)
    unfolding kept
    kept_at i h =
        let l = held_length in
        let z : i ≡ 0 + i = omega arith in
        shares_at q a t.span.tops t.four us first_sheet 0 (stands_first t.span.tops t.four) (omega arith) i (omega arith)
        ∙ ap (λ j. cond (eqb (answers q (sheet_at t.span.tops j)) a) (get_or us i 0) 0) (sym z)
        ∙ ap (λ w. cond (eqb (answers q (sheet_at t.span.tops i)) a) w 0) (held_at i h)

    pub shares_in_order : shares_from q a t.span.tops first_sheet us ≡ in_order t.span.tops (kept q a (meaning t).weight)
    shares_in_order = in_order_is t.span.tops (kept q a (meaning t).weight) _ (shares_length q a t.span.tops first_sheet us ∙ held_length) kept_at

-- ---- what the lists come to

pub total_in_order : (m : Meaning) → sum (in_order m.tops m.weight) ≡ total_of m
unfolding total_of
total_in_order m = sum_in_order m.tops m.weight

pub peak_in_order : (m : Meaning) → fold max 0 (in_order m.tops m.weight) ≡ peak_of m
unfolding peak_of
peak_in_order m = max_in_order m.tops m.weight

pub whole_in_order : (m : Meaning) → list_all (nat_le 1) (in_order m.tops m.weight) ≡ whole_of m
unfolding whole_of
whole_in_order m = all_in_order (nat_le 1) m.tops m.weight

pub mass_in_order : (m : Meaning) (q : List ℕ) (a : ℕ) → sum (in_order m.tops (kept q a m.weight)) ≡ mass_of m q a
unfolding mass_of
mass_in_order m q a = sum_in_order m.tops (kept q a m.weight)

pub heaviest_in_order : (m : Meaning) (q : List ℕ) (a : ℕ) → fold max 0 (in_order m.tops (kept q a m.weight)) ≡ heaviest_of m q a
unfolding heaviest_of
heaviest_in_order m q a = max_in_order m.tops (kept q a m.weight)

-- ---- writing

-- the weight at a place if its sheet gives the answer, else 0
unfoldable pub share_at : List ℕ → ℕ → List ℕ → List ℕ → ℕ → ℕ
share_at q a tops ws i = cond (eqb (answers q (sheet_at tops i)) a) (get_or ws i 0) 0

pub share_is : (q tops ws s : List ℕ) (a i x : ℕ) → length tops ≡ 4 → Stands tops s i → x ≡ cond (eqb (answers q s) a) (get_or ws i 0) 0 → x ≡ share_at q a tops ws i
unfolding share_at
share_is q tops ws s a i x l e h = h ∙ ap (λ z. cond (eqb (answers q z) a) (get_or ws i 0) 0) (stands_sheet tops s i l e)

-- one weight more is written
pub write_more : (f : ℕ → ℕ) (ws : List ℕ) (i y : ℕ) → i < length ws → ((j : ℕ) → j < i → get_or ws j 0 ≡ f j) → y ≡ f i → (j : ℕ) → j < i + 1 → get_or (set ws i y) j 0 ≡ f j
write_more f ws i y l h e j k = ap (λ z. get_or (set ws i z) j 0) e ∙ fill_by_more f ws i 0 l h j k

pub write_rest : (ws us : List ℕ) (i y : ℕ) → ((j : ℕ) → i ≤ j → get_or ws j 0 ≡ get_or us j 0) → (j : ℕ) → i + 1 ≤ j → get_or (set ws i y) j 0 ≡ get_or us j 0
write_rest ws us i y h j k = let ne : j ≢ i = omega arith in get_or-set_other ws i j y 0 ne ∙ h j (omega arith)

-- the sheet after a sheet, under equal tops
pub next_along : (xs ys s r : List ℕ) (i : ℕ) → xs ≡ ys → ((i : ℕ) → Stands xs s i → i + 1 < size_of xs → Stands xs r (i + 1)) → Stands ys s i → i + 1 < size_of ys → Stands ys r (i + 1)
next_along xs ys s r i e h = subst (λ z. Stands z s i → i + 1 < size_of z → Stands z r (i + 1)) e (h i)
