-- A sound table keeps the laws, and revising it revises its meaning.
use Rattle.std.specs.Prelude.{◌≡◌, ℕ, ◌*◌, ◌^◌, ◌<◌, ◌≤◌, Bool, true, false, cond, ◌&&◌, nat_le, List, length, take, ◌==◌, slice_index}
use Rattle.std.proofs.Math.Path.{refl, sym, ap}
use Rattle.std.proofs.Common.{◌∙◌, arith, get_or-take, leb-true, eqb-true}
use Rattle.std.specs.List.{sum}
use Rattle.std.proofs.lemmas.List.Elements.{All-from_get_or}
use Rattle.std.proofs.lemmas.List.Sums.{sum_by-le, get_or-le-sum_by}
use Rattle.refusal.specs.Replies.{given}
use Rattle.question.specs.Questions.{in_span, answers, reads_in}
use Rattle.question.proofs.Questions.{and_left, and_right, below_at, answers_span, step_inside}
use Rattle.belief.specs.Sheets.{sum_of}
use Rattle.belief.specs.Meaning.{Meaning, Laws, kept, total_of, mass_of, revised}
use Rattle.belief.proofs.Sums.{mass_total}
use Rattle.belief.proofs.Revisings.{ext, same}
use Rattle.belief.specs.Spans.{good_span, zero_outside, span_only, good_total}
use Rattle.belief.proofs.Spanned.{total_least, total_most, total_good, in_below, span_agree, span_same, span_length}
use Rattle.table.specs.declared.held.Table.{Table}
use Rattle.table.specs.Places.{size_of, place_of, fits_in}
use Rattle.table.specs.Tables.{good_weight, good_weights, good_list, weight_in, shaped, tabled, meaning, table_made, Filled}
use Rattle.table.specs.Walks.{Shaped, Kept}
use Rattle.table.specs.Folds.{sum_in_order}
use Rattle.table.specs.Order.{size_pos, place_below, above_fits}
use Rattle.table.specs.Weights.{Shape, shape_of, weight_by, weight_none, weight_le, in_order_again}

-- what sound says
pub shaped_of : (f c : ℕ) (tops : List ℕ) (t : ℕ) → (shaped f c tops && good_total t) ≡ true → shaped f c tops ≡ true
shaped_of f c tops t e = and_left (shaped f c tops) (good_total t) e

good_sum : (f c : ℕ) (tops ws : List ℕ) → (tabled f c tops ws).sound ≡ true → good_total (sum_of tops (weight_in f c tops ws)) ≡ true
good_sum f c tops ws e = and_right (shaped f c tops) _ e

sound_by : (b : Bool) (t : ℕ) → b ≡ true → 1 ≤ t → t ≤ 2 ^ 40 → (b && good_total t) ≡ true
sound_by b t e h k = let g = total_good t h k in simp (e, g)

pub sound_shape : (f c : ℕ) (tops ws : List ℕ) → length tops ≡ 4 → (tabled f c tops ws).sound ≡ true → Shape f c tops
sound_shape f c tops ws l e = shape_of f c tops l (shaped_of f c tops (sum_of tops (weight_in f c tops ws)) e)

pub shaped_is : (t : Table) → (meaning t).sound ≡ true → Shaped t
shaped_is t e = record { is = shaped_of t.span.first t.span.count t.span.tops (sum_of t.span.tops (weight_in t.span.first t.span.count t.span.tops t.weights)) e }

-- ---- the laws

weight_above : (f c : ℕ) (tops ws s : List ℕ) (k : ℕ) → Shape f c tops → in_span f c k ≡ true → slice_index tops k < slice_index s k → weight_in f c tops ws s ≡ 0
weight_above f c tops ws s k p i h =
    let e = span_same f c s p.fits k i in
    let n : fits_in tops (span_only f c s) ≡ false = above_fits tops (span_only f c s) k (span_length f c s ∙ sym p.four) (omega arith) in
    weight_none f c tops ws s n

pub table_laws : (f c : ℕ) (tops ws : List ℕ) → length tops ≡ 4 → (tabled f c tops ws).sound ≡ true → Laws (tabled f c tops ws)
unfolding total_of
table_laws f c tops ws l e =
    let p = sound_shape f c tops ws l e in
    record {
      least = total_least _ (good_sum f c tops ws e);
      most = total_most _ (good_sum f c tops ws e);
      some = p.some;
      fits = p.fits;
      four = l;
      outside = p.out;
      local = λ s t h. weight_by f c tops ws s t (span_agree f c s t h);
      above = λ s k i h. weight_above f c tops ws s k p i h;
      bounded = weight_le f c tops p ws;
      spans = λ q h. h;
      simple = λ k v i b. let u = in_below f c k i in let d = p.fits in step_inside f c k v (omega arith) b i;
    }

-- ---- what weight returns

pub weigh_not : (f c : ℕ) (tops ws s own : List ℕ) (r : Bool) → own ≡ span_only f c s → r ≡ fits_in tops own → r ≡ false → 0 ≡ weight_in f c tops ws s
unfolding weight_in
weigh_not f c tops ws s own r e h n =
    let z : fits_in tops (span_only f c s) ≡ false = ap (fits_in tops) (sym e) ∙ sym h ∙ n in
    ap (λ b. cond b (slice_index ws (place_of tops (span_only f c s))) 0) (sym z)

pub weigh_is : (f c : ℕ) (tops ws s own : List ℕ) (r : Bool) (at : ℕ) → own ≡ span_only f c s → r ≡ fits_in tops own → r ≡ true → at ≡ place_of tops own → slice_index ws at ≡ weight_in f c tops ws s
unfolding weight_in
weigh_is f c tops ws s own r at e h n p =
    let z : fits_in tops (span_only f c s) ≡ true = ap (fits_in tops) (sym e) ∙ sym h ∙ n in
    ap (λ x. slice_index ws x) (p ∙ ap (place_of tops) e) ∙ ap (λ b. cond b (slice_index ws (place_of tops (span_only f c s))) 0) (sym z)

pub place_room : (t : Table) (s own : List ℕ) (r : Bool) (at : ℕ) → (meaning t).sound ≡ true → own ≡ span_only t.span.first t.span.count s → r ≡ fits_in t.span.tops own → r ≡ true → at ≡ place_of t.span.tops own → at < 1024
place_room t s own r at q e h n p =
    let l : length own ≡ length t.span.tops = ap length e ∙ span_length t.span.first t.span.count s ∙ sym t.four in
    let b = place_below t.span.tops own l (sym h ∙ n) in let k = (sound_shape t.span.first t.span.count t.span.tops t.weights t.four q).small in omega arith

-- ---- revising

none : (b : Bool) → ◌≡◌ {A = ℕ} 0 (cond b 0 0)
none true = refl
none false = refl

-- the weights of the sheets that give the answer are the revised table's
module _ (f c : ℕ) (tops ws us q : List ℕ) (a : ℕ) (l : length tops ≡ 4) (e : (tabled f c tops ws).sound ≡ true) (r : reads_in f c q ≡ true)
    (h : (s : List ℕ) → length s ≡ 4 → fits_in tops s ≡ true → place_of tops s < 1024 → slice_index us (place_of tops s) ≡ cond (answers q s == a) (slice_index ws (place_of tops s)) 0) where
  shape_now : Shape f c tops
  shape_now = sound_shape f c tops ws l e

  weights_kept : (s : List ℕ) → weight_in f c tops us s ≡ kept q a (weight_in f c tops ws) s
  unfolding weight_in kept
  weights_kept s = by (fits_in tops (span_only f c s)) refl
    where
      by : (b : Bool) → fits_in tops (span_only f c s) ≡ b →
          cond b (slice_index us (place_of tops (span_only f c s))) 0 ≡ cond (answers q s == a) (cond b (slice_index ws (place_of tops (span_only f c s))) 0) 0
      by true t =
          let k = place_below tops (span_only f c s) (span_length f c s ∙ sym l) t in
          let m = shape_now.small in
          let y = answers_span f c q s (span_only f c s) r (span_same f c s shape_now.fits) in
          h (span_only f c s) (span_length f c s) t (omega arith) ∙ ap (λ z. cond (z == a) (slice_index ws (place_of tops (span_only f c s))) 0) (sym y)
      by false t = none (answers q s == a)

  table_revised : 1 ≤ mass_of (tabled f c tops ws) q a → tabled f c tops us ≡ revised (tabled f c tops ws) q a
  unfolding revised total_of mass_of
  table_revised m =
      let w : weight_in f c tops us ≡ kept q a (weight_in f c tops ws) = ext weights_kept in
      let t : sum_of tops (weight_in f c tops us) ≡ sum_of tops (kept q a (weight_in f c tops ws)) = ap (sum_of tops) w in
      let le : sum_of tops (kept q a (weight_in f c tops ws)) ≤ sum_of tops (weight_in f c tops ws) = mass_total (tabled f c tops ws) q a in
      let most : sum_of tops (weight_in f c tops ws) ≤ 2 ^ 40 = total_most _ (good_sum f c tops ws e) in
      same _ _ refl refl refl w refl (sound_by (shaped f c tops) (sum_of tops (weight_in f c tops us)) (shaped_of f c tops (sum_of tops (weight_in f c tops ws)) e) (omega arith) (omega arith) ∙ sym e)

pub kept_revised : (t u : Table) (q : List ℕ) (a : ℕ) → (meaning t).sound ≡ true → reads_in t.span.first t.span.count q ≡ true → 1 ≤ mass_of (meaning t) q a → Kept q a t u → meaning u ≡ revised (meaning t) q a
kept_revised t u q a e r m k =
    ap (λ z. tabled z.first z.count z.tops u.weights) k.span
    ∙ table_revised t.span.first t.span.count t.span.tops t.weights u.weights q a t.four e r k.weights m

-- ---- making

good_at : (list : List ℕ) → good_weights list ≡ true → (i : ℕ) → i < length list → (1 ≤ slice_index list i) × (slice_index list i ≤ 65535)
unfolding good_weights
good_at list e i h = let g = below_at (length list) (λ i. good_weight (slice_index list i)) i e h in (leb-true _ _ (and_left _ _ g), leb-true _ _ (and_right (nat_le 1 (slice_index list i)) _ g))

-- the tests of a making, passed
pub record Good (f c : ℕ) (tops list : List ℕ) : Type 0 where
  pub span : good_span f c ≡ true
  pub zeros : zero_outside f c tops ≡ true
  pub weights : good_list tops list ≡ true
  pub four : length tops ≡ 4

module _ (f c : ℕ) (tops list : List ℕ) (g : Good f c tops list) where
  small : nat_le (size_of tops) 1024 ≡ true
  small = and_left (nat_le (size_of tops) 1024) (length list == size_of tops && good_weights list) g.weights

  rest : (length list == size_of tops && good_weights list) ≡ true
  rest = and_right (nat_le (size_of tops) 1024) (length list == size_of tops && good_weights list) g.weights

  long : length list ≡ size_of tops
  long = eqb-true _ _ (and_left (length list == size_of tops) (good_weights list) rest)

  is_shaped : shaped f c tops ≡ true
  is_shaped = let e = g.span in let z = g.zeros in let s = small in simp (e, z, s)

  shape : Shape f c tops
  shape = shape_of f c tops g.four is_shaped

  pub made_few : length list ≤ 1024
  made_few = let l = long in let s = shape.small in omega arith

  made_sound : (tabled f c tops list).sound ≡ true
  made_sound =
      let t : sum_of tops (weight_in f c tops list) ≡ sum list = sym (sum_in_order tops (weight_in f c tops list)) ∙ ap sum (sym (in_order_again f c tops shape list long)) in
      let l = long in let z = size_pos tops in let k = shape.small in
      let w = good_at list (and_right (length list == size_of tops) (good_weights list) rest) in
      let lo : slice_index list 0 ≤ sum list = get_or-le-sum_by (λ x. x) list 0 0 (omega arith) in
      let one : (1 ≤ slice_index list 0) × (slice_index list 0 ≤ 65535) = w 0 (omega arith) in
      let hi : sum list ≤ length list * 65535 = sum_by-le (λ x. x) 65535 list (All-from_get_or (λ x. x ≤ 65535) list 0 (λ i h. (w i h).1)) in
      sound_by (shaped f c tops) (sum_of tops (weight_in f c tops list)) is_shaped (omega arith) (omega arith)

  copied_at : (ws : List ℕ) → take (length list) ws ≡ list → (s : List ℕ) → weight_in f c tops ws s ≡ weight_in f c tops list s
  unfolding weight_in
  copied_at ws e s = by (fits_in tops (span_only f c s)) refl
    where
      by : (b : Bool) → fits_in tops (span_only f c s) ≡ b → cond b (slice_index ws (place_of tops (span_only f c s))) 0 ≡ cond b (slice_index list (place_of tops (span_only f c s))) 0
      by true h =
          let b = place_below tops (span_only f c s) (span_length f c s ∙ sym g.four) h in let l = long in
          sym (get_or-take (length list) ws (place_of tops (span_only f c s)) 0 (omega arith)) ∙ ap (λ z. slice_index z (place_of tops (span_only f c s))) e
      by false h = refl

  -- copying the weights keeps the meaning
  pub table_copied : (ws : List ℕ) → take (length list) ws ≡ list → tabled f c tops ws ≡ tabled f c tops list
  table_copied ws e =
      let w : weight_in f c tops ws ≡ weight_in f c tops list = ext (copied_at ws e) in
      same _ _ refl refl refl w refl (ap (λ w. shaped f c tops && good_total (sum_of tops w)) w)

  pub made_filled : Filled list (tabled f c tops list)
  made_filled = record { sound = made_sound; ordered = sym (in_order_again f c tops shape list long) }

  pub made_is : (m : Meaning) → m ≡ tabled f c tops list → given m ≡ table_made f c tops list
  made_is m e = let a = g.span in let b = g.zeros in let d = g.weights in ap (λ z. given z) e ∙ simp (a, b, d)
