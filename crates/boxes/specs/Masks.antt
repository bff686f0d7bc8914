-- Folds over the sheets within the tops of a span.
use Rattle.std.specs.Prelude.{◌≡◌, ℕ, zero, suc, ◌≤◌, true, List, [], ◌∷◌, length, slice_index, refl}
use Rattle.std.proofs.Common.{ap, ◌∙◌, arith}
use Rattle.belief.specs.Sheets.{up_to, over_sheets}
use Rattle.belief.specs.Spans.{zero_outside, span_only}
use Rattle.belief.proofs.Spanned.{zero_at, span_kept}

up_to_in : {A : Type 0} (op : A → A → A) (n : ℕ) (f g : ℕ → A) → ((v : ℕ) → v ≤ n → f v ≡ g v) → up_to op n f ≡ up_to op n g
up_to_in op zero f g h = h 0 (omega arith)
up_to_in op (suc n) f g h = let a = up_to_in op n f g (λ v l. h v (omega arith)) in let b = h (suc n) (omega arith) in cc

-- a sheet within the tops
pub record Under (ts s : List ℕ) : Type 0 where
  pub long : length s ≡ length ts
  pub under : (k : ℕ) → slice_index s k ≤ slice_index ts k

under_more : (t v : ℕ) (ts s : List ℕ) → v ≤ t → Under ts s → Under (t ∷ ts) (v ∷ s)
under_more t v ts s h u = record { long = ap suc u.long; under = go }
  where
    go : (k : ℕ) → slice_index (v ∷ s) k ≤ slice_index (t ∷ ts) k
    go zero = h
    go (suc k) = u.under k

pub over_in : {A : Type 0} (op : A → A → A) (ts : List ℕ) (f g : List ℕ → A) → ((s : List ℕ) → Under ts s → f s ≡ g s) → over_sheets op ts f ≡ over_sheets op ts g
over_in op [] f g h = h [] (record { long = refl; under = λ k. omega arith })
over_in op (t ∷ ts) f g h = up_to_in op t _ _ (λ v l. over_in op ts _ _ (λ s u. h (v ∷ s) (under_more t v ts s l u)))

-- a fold over the sheets of a span looks at the span only
pub over_span : {A : Type 0} (op : A → A → A) (f c : ℕ) (tops : List ℕ) (g : List ℕ → A) → length tops ≡ 4 → zero_outside f c tops ≡ true → over_sheets op tops (λ s. g (span_only f c s)) ≡ over_sheets op tops g
over_span op f c tops g l h = over_in op tops _ _ (λ s u. ap g (span_kept f c tops s (u.long ∙ l) (zero_at f c tops l h) u.under))
