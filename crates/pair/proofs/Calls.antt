-- What a pair's calls return, from what its sides returned.
use Rattle.std.proofs.Common.{◌≡◌, ℕ, ◌*◌, ◌^◌, ◌≤◌, min, Bool, true, false, cond, ◌&&◌, Some, None, Option, List, sym, refl, ap, ◌∙◌, arith}
use Rattle.refusal.specs.Replies.{Reply, given, declined, mapped}
use Rattle.question.specs.Expressions.{Expression}
use Rattle.question.specs.Reading.{reading}
use Rattle.pair.specs.declared.joint.Side.{Side}
use Rattle.pair.specs.declared.joint.Side.TheVariants.{Left, Right}
use Rattle.belief.specs.Meaning.{Meaning, total_of, peak_of, whole_of, mass_of, heaviest_of}
use Rattle.belief.specs.Calls.{replied}
use Rattle.belief.proofs.Replies.{replied_map}
use Rattle.pair.specs.Pairs.{paired, within, side_of}
use Rattle.pair.specs.Folds.{Parts, pair_total, pair_peak, pair_whole, mass_left, mass_right, heaviest_left, heaviest_right, total_most, peak_most, mass_most, heaviest_most}
use Rattle.pair.proofs.Revisings.{by_left, by_right}

-- a product that stops at the greatest number of 64 bits
abbrev capped : ℕ → ℕ
capped n = min n 18446744073709551615

saturated : (x y z a b p : ℕ) → z ≡ capped (x * y) → x ≡ a → y ≡ b → p ≡ a * b → p ≤ 2 ^ 40 → z ≡ p
saturated x y z a b p ez ex ey ep h = let e : x * y ≡ a * b = rw (ex, ey) in omega arith

module _ (l r : Meaning) (p : Parts l r) where
  pub total_is : (x y z : ℕ) → z ≡ capped (x * y) → x ≡ total_of l → y ≡ total_of r → z ≡ total_of (paired l r)
  total_is x y z e ex ey = saturated x y z _ _ _ e ex ey (pair_total l r p) (total_most l r p)

  pub peak_is : (x y z : ℕ) → z ≡ capped (x * y) → x ≡ peak_of l → y ≡ peak_of r → z ≡ peak_of (paired l r)
  peak_is x y z e ex ey = saturated x y z _ _ _ e ex ey (pair_peak l r p) (peak_most l r p)

  pub whole_is : (x y : Bool) → x ≡ whole_of l → y ≡ whole_of r → (x && y) ≡ whole_of (paired l r)
  whole_is x y ex ey = let z = pair_whole l r p in cc

  module _ (q : List ℕ) (a x y z : ℕ) (e : z ≡ capped (x * y)) where
    pub mass_left_is : within l q ≡ true → ◌≡◌ {A = Reply ℕ} (given x) (replied l q (mass_of l q a)) → y ≡ total_of r → ◌≡◌ {A = Reply ℕ} (given z) (replied (paired l r) q (mass_of (paired l r) q a))
    mass_left_is i h ey = replied_map l (paired l r) q x _ z _ (by_left l r q i) h (λ ex. saturated x y z _ _ _ e ex ey (mass_left l r p q a i) (mass_most l r p q a))

    pub mass_right_is : within l q ≡ false → within r q ≡ true → x ≡ total_of l → ◌≡◌ {A = Reply ℕ} (given y) (replied r q (mass_of r q a)) → ◌≡◌ {A = Reply ℕ} (given z) (replied (paired l r) q (mass_of (paired l r) q a))
    mass_right_is i j ex h = replied_map r (paired l r) q y _ z _ (by_right l r q i j) h (λ ey. saturated x y z _ _ _ e ex ey (mass_right l r p q a j) (mass_most l r p q a))

    pub heaviest_left_is : within l q ≡ true → ◌≡◌ {A = Reply ℕ} (given x) (replied l q (heaviest_of l q a)) → y ≡ peak_of r → ◌≡◌ {A = Reply ℕ} (given z) (replied (paired l r) q (heaviest_of (paired l r) q a))
    heaviest_left_is i h ey = replied_map l (paired l r) q x _ z _ (by_left l r q i) h (λ ex. saturated x y z _ _ _ e ex ey (heaviest_left l r p q a i) (heaviest_most l r p q a))

    pub heaviest_right_is : within l q ≡ false → within r q ≡ true → x ≡ peak_of l → ◌≡◌ {A = Reply ℕ} (given y) (replied r q (heaviest_of r q a)) → ◌≡◌ {A = Reply ℕ} (given z) (replied (paired l r) q (heaviest_of (paired l r) q a))
    heaviest_right_is i j ex h = replied_map r (paired l r) q y _ z _ (by_right l r q i j) h (λ ey. saturated x y z _ _ _ e ex ey (heaviest_right l r p q a j) (heaviest_most l r p q a))

-- which side a question is asked of, as the code finds it
left_by : (o : Reply Expression) (a b : Bool) → ◌≡◌ {A = Reply (Option Side)} (given (Some Left)) (mapped (λ e. cond a (Some Left) (cond b (Some Right) None)) o) → a ≡ true
left_by (given e) true b h = refl
left_by (given e) false true h = let k : ◌≡◌ {A = ℕ} 0 1 = cc in absurd (omega arith)
left_by (given e) false false h = let k : ◌≡◌ {A = ℕ} 0 1 = cc in absurd (omega arith)
left_by (declined n p) a b h = let k : ◌≡◌ {A = ℕ} 0 1 = cc in absurd (omega arith)

right_by : (o : Reply Expression) (a b : Bool) → ◌≡◌ {A = Reply (Option Side)} (given (Some Right)) (mapped (λ e. cond a (Some Left) (cond b (Some Right) None)) o) → (a ≡ false) × (b ≡ true)
right_by (given e) true b h = let k : ◌≡◌ {A = ℕ} 0 1 = cc in absurd (omega arith)
right_by (given e) false true h = (refl, refl)
right_by (given e) false false h = let k : ◌≡◌ {A = ℕ} 0 1 = cc in absurd (omega arith)
right_by (declined n p) a b h = let k : ◌≡◌ {A = ℕ} 0 1 = cc in absurd (omega arith)

module _ (l r : Meaning) (q : List ℕ) (o : Option Side) (s : Side) (e : o ≡ Some s) (h : ◌≡◌ {A = Reply (Option Side)} (given o) (mapped (λ e. side_of l r q) (reading q))) where
  pub left_found : s ≡ Left → within l q ≡ true
  left_found i = left_by (reading q) (within l q) (within r q) (ap given (sym (e ∙ ap Some i)) ∙ h)

  pub right_found : s ≡ Right → (within l q ≡ false) × (within r q ≡ true)
  right_found i = right_by (reading q) (within l q) (within r q) (ap given (sym (e ∙ ap Some i)) ∙ h)
