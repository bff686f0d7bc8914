-- A fold over all sheets, seen from one sheet within the tops: it bounds the value there, and the greatest value is reached.
use Rattle.std.proofs.Common.{◌≡◌, ℕ, zero, suc, ◌<◌, ◌≤◌, max, Bool, true, ◌⊎◌, List, [], ◌∷◌, length, get_or, sym, refl, ap, ◌∙◌, subst, inl, inr, arith}
use Rattle.std.proofs.lemmas.Bool.{and_parts, cases_eq, cases_lt}
use Rattle.belief.specs.Sheets.{up_to, over_sheets, sum_of, max_of, all_of, plus, both}

-- op bounds both its sides
pub record Bounds {A : Type 0} (R : A → A → Type 0) (op : A → A → A) : Type 0 where
  pub same : (a : A) → R a a
  pub trans : (a b c : A) → R a b → R b c → R a c
  pub left : (a b : A) → R a (op a b)
  pub right : (a b : A) → R b (op a b)

module _ {A : Type 0} (R : A → A → Type 0) (op : A → A → A) (b : Bounds R op) where
  up_to_at : (n v : ℕ) (f : ℕ → A) → v ≤ n → R (f v) (up_to op n f)
  up_to_at zero v f l = let e : v ≡ 0 = omega arith in subst (λ (w : ℕ). R (f v) (f w)) e (b.same (f v))
  up_to_at (suc n) v f l = go (cases_eq v (suc n)) (up_to_at n v f)
    where
      go : (v ≡ suc n) ⊎ (v ≡ suc n → ⊥) → (v ≤ n → R (f v) (up_to op n f)) → R (f v) (op (up_to op n f) (f (suc n)))
      go (inl e) below = subst (λ (w : ℕ). R (f w) (op (up_to op n f) (f (suc n)))) (sym e) (b.right (up_to op n f) (f (suc n)))
      go (inr d) below = b.trans (f v) (up_to op n f) (op (up_to op n f) (f (suc n))) (below (omega arith)) (b.left (up_to op n f) (f (suc n)))

  over_at : (ts s : List ℕ) (f : List ℕ → A) → length s ≡ length ts → ((k : ℕ) → get_or s k 0 ≤ get_or ts k 0) → R (f s) (over_sheets op ts f)
  over_at [] [] f e h = b.same (f [])
  over_at [] (v ∷ s) f e h = absurd (omega arith)
  over_at (t ∷ ts) [] f e h = absurd (omega arith)
  over_at (t ∷ ts) (v ∷ s) f e h =
      b.trans _ _ _ (over_at ts s (λ u. f (v ∷ u)) (omega arith) (λ k. h (suc k))) (up_to_at t v (λ w. over_sheets op ts (λ u. f (w ∷ u))) (h 0))

module _ (ts s : List ℕ) (e : length s ≡ length ts) (h : (k : ℕ) → get_or s k 0 ≤ get_or ts k 0) where
  pub below_max : (f : List ℕ → ℕ) → f s ≤ max_of ts f
  below_max f =
      over_at ◌≤◌ max (record { same = λ a. omega arith; trans = λ a b c p q. omega arith; left = λ a b. omega arith; right = λ a b. omega arith }) ts s f e h

  pub below_sum : (f : List ℕ → ℕ) → f s ≤ sum_of ts f
  below_sum f =
      over_at ◌≤◌ plus (record { same = λ a. omega arith; trans = λ a b c p q. omega arith; left = λ a b. omega arith; right = λ a b. omega arith }) ts s f e h

  pub all_at : (p : List ℕ → Bool) → all_of ts p ≡ true → p s ≡ true
  all_at p =
      over_at (λ a b. b ≡ true → a ≡ true) both
      (record { same = λ a i. i; trans = λ a b c i j k. i (j k); left = λ a b i. (and_parts a b i).0; right = λ a b i. (and_parts a b i).1 }) ts s p e h

up_to_reached : (n : ℕ) (f : ℕ → ℕ) → (v : ℕ) × (v ≤ n) × (f v ≡ up_to max n f)
up_to_reached zero f = (0, omega arith, refl)
up_to_reached (suc n) f = go (cases_lt (up_to max n f) (f (suc n))) (up_to_reached n f)
  where
    go : (up_to max n f < f (suc n)) ⊎ (f (suc n) ≤ up_to max n f) → (v : ℕ) × (v ≤ n) × (f v ≡ up_to max n f) → (v : ℕ) × (v ≤ suc n) × (f v ≡ max (up_to max n f) (f (suc n)))
    go (inl l) r = (suc n, omega arith, omega arith)
    go (inr l) r = let e = r.2 in let b = r.1 in (r.0, omega arith, omega arith)

-- the greatest value is that of some sheet within the tops
pub max_reached : (ts : List ℕ) (f : List ℕ → ℕ) → (s : List ℕ) × (length s ≡ length ts) × ((k : ℕ) → get_or s k 0 ≤ get_or ts k 0) × (f s ≡ max_of ts f)
max_reached [] f = ([], refl, (λ k. omega arith), refl)
max_reached (t ∷ ts) f =
    let r = up_to_reached t (λ v. max_of ts (λ u. f (v ∷ u))) in
    let i = max_reached ts (λ u. f (r.0 ∷ u)) in
    (r.0 ∷ i.0, ap suc i.1, below r.0 i.0 r.1 i.2, i.3 ∙ r.2)
  where
    below : (v : ℕ) (s : List ℕ) → v ≤ t → ((k : ℕ) → get_or s k 0 ≤ get_or ts k 0) → (k : ℕ) → get_or (v ∷ s) k 0 ≤ get_or (t ∷ ts) k 0
    below v s l h zero = l
    below v s l h (suc k) = h k
