-- What a cut does to a box.
use Rattle.std.proofs.Common.{◌≡◌, ℕ, zero, suc, ◌<◌, ◌≤◌, Bool, true, false, not, ◌&&◌, ltb, nat_le, List, [], ◌∷◌, length, get_or, refl, ap, ◌∙◌, arith, ltb-true, le-leb, leb-true}
use Rattle.std.proofs.lemmas.Bool.{and_from}
use Rattle.question.proofs.Questions.{and_left, and_right}
use Rattle.ranges.specs.declared.shapes.Side.{Side}
use Rattle.ranges.specs.Boxes.{within, inside, fits, corner}
use Rattle.ranges.specs.Pieces.{cuts_side, below, above, cuts, with_side, lower, upper}
use Rattle.ranges.proofs.Folds.{never, fitting}

low_part : (x : Side) (v u : ℕ) (b : Bool) → cuts_side x v ≡ true → (within (below x v) u && b) ≡ ((within x u && b) && ltb u v)
unfolding within
low_part x v u b h = grind arith

high_part : (x : Side) (v u : ℕ) (b : Bool) → cuts_side x v ≡ true → (within (above x v) u && b) ≡ ((within x u && b) && not (ltb u v))
unfolding within
high_part x v u b h = grind arith

and_assoc : (a b c : Bool) → (a && (b && c)) ≡ ((a && b) && c)
and_assoc true b c = refl
and_assoc false b c = refl

-- a part of a cut box has the sheets of which h says so
in-part : (g : Side → Side) (h : ℕ → Bool) (v : ℕ) → ((x : Side) (u : ℕ) (b : Bool) → cuts_side x v ≡ true → (within (g x) u && b) ≡ ((within x u && b) && h u)) →
    (xs : List Side) (k : ℕ) (s : List ℕ) → cuts xs k v ≡ true → inside (with_side g xs k) s ≡ (inside xs s && h (get_or s k 0))
unfolding cuts inside with_side
in-part g h v base [] k s c = never c
in-part g h v base (x ∷ xs) zero [] c = refl
in-part g h v base (x ∷ xs) zero (u ∷ s) c = base x u (inside xs s) c
in-part g h v base (x ∷ xs) (suc k) [] c = refl
in-part g h v base (x ∷ xs) (suc k) (u ∷ s) c = ap (λ b. within x u && b) (in-part g h v base xs k s c) ∙ and_assoc (within x u) (inside xs s) (h (get_or s k 0))

-- the lower part has the sheets whose field k is less than v, the upper part the others
pub in_lower : (xs : List Side) (k v : ℕ) (s : List ℕ) → cuts xs k v ≡ true → inside (lower xs k v) s ≡ (inside xs s && ltb (get_or s k 0) v)
in_lower xs k v s c = in-part (λ x. below x v) (λ u. ltb u v) v (λ x u b. low_part x v u b) xs k s c

pub in_upper : (xs : List Side) (k v : ℕ) (s : List ℕ) → cuts xs k v ≡ true → inside (upper xs k v) s ≡ (inside xs s && not (ltb (get_or s k 0) v))
in_upper xs k v s c = in-part (λ x. above x v) (λ u. not (ltb u v)) v (λ x u b. high_part x v u b) xs k s c

pub length_part : (g : Side → Side) (xs : List Side) (k : ℕ) → length (with_side g xs k) ≡ length xs
unfolding with_side
length_part g [] k = refl
length_part g (x ∷ xs) zero = refl
length_part g (x ∷ xs) (suc k) = ap suc (length_part g xs k)

-- both parts fit
fits_make : (x : Side) (t : ℕ) (b : Bool) → x.low ≤ x.high → x.high ≤ t → b ≡ true → (nat_le x.low x.high && (nat_le x.high t && b)) ≡ true
fits_make x t b l h e = and_from _ _ (le-leb _ _ l) (and_from _ _ (le-leb _ _ h) e)

-- a part of a side is not empty, and does not pass it
record Narrows (g : Side → Side) (v : ℕ) : Type 0 where
  order : (x : Side) → x.low < v → v ≤ x.high → (g x).low ≤ (g x).high
  under : (x : Side) → v ≤ x.high → (g x).high ≤ x.high

fits_part : (g : Side → Side) (v : ℕ) → Narrows g v → (xs : List Side) (ts : List ℕ) (k : ℕ) → cuts xs k v ≡ true → fits ts xs ≡ true → fits ts (with_side g xs k) ≡ true
unfolding cuts with_side fits
fits_part g v n [] ts k c h = never c
fits_part g v n (x ∷ xs) [] k c h = never h
fits_part g v n (x ∷ xs) (t ∷ ts) zero c h =
    let p = fitting ts t x xs h in
    let u = p.under in
    let b = leb-true _ _ (and_right (ltb x.low v) _ c) in
    let w = n.under x b in
    fits_make (g x) t _ (n.order x (ltb-true _ _ (and_left (ltb x.low v) _ c)) b) (omega arith) p.rest
fits_part g v n (x ∷ xs) (t ∷ ts) (suc k) c h = let p = fitting ts t x xs h in fits_make x t _ p.order p.under (fits_part g v n xs ts k c p.rest)

pub fits_lower : (xs : List Side) (ts : List ℕ) (k v : ℕ) → cuts xs k v ≡ true → fits ts xs ≡ true → fits ts (lower xs k v) ≡ true
fits_lower xs ts k v = fits_part (λ x. below x v) v (record { order = λ x a b. omega arith; under = λ x b. omega arith }) xs ts k

pub fits_upper : (xs : List Side) (ts : List ℕ) (k v : ℕ) → cuts xs k v ≡ true → fits ts xs ≡ true → fits ts (upper xs k v) ≡ true
fits_upper xs ts k v = fits_part (λ x. above x v) v (record { order = λ x a b. b; under = λ x b. omega arith }) xs ts k

pub corner_inside : (xs : List Side) (ts : List ℕ) → fits ts xs ≡ true → inside xs (corner xs) ≡ true
unfolding inside corner within fits
corner_inside [] ts h = refl
corner_inside (x ∷ xs) [] h = never h
corner_inside (x ∷ xs) (t ∷ ts) h = let p = fitting ts t x xs h in and_from _ _ (and_from _ _ (le-leb _ _ (omega arith)) (le-leb _ _ p.order)) (corner_inside xs ts p.rest)

-- a step that cuts nothing says the same of all sheets of the box
base_uncut : (x : Side) (v a b : ℕ) → cuts_side x v ≡ false → within x a ≡ true → within x b ≡ true → ltb a v ≡ ltb b v
unfolding within
base_uncut x v a b c p q = grind arith

pub uncut : (xs : List Side) (k v : ℕ) (s u : List ℕ) → cuts xs k v ≡ false → k < length xs → inside xs s ≡ true → inside xs u ≡ true → ltb (get_or s k 0) v ≡ ltb (get_or u k 0) v
unfolding cuts inside
uncut [] k v s u c h p q = absurd (omega arith)
uncut (x ∷ xs) k v [] u c h p q = never p
uncut (x ∷ xs) k v (a ∷ s) [] c h p q = never q
uncut (x ∷ xs) zero v (a ∷ s) (b ∷ u) c h p q = base_uncut x v a b c (and_left (within x a) _ p) (and_left (within x b) _ q)
uncut (x ∷ xs) (suc k) v (a ∷ s) (b ∷ u) c h p q = uncut xs k v s u c (omega arith) (and_right (within x a) _ p) (and_right (within x b) _ q)
