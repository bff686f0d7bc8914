-- Pairs of hexadecimal digits, from the left to the right and back.
use Rattle.std.proofs.Common.{◌≡◌, ℕ, suc, ◌+◌, ◌-◌, ◌*◌, ◌/◌, ◌%◌, ◌<◌, ◌≤◌, Bool, true, false, ltb, List, [], ◌∷◌, ◌++◌, length, get_or, take, drop, Some, None, Option, sym, refl, ap, ◌∙◌, append_assoc, append-nil, arith}
use Rattle.std.proofs.lemmas.List.{take_rest}
use Rattle.std.proofs.lemmas.Bool.Decides.{nat_tests}
use Rattle.script.specs.Text.{nibble, joined, pairs, digit_of, hex_text, HexReadsBack}

-- what was read, and what is still to be read
abbrev pub onto : List ℕ → Option (List ℕ) → Option (List ℕ)
onto xs (Some ys) = Some (xs ++ ys)
onto xs None = None

onto_some : (xs : List ℕ) (h l : ℕ) (p : Option (List ℕ)) → onto xs (joined (Some h) (Some l) p) ≡ onto (xs ++ ((h * 16 + l) ∷ [])) p
onto_some xs h l (Some ys) = ap Some (sym (append_assoc xs ((h * 16 + l) ∷ []) ys))
onto_some xs h l None = refl

-- two digits, and what is left after them
module _ (w : List ℕ) (l : 2 ≤ length w) where
  pub front : pairs w ≡ joined (nibble (get_or w 0 0)) (nibble (get_or w 1 0)) (pairs (take (length w - 2) (drop 2 w)))
  unfolding pairs
  front = by w l ∙ ap (λ (r : List ℕ). joined (nibble (get_or w 0 0)) (nibble (get_or w 1 0)) (pairs r)) (sym (take_rest w 2))
    where
      by : (w : List ℕ) → 2 ≤ length w → pairs w ≡ joined (nibble (get_or w 0 0)) (nibble (get_or w 1 0)) (pairs (drop 2 w))
      by [] l = absurd (omega arith)
      by (x ∷ []) l = absurd (omega arith)
      by (x ∷ y ∷ xs) l = refl

  pub one_more : (xs : List ℕ) (t : Option (List ℕ)) (a b : ℕ) → onto xs (pairs w) ≡ t → nibble (get_or w 0 0) ≡ Some a → nibble (get_or w 1 0) ≡ Some b →
      onto (xs ++ ((a * 16 + b) ∷ [])) (pairs (take (length w - 2) (drop 2 w))) ≡ t
  one_more xs t a b h e f = sym (rw (front, e, f) (onto_some xs a b (pairs (take (length w - 2) (drop 2 w))))) ∙ h

-- no digit is left
pub end : (xs w : List ℕ) → length w ≡ 0 → onto xs (pairs w) ≡ Some xs
unfolding pairs
end xs [] l = ap Some (append-nil xs)
end xs (x ∷ w) l = absurd (omega arith)

-- digits in odd number are none
odd_by : (w : List ℕ) → length w % 2 ≡ 1 → pairs w ≡ None
unfolding pairs
odd_by [] e = absurd (omega arith)
odd_by (x ∷ []) e = refl
odd_by (x ∷ y ∷ xs) e = let k : length xs % 2 ≡ 1 = omega arith in none (nibble x) (nibble y) (odd_by xs k)
  where
    none : (a b : Option ℕ) → pairs xs ≡ None → joined a b (pairs xs) ≡ None
    none (Some a) (Some b) e = ap (joined (Some a) (Some b)) e
    none (Some a) None e = refl
    none None b e = refl

pub odd : (w : List ℕ) → (length w % 2 ≡ 0 → ⊥) → pairs w ≡ None
odd w h = odd_by w (omega (arith, h))

-- ---- printed and read again

digit_back : (v : ℕ) → v < 16 → nibble (digit_of v) ≡ Some v
digit_back v h = by (ltb v 10) refl
  where
    by : (b : Bool) → ltb v 10 ≡ b → nibble (digit_of v) ≡ Some v
    by true e = grind (arith, nat_tests)
    by false e = grind (arith, nat_tests)

tail_bytes : (b : ℕ) (bs : List ℕ) → ((i : ℕ) → get_or (b ∷ bs) i 0 < 256) → (i : ℕ) → get_or bs i 0 < 256
tail_bytes b bs h i = h (suc i)

pub reads_back : HexReadsBack
unfolding pairs hex_text
reads_back [] h = refl
reads_back (b ∷ bs) h =
    let l : b < 256 = h 0 in
    let e = digit_back (b / 16) (omega arith) in
    let f = digit_back (b % 16) (omega arith) in
    let g = reads_back bs (tail_bytes b bs h) in
    let v : b / 16 * 16 + b % 16 ≡ b = omega arith in
    rw (e, f, g) (ap (λ n. Some (n ∷ bs)) v)
