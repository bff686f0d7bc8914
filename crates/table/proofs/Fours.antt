-- Places and sheets of four fields, as the code computes them.
use Rattle.std.proofs.Common.{◌≡◌, ℕ, ◌+◌, ◌*◌, ◌<◌, ◌≤◌, Bool, true, false, cond, ◌&&◌, nat_le, ltb, List, [], ◌∷◌, length, get_or, sym, subst, refl, ap, ◌∙◌, inl, inr, add-zero, mul-le-mul_right, add-mul, one-mul, mul-one, arith, le-leb, ltb-true, ltb-false}
use Rattle.std.specs.List.{list_all, zip}
use Rattle.std.proofs.lemmas.Bool.{cases_lt}
use Rattle.question.proofs.Fours.{four_of, fours}
use Rattle.table.specs.Places.{size_of, place_of, fits_in}
use Rattle.table.specs.Walks.{Stands, first_sheet, next_sheet}
use Rattle.table.specs.Folds.{and_true, sheet_at}
use Rattle.table.specs.Order.{fits_at, sheet_place}

pub size_four : (xs : List ℕ) → length xs ≡ 4 → (get_or xs 0 0 + 1) * ((get_or xs 1 0 + 1) * ((get_or xs 2 0 + 1) * (get_or xs 3 0 + 1))) ≡ size_of xs
unfolding size_of
size_four xs h = ap (λ z. (get_or xs 0 0 + 1) * ((get_or xs 1 0 + 1) * ((get_or xs 2 0 + 1) * z))) (sym (mul-one (get_or xs 3 0 + 1))) ∙ ap size_of (sym (fours xs h))

pub fits_four : (xs ys : List ℕ) → length xs ≡ 4 → length ys ≡ 4 →
    (nat_le (get_or ys 0 0) (get_or xs 0 0) && (nat_le (get_or ys 1 0) (get_or xs 1 0) && (nat_le (get_or ys 2 0) (get_or xs 2 0) && nat_le (get_or ys 3 0) (get_or xs 3 0)))) ≡ fits_in xs ys
unfolding fits_in
fits_four xs ys h k =
    ap (λ z. nat_le (get_or ys 0 0) (get_or xs 0 0) && (nat_le (get_or ys 1 0) (get_or xs 1 0) && (nat_le (get_or ys 2 0) (get_or xs 2 0) && z))) (sym (and_true (nat_le (get_or ys 3 0) (get_or xs 3 0))))
    ∙ ap (λ z. fits_in z (four_of ys)) (sym (fours xs h)) ∙ ap (fits_in xs) (sym (fours ys k))

-- values that are tested side by side with the tops
pub fits_zip : (xs ys : List ℕ) → list_all (λ p. nat_le p.1 p.0) (zip xs ys) ≡ fits_in xs ys
unfolding fits_in
fits_zip [] ys = refl
fits_zip (x ∷ xs) [] = refl
fits_zip (x ∷ xs) (y ∷ ys) = ap (λ z. nat_le y x && z) (fits_zip xs ys)

-- how many sheets there are for each value of a field
abbrev last : List ℕ → ℕ
last xs = get_or xs 3 0 + 1

abbrev third : List ℕ → ℕ
third xs = (get_or xs 2 0 + 1) * last xs

abbrev second : List ℕ → ℕ
second xs = (get_or xs 1 0 + 1) * third xs

abbrev placed : List ℕ → ℕ → ℕ → ℕ → ℕ → ℕ
placed xs v w x y = v * second xs + (w * third xs + (x * last xs + y))

place_fours : (xs ys : List ℕ) → placed xs (get_or ys 0 0) (get_or ys 1 0) (get_or ys 2 0) (get_or ys 3 0) ≡ place_of (four_of xs) (four_of ys)
unfolding place_of size_of
place_fours xs ys = simp (mul-one, add-zero)

pub place_four : (xs ys : List ℕ) → length xs ≡ 4 → length ys ≡ 4 → placed xs (get_or ys 0 0) (get_or ys 1 0) (get_or ys 2 0) (get_or ys 3 0) ≡ place_of xs ys
place_four xs ys h k = place_fours xs ys ∙ ap (λ z. place_of z (four_of ys)) (sym (fours xs h)) ∙ ap (place_of xs) (sym (fours ys k))

-- four values that fit stand at their place
stands : (xs : List ℕ) → length xs ≡ 4 → (v w x y i : ℕ) → v ≤ get_or xs 0 0 → w ≤ get_or xs 1 0 → x ≤ get_or xs 2 0 → y ≤ get_or xs 3 0 → placed xs v w x y ≡ i → Stands xs (v ∷ w ∷ x ∷ y ∷ []) i
stands xs h v w x y i a b c d e =
    let a1 = le-leb v _ a in let b1 = le-leb w _ b in let c1 = le-leb x _ c in let d1 = le-leb y _ d in
    record { four = refl; fits = sym (fits_four xs (v ∷ w ∷ x ∷ y ∷ []) h refl) ∙ simp (a1, b1, c1, d1); place = sym (place_four xs (v ∷ w ∷ x ∷ y ∷ []) h refl) ∙ e }

-- the first sheet
pub stands_first : (xs : List ℕ) → length xs ≡ 4 → Stands xs first_sheet 0
stands_first xs h = stands xs h 0 0 0 0 0 (omega arith) (omega arith) (omega arith) (omega arith) (omega arith)

-- a sheet that stands at a place is the one there
pub stands_sheet : (xs ys : List ℕ) (i : ℕ) → length xs ≡ 4 → Stands xs ys i → ys ≡ sheet_at xs i
stands_sheet xs ys i h s = sym (sheet_place xs ys (s.four ∙ sym h) s.fits) ∙ ap (sheet_at xs) s.place

-- the next sheet
module _ (xs ys : List ℕ) (i : ℕ) (h : length xs ≡ 4) (s : Stands xs ys i) where
  low : (k : ℕ) → get_or ys k 0 ≤ get_or xs k 0
  low = fits_at xs ys (s.four ∙ sym h) s.fits

  now_at : placed xs (get_or ys 0 0) (get_or ys 1 0) (get_or ys 2 0) (get_or ys 3 0) ≡ i
  now_at = place_four xs ys h s.four ∙ s.place

  pub next_last : get_or ys 3 0 < get_or xs 3 0 → Stands xs (get_or ys 0 0 ∷ get_or ys 1 0 ∷ get_or ys 2 0 ∷ (get_or ys 3 0 + 1) ∷ []) (i + 1)
  next_last l = let n = now_at in stands xs h _ _ _ _ (i + 1) (low 0) (low 1) (low 2) (omega arith) (omega arith)

  -- the last field is at its top, then the third, then the second
  module _ (e3 : get_or xs 3 0 ≤ get_or ys 3 0) where
    ends : get_or ys 2 0 * last xs + get_or ys 3 0 + 1 ≡ (get_or ys 2 0 + 1) * last xs
    ends = let l = low 3 in let m = add-mul (get_or ys 2 0) 1 (last xs) in let o = one-mul (last xs) in omega arith

    pub next_third : get_or ys 2 0 < get_or xs 2 0 → Stands xs (get_or ys 0 0 ∷ get_or ys 1 0 ∷ (get_or ys 2 0 + 1) ∷ 0 ∷ []) (i + 1)
    next_third l = let n = now_at in let e = ends in stands xs h _ _ _ _ (i + 1) (low 0) (low 1) (omega arith) (omega arith) (omega arith)

    module _ (e2 : get_or xs 2 0 ≤ get_or ys 2 0) where
      ends_2 : get_or ys 1 0 * third xs + (get_or ys 2 0 * last xs + get_or ys 3 0) + 1 ≡ (get_or ys 1 0 + 1) * third xs
      ends_2 =
          let l = low 2 in let q : get_or ys 2 0 ≡ get_or xs 2 0 = omega arith in
          let e : get_or ys 2 0 * last xs + get_or ys 3 0 + 1 ≡ third xs = ends ∙ ap (λ z. (z + 1) * last xs) q in
          let m = add-mul (get_or ys 1 0) 1 (third xs) in let o = one-mul (third xs) in omega arith

      pub next_second : get_or ys 1 0 < get_or xs 1 0 → Stands xs (get_or ys 0 0 ∷ (get_or ys 1 0 + 1) ∷ 0 ∷ 0 ∷ []) (i + 1)
      next_second l = let n = now_at in let e = ends_2 in stands xs h _ _ _ _ (i + 1) (low 0) (omega arith) (omega arith) (omega arith) (omega arith)

      module _ (e1 : get_or xs 1 0 ≤ get_or ys 1 0) (room : i + 1 < size_of xs) where
        ends_1 : (get_or ys 0 0 + 1) * second xs ≡ i + 1
        ends_1 =
            let l = low 1 in let q : get_or ys 1 0 ≡ get_or xs 1 0 = omega arith in
            let e : get_or ys 1 0 * third xs + (get_or ys 2 0 * last xs + get_or ys 3 0) + 1 ≡ second xs = ends_2 ∙ ap (λ z. (z + 1) * third xs) q in
            let m = add-mul (get_or ys 0 0) 1 (second xs) in let o = one-mul (second xs) in let n = now_at in omega arith

        first_below : get_or ys 0 0 < get_or xs 0 0
        first_below = elim (cases_lt (get_or ys 0 0) (get_or xs 0 0)) [
          | inl l ↦ l
          | inr g ↦
              let k : get_or xs 0 0 + 1 ≤ get_or ys 0 0 + 1 = omega arith in
              let m : (get_or xs 0 0 + 1) * second xs ≤ (get_or ys 0 0 + 1) * second xs = mul-le-mul_right (second xs) k in
              let z = size_four xs h in let e = ends_1 in absurd (omega arith)
        ]

        pub next_first : Stands xs ((get_or ys 0 0 + 1) ∷ 0 ∷ 0 ∷ 0 ∷ []) (i + 1)
        next_first =
            let f = first_below in let e = ends_1 in
            stands xs h _ _ _ _ (i + 1) (omega arith) (omega arith) (omega arith) (omega arith) (omega arith)

-- the sheet after a sheet stands one place further
pub next_stands : (xs ys : List ℕ) (i : ℕ) → length xs ≡ 4 → Stands xs ys i → i + 1 < size_of xs → Stands xs (next_sheet xs ys) (i + 1)
unfolding next_sheet
next_stands xs ys i h s room =
    by (ltb (get_or ys 3 0) (get_or xs 3 0)) (ltb (get_or ys 2 0) (get_or xs 2 0)) (ltb (get_or ys 1 0) (get_or xs 1 0)) (ltb (get_or ys 0 0) (get_or xs 0 0)) refl refl refl refl
  where
    by : (a b c d : Bool) → ltb (get_or ys 3 0) (get_or xs 3 0) ≡ a → ltb (get_or ys 2 0) (get_or xs 2 0) ≡ b → ltb (get_or ys 1 0) (get_or xs 1 0) ≡ c → ltb (get_or ys 0 0) (get_or xs 0 0) ≡ d →
        Stands xs (cond a (get_or ys 0 0 ∷ get_or ys 1 0 ∷ get_or ys 2 0 ∷ (get_or ys 3 0 + 1) ∷ []) (cond b (get_or ys 0 0 ∷ get_or ys 1 0 ∷ (get_or ys 2 0 + 1) ∷ 0 ∷ []) (
        cond c (get_or ys 0 0 ∷ (get_or ys 1 0 + 1) ∷ 0 ∷ 0 ∷ []) (cond d ((get_or ys 0 0 + 1) ∷ 0 ∷ 0 ∷ 0 ∷ []) first_sheet)))) (i + 1)
    by true b c d e3 e2 e1 e0 = next_last xs ys i h s (ltb-true _ _ e3)
    by false true c d e3 e2 e1 e0 = next_third xs ys i h s (ltb-false _ _ e3) (ltb-true _ _ e2)
    by false false true d e3 e2 e1 e0 = next_second xs ys i h s (ltb-false _ _ e3) (ltb-false _ _ e2) (ltb-true _ _ e1)
    by false false false true e3 e2 e1 e0 = next_first xs ys i h s (ltb-false _ _ e3) (ltb-false _ _ e2) (ltb-false _ _ e1) room
    by false false false false e3 e2 e1 e0 =
        let l = first_below xs ys i h s (ltb-false _ _ e3) (ltb-false _ _ e2) (ltb-false _ _ e1) room in let g = ltb-false _ _ e0 in absurd (omega arith)

-- so does what equals it
pub next_law : (xs ys r : List ℕ) → length xs ≡ 4 → r ≡ next_sheet xs ys → (i : ℕ) → Stands xs ys i → i + 1 < size_of xs → Stands xs r (i + 1)
next_law xs ys r h e i s room = subst (λ z. Stands xs z (i + 1)) (sym e) (next_stands xs ys i h s room)
