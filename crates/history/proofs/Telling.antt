-- Too telling as it is judged, by mass and heaviest, is too telling as it is meant, by what would be held afterwards.
use Rattle.std.proofs.Common.{◌≡◌, ℕ, suc, ◌*◌, ◌<◌, Bool, true, false, cond, eqb, ltb, List, sym, refl, subst, mul-le-mul_right, zero-mul, arith}
use Rattle.std.proofs.lemmas.Bool.{and_parts, and_from, ltb-true, lt-ltb, eqb-true}
use Rattle.question.specs.Expressions.{greatest}
use Rattle.question.specs.Questions.{answers}
use Rattle.question.proofs.Questions.{answers_small}
use Rattle.belief.specs.Meaning.{Meaning, total_of, mass_of, heaviest_of, kept, revised, conditioned}
use Rattle.belief.proofs.Sheets.{below_max, max_reached}
use Rattle.belief.proofs.Revisings.{conditioned_more}
use Rattle.history.specs.Events.{Setting, Within, Restorer, hears, held}
use Rattle.history.specs.Judging.{is_telling_at, telling}
use Rattle.history.specs.Laws.{Above, TooTelling}
use Rattle.history.proofs.Checks.{some_below_reached, below_some}

-- what he would hold is what he holds, revised
pub held_hears : (r : Restorer) (q : List ℕ) (a : ℕ) → held (hears q a r) ≡ revised (held r) q a
held_hears r q a = sym (conditioned_more r.start r.heard q a)

-- a sheet above n / d after an answer
abbrev pub Heavy : Meaning → ℕ → ℕ → List ℕ → ℕ → List ℕ → Type 0
Heavy m n d q a s = n * mass_of m q a < kept q a m.weight s * d

pub above_heavy : (r : Restorer) (q : List ℕ) (a : ℕ) (s : List ℕ) → Above (hears q a r) s → Heavy (held r) r.n r.d q a s
unfolding total_of mass_of revised
above_heavy r q a s h = subst (λ (m : Meaning). r.n * total_of m < m.weight s * r.d) (held_hears r q a) h

heavy_above : (r : Restorer) (q : List ℕ) (a : ℕ) (s : List ℕ) → Heavy (held r) r.n r.d q a s → Above (hears q a r) s
unfolding total_of mass_of revised
heavy_above r q a s h = subst (λ (m : Meaning). r.n * total_of m < m.weight s * r.d) (sym (held_hears r q a)) h

module _ (m : Meaning) (n d : ℕ) (q : List ℕ) (a : ℕ) where
  -- the heaviest sheet is such a one
  told : is_telling_at m q n d a ≡ true → (0 < mass_of m q a) × ((s : List ℕ) × Within m.tops s × Heavy m n d q a s)
  unfolding heaviest_of
  told e =
      let p = and_parts (ltb 0 (mass_of m q a)) (ltb (n * mass_of m q a) (heaviest_of m q a * d)) e in
      let r = max_reached m.tops (kept q a m.weight) in (
        ltb-true 0 (mass_of m q a) p.0,
        (
          r.0,
          record { long = r.1; below = r.2 },
          subst (λ (k : ℕ). n * mass_of m q a < k * d) (sym r.3) (ltb-true (n * mass_of m q a) (heaviest_of m q a * d) p.1),
        ),
      )

  tell : (s : List ℕ) → 0 < mass_of m q a → Within m.tops s → Heavy m n d q a s → is_telling_at m q n d a ≡ true
  unfolding heaviest_of
  tell s p i h =
      let l = mul-le-mul_right d (below_max m.tops s i.long i.below (kept q a m.weight)) in
      and_from (ltb 0 (mass_of m q a)) (ltb (n * mass_of m q a) (heaviest_of m q a * d)) (lt-ltb 0 (mass_of m q a) p) (lt-ltb (n * mass_of m q a) (heaviest_of m q a * d) (omega arith))

  -- no sheet gives an answer above the greatest
  small : (s : List ℕ) → Heavy m n d q a s → a < suc greatest
  unfolding kept
  small s h = go (eqb (answers q s) a) refl h
    where
      go : (b : Bool) → eqb (answers q s) a ≡ b → n * mass_of m q a < cond b (m.weight s) 0 * d → a < suc greatest
      go true e h = let i = eqb-true (answers q s) a e in let l = answers_small q s in omega arith
      go false e h = omega (arith, zero-mul d)

-- a meaning with these tops
pub told_too_much : (w : Setting) (r : Restorer) (q : List ℕ) → r.start.tops ≡ w.tops → telling (held r) q r.n r.d ≡ true → TooTelling w r q
unfolding telling conditioned
told_too_much w r q e t =
    let k = some_below_reached (suc greatest) (is_telling_at (held r) q r.n r.d) t in
    let h = told (held r) r.n r.d q k.0 k.1 in
    record {
      answer = k.0;
      possible = h.0;
      sheet = h.1.0;
      within = subst (λ (ts : List ℕ). Within ts h.1.0) e h.1.1;
      above = heavy_above r q k.0 h.1.0 h.1.2;
    }

pub tells_too_much : (w : Setting) (r : Restorer) (q : List ℕ) → r.start.tops ≡ w.tops → TooTelling w r q → telling (held r) q r.n r.d ≡ true
unfolding telling conditioned
tells_too_much w r q e t =
    let h = above_heavy r q t.answer t.sheet t.above in
    below_some (suc greatest) (is_telling_at (held r) q r.n r.d) t.answer (small (held r) r.n r.d q t.answer t.sheet h)
    (tell (held r) r.n r.d q t.answer t.sheet t.possible (subst (λ (ts : List ℕ). Within ts t.sheet) (sym e) t.within) h)
