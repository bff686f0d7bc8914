-- The definition of a search meets the law of looking.
use Rattle.std.proofs.Common.{◌≡◌, ℕ, zero, suc, ◌<◌, List, [], ◌∷◌, length, get_or, set, IfSome, Some, None, Option, sym, refl, ap, ◌∙◌, subst, eqb, ⊎_elim, ◌≢◌, arith, MatchOption}
use Rattle.std.specs.List.{AllWithin, HoldsAt}
use Rattle.std.specs.Option.{option_map}
use Rattle.std.proofs.lemmas.Bool.{cond-false, cond_both, eqb-true, eqb-false, ne_eqb, cases_eq, cases_order}
use Rattle.std.proofs.lemmas.List.{length-set, get_or-set_same, get_or-set_other}
use Rattle.register.specs.Places.{first, place, Absent, Sought, Distinct, Once}

-- what a search says that stops at the first place with the code
abbrev pub Stops : {E : Type 0} → (E → ℕ) → ℕ → List E → Option ℕ → Type 0
Stops key c xs r = MatchOption r (AllWithin (λ x. key x ≢ c) xs 0 (length xs)) (λ i. (i < length xs) × HoldsAt (λ x. key x ≡ c) xs i × AllWithin (λ x. key x ≢ c) xs 0 i)

module _ {E : Type 0} (key : E → ℕ) (c : ℕ) where
  -- not in front, and not before j in what is left
  later : (x : E) (xs : List E) (j : ℕ) → key x ≢ c → AllWithin (λ y. key y ≢ c) xs 0 j → AllWithin (λ y. key y ≢ c) (x ∷ xs) 0 (suc j)
  later x xs j n f zero d l h = n
  later x xs j n f (suc k) d l h = f k d (omega arith) (omega arith)

  further : (x : E) (xs : List E) (r : Option ℕ) → key x ≢ c → Stops key c xs r → Stops key c (x ∷ xs) (option_map suc r)
  further x xs (Some j) n f = (omega arith, f.1, later x xs j n f.2)
  further x xs None n a = later x xs (length xs) n a

  -- the definition computes such a result, and there is no other
  stops : (xs : List E) → Stops key c xs (first key c xs)
  stops [] = λ k d l h. absurd (omega arith)
  stops (x ∷ xs) =
      cond_both (eqb (key x) c) _ _ (Stops key c (x ∷ xs)) (λ e. (omega arith, λ d. eqb-true _ _ e, λ k d l h. absurd (omega arith)))
      (λ n. further x xs (first key c xs) (eqb-false _ _ n) (stops xs))

  same : (xs : List E) (r s : Option ℕ) → Stops key c xs r → Stops key c xs s → r ≡ s
  same [] (Some i) s f g = absurd (omega arith)
  same [] None (Some j) f g = absurd (omega arith)
  same [] None None f g = refl
  same (x ∷ xs) (Some i) (Some j) f g =
      ⊎_elim (λ e. ap Some e) (⊎_elim (λ l. absurd (g.2 i x (omega arith) l (f.1 x))) (λ l. absurd (f.2 j x (omega arith) l (g.1 x)))) (cases_order i j)
  same (x ∷ xs) (Some i) None f a = absurd (a i x (omega arith) f.0 (f.1 x))
  same (x ∷ xs) None (Some j) a g = absurd (a j x (omega arith) g.0 (g.1 x))
  same (x ∷ xs) None None a b = refl

  sought : (xs : List E) → Sought key c xs (first key c xs)
  sought xs = record {
    some = λ i h. let f = subst (Stops key c xs) h (stops xs) in record { within = f.0; here = f.1; before = λ k d. f.2 k d (omega arith) };
    only = λ i f. same xs _ (Some i) (stops xs) (f.within, f.here, λ k d l. f.before k d);
    none = λ h. record { nowhere = λ k d. subst (Stops key c xs) h (stops xs) k d (omega arith) };
    missing = λ a. same xs _ None (stops xs) (λ k d l. a.nowhere k d);
  }

  inside : (xs : List E) (r : Option ℕ) → Stops key c xs r → IfSome r (λ i. i < length xs)
  inside xs (Some i) f = f.0
  inside xs None a = tt

-- ---- each code stands once

module _ {E : Type 0} (key : E → ℕ) where
  absent : (c : ℕ) (xs : List E) → place key c xs ≡ None → (c ≡ 0 → ⊥) → Absent key c xs
  absent c xs h n = (sought key c xs).none (sym (cond-false _ _ _ (ne_eqb c 0 n)) ∙ h)

  -- an entry elsewhere has not the code of the one that is put
  elsewhere : (xs : List E) (at : ℕ) (e : E) (j : ℕ) (d : E) → place key (key e) xs ≡ None → (key e ≡ 0 → ⊥) → j < length xs → (j ≡ at → ⊥) → key (get_or (set xs at e) j d) ≡ key e → ⊥
  elsewhere xs at e j d h n l m q = (absent (key e) xs h n).nowhere j d l (ap key (sym (get_or-set_other xs at j e d m)) ∙ q)

  put_once : (xs : List E) (at : ℕ) (e : E) → Distinct key xs → place key (key e) xs ≡ None → Distinct key (set xs at e)
  put_once xs at e o h = record {
    once = λ i j d li lj q n.
        let wi : i < length xs = rw length-set at li in
        let wj : j < length xs = rw length-set at lj in
        ⊎_elim
        (λ a. let k : get_or (set xs at e) i d ≡ e = rw a (get_or-set_same xs at e d (omega arith)) in
        ⊎_elim (λ b. a ∙ sym b)
        (λ b. absurd (elsewhere xs at e j d h (λ z. n (ap key k ∙ z)) wj b (sym q ∙ ap key k)))
        (cases_eq j at))
        (λ a. ⊎_elim
        (λ b. let k : get_or (set xs at e) j d ≡ e = rw b (get_or-set_same xs at e d (omega arith)) in
        absurd (elsewhere xs at e i d h (λ z. n (q ∙ (ap key k ∙ z))) wi a (q ∙ ap key k)))
        (λ b. let f = get_or-set_other xs at i e d a in
        let g = get_or-set_other xs at j e d b in
        o.once i j d wi wj (ap key (sym f) ∙ (q ∙ ap key g)) (λ z. n (ap key f ∙ z)))
        (cases_eq j at))
        (cases_eq i at);
  }

  once : Once key
  once = record { free = λ xs f. record { once = λ i j d li lj q n. absurd (n (f i d li)) }; put = put_once }

-- what a search promises that stops at the first place with the code
pub found : {E : Type 0} (key : E → ℕ) (c : ℕ) (xs : List E) (r : Option ℕ) → Stops key c xs r →
    record { found : r ≡ first key c xs; within : IfSome r (λ i. i < length xs); exact : Sought key c xs r; once : Once key }
found key c xs r s =
    let e = same key c xs r (first key c xs) s (stops key c xs) in
    record { found = e; within = inside key c xs r s; exact = subst (Sought key c xs) (sym e) (sought key c xs); once = once key }
