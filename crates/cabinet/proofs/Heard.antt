-- The folders after one of them has heard an answer.
use Rattle.std.proofs.Common.{◌≡◌, ℕ, suc, Bool, true, false, cond, eqb, List, [], ◌∷◌, map, get_or, set, Some, None, Option, refl, ap, ◌∙◌}
use Rattle.std.specs.Option.{option_map}
use Rattle.belief.specs.Meaning.{Meaning}
use Rattle.cabinet.specs.declared.folders.Folder.{Folder}
use Rattle.cabinet.specs.Memory.{meant, changed}
use Rattle.cabinet.proofs.Places.{first_of}

-- a folder put at the first place of a code, seen by what the beliefs mean
pub heard : {X : Type 0} (means : X → Meaning) (c : ℕ) (h : Folder Meaning → Folder Meaning) (g d : Folder X) (fs : List (Folder X)) (i : ℕ) →
    first_of c fs ≡ Some i → meant means g ≡ h (meant means (get_or fs i d)) → map (meant means) (set fs i g) ≡ changed c h (map (meant means) fs)
heard means c h g d [] i e k = cc
heard {X} means c h g d (f ∷ fs) i e k = go (eqb f.code c) (first_of c fs) (λ j. heard means c h g d fs j) e k
  where
    go : (b : Bool) (o : Option ℕ) → ((j : ℕ) → o ≡ Some j → meant means g ≡ h (meant means (get_or fs j d)) → map (meant means) (set fs j g) ≡ changed c h (map (meant means) fs)) →
        cond b (Some 0) (option_map suc o) ≡ Some i → meant means g ≡ h (meant means (get_or (f ∷ fs) i d)) →
        map (meant means) (set (f ∷ fs) i g) ≡ cond b (h (meant means f) ∷ map (meant means) fs) (meant means f ∷ changed c h (map (meant means) fs))
    go true o ih e k = let z : i ≡ 0 = cc in rw z (ap (λ x. x ∷ map (meant means) fs) (rw z at k))
    go false (Some j) ih e k = let z : i ≡ suc j = cc in rw z (ap (λ xs. meant means f ∷ xs) (ih j refl (rw z at k)))
    go false None ih e k = cc

-- all others are the same
pub others : {X : Type 0} (c : ℕ) (g d k : Folder X) (fs : List (Folder X)) (i : ℕ) →
    first_of c fs ≡ Some i → g.code ≡ (get_or fs i d).code → changed c (λ f. k) (set fs i g) ≡ changed c (λ f. k) fs
others c g d k [] i e s = cc
others {X} c g d k (f ∷ fs) i e s = go (eqb f.code c) refl (first_of c fs) (λ j. others c g d k fs j) e s
  where
    go : (b : Bool) → eqb f.code c ≡ b → (o : Option ℕ) → ((j : ℕ) → o ≡ Some j → g.code ≡ (get_or fs j d).code → changed c (λ f. k) (set fs j g) ≡ changed c (λ f. k) fs) →
        cond b (Some 0) (option_map suc o) ≡ Some i → g.code ≡ (get_or (f ∷ fs) i d).code → changed c (λ f. k) (set (f ∷ fs) i g) ≡ cond b (k ∷ fs) (f ∷ changed c (λ f. k) fs)
    go true t o ih e s = let z : i ≡ 0 = cc in rw z (let u : eqb g.code c ≡ true = ap (λ x. eqb x c) (rw z at s) ∙ t in rw u)
    go false t (Some j) ih e s = let z : i ≡ suc j = cc in rw z (rw t (ap (λ xs. f ∷ xs) (ih j refl (rw z at s))))
    go false t None ih e s = cc
