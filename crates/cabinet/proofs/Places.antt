-- The folder of a code, by its place in the register.
use Rattle.std.proofs.Common.{◌≡◌, ℕ, suc, ◌<◌, Bool, true, false, cond, eqb, List, [], ◌∷◌, map, length, get_or, set, is_some, Some, None, Option, sym, refl, ap, ◌∙◌}
use Rattle.std.specs.Option.{option_map}
use Rattle.std.proofs.lemmas.List.{get_or_default}
use Rattle.std.proofs.lemmas.Bool.{and_parts, cond-false}
use Rattle.refusal.specs.declared.list.Refusal.TheVariants.{Code, Unfit}
use Rattle.belief.specs.Meaning.{Meaning}
use Rattle.history.specs.Judging.{fitting}
use Rattle.register.specs.Places.{first, place}
use Rattle.cabinet.specs.declared.cabinets.Cabinet.{Cabinet}
use Rattle.cabinet.specs.declared.folders.Folder.{Folder}
use Rattle.cabinet.specs.Memory.{meant, coded, folder_of, changed}
use Rattle.cabinet.specs.Inner.{Found, Missing}

abbrev pub first_of : {X : Type 0} → ℕ → List (Folder X) → Option ℕ
first_of c fs = first (λ f. f.code) c fs

module _ {X : Type 0} (means : X → Meaning) (c : ℕ) where
  pub coded_some : (fs : List (Folder X)) (i : ℕ) (d : Folder X) → first_of c fs ≡ Some i → coded c (map (meant means) fs) ≡ Some (meant means (get_or fs i d))
  coded_some [] i d e = cc
  coded_some (f ∷ fs) i d e = go (eqb f.code c) (first_of c fs) (λ j. coded_some fs j d) e
    where
      go : (b : Bool) (o : Option ℕ) → ((j : ℕ) → o ≡ Some j → coded c (map (meant means) fs) ≡ Some (meant means (get_or fs j d))) → cond b (Some 0) (option_map suc o) ≡ Some i →
          cond b (Some (meant means f)) (coded c (map (meant means) fs)) ≡ Some (meant means (get_or (f ∷ fs) i d))
      go true o ih e = let z : i ≡ 0 = cc in rw z
      go false (Some j) ih e = let z : i ≡ suc j = cc in rw z (ih j refl)
      go false None ih e = cc

  -- whether there is one
  pub coded_is : (fs : List (Folder X)) → is_some (first_of c fs) ≡ is_some (coded c (map (meant means) fs))
  coded_is [] = refl
  coded_is (f ∷ fs) = go (eqb f.code c) (first_of c fs) (coded_is fs)
    where
      go : (b : Bool) (o : Option ℕ) → is_some o ≡ is_some (coded c (map (meant means) fs)) →
          is_some (cond b (Some 0) (option_map suc o)) ≡ is_some (cond b (Some (meant means f)) (coded c (map (meant means) fs)))
      go true o ih = refl
      go false (Some j) ih = ih
      go false None ih = ih

  -- its place
  pub first_is : (fs : List (Folder X)) → first_of c fs ≡ first_of c (map (meant means) fs)
  first_is [] = refl
  first_is (f ∷ fs) = ap (λ o. cond (eqb f.code c) (Some 0) (option_map suc o)) (first_is fs)

none_is : {A : Type 0} (o : Option A) → false ≡ is_some o → o ≡ None
none_is (Some x) e = cc
none_is None e = refl

-- a folder put at the first place of a code
pub set_changed : {X : Type 0} (c : ℕ) (fs : List (Folder X)) (i : ℕ) (g : Folder X) → first_of c fs ≡ Some i → set fs i g ≡ changed c (λ f. g) fs
set_changed c [] i g e = cc
set_changed {X} c (f ∷ fs) i g e = go (eqb f.code c) (first_of c fs) (λ j. set_changed c fs j g) e
  where
    go : (b : Bool) (o : Option ℕ) → ((j : ℕ) → o ≡ Some j → set fs j g ≡ changed c (λ f. g) fs) → cond b (Some 0) (option_map suc o) ≡ Some i →
        set (f ∷ fs) i g ≡ cond b (g ∷ fs) (f ∷ changed c (λ f. g) fs)
    go true o ih e = let z : i ≡ 0 = cc in rw z
    go false (Some j) ih e = let z : i ≡ suc j = cc in rw z (ap (λ xs. f ∷ xs) (ih j refl))
    go false None ih e = cc

-- code 0 is not sought
some_parts : (b : Bool) (o : Option ℕ) (i : ℕ) → cond b None o ≡ Some i → (b ≡ false) × (o ≡ Some i)
some_parts true o i e = cc
some_parts false o i e = (refl, e)

none_parts : {A : Type 0} (b : Bool) (o : Option ℕ) (p : Option A) → is_some o ≡ is_some p → cond b None o ≡ None → cond b None p ≡ None
none_parts true o p h e = refl
none_parts false o p h e = none_is p (sym (ap is_some e) ∙ h)

module _ {X : Type 0} (means : X → Meaning) (c : Cabinet) (fs : List (Folder X)) (code : ℕ) where
  pub known_none : place (λ f. f.code) code fs ≡ None → Missing means c fs code Code
  known_none e = record { quiet = refl; is = rw (none_parts (eqb code 0) (first_of code fs) (coded code (map (meant means) fs)) (coded_is means code fs) e) }

  module _ (i : ℕ) (e : place (λ f. f.code) code fs ≡ Some i) where
    found : (d : Folder X) → folder_of code (map (meant means) fs) ≡ Some (meant means (get_or fs i d))
    found d =
        let p = some_parts (eqb code 0) (first_of code fs) i e in
        cond-false (eqb code 0) None _ p.0 ∙ coded_some means code fs i d p.1

    pub known_unfit : (d : Folder X) → fitting c.count c.tops (means (get_or fs i d).belief) ≡ false → Missing means c fs code Unfit
    known_unfit d h = record { quiet = refl; is = rw (found d, h) }

    pub known_found : i < length fs → (d : Folder X) → fitting c.count c.tops (means (get_or fs i d).belief) ≡ true → Found means c fs code i
    known_found w d h =
        let fits : (x : Folder X) → fitting c.count c.tops (means (get_or fs i x).belief) ≡ true = λ x. ap (λ y. fitting c.count c.tops (means y.belief)) (get_or_default fs i x d w) ∙ h in
        record {
          within = w;
          at = (some_parts (eqb code 0) (first_of code fs) i e).1;
          sound = λ x. (and_parts _ _ (fits x)).0;
          folder = λ x. rw (found x, fits x);
        }
