-- Folders by their codes: what a change of one leaves of the others.
use Rattle.std.proofs.Common.{◌≡◌, ℕ, zero, suc, Bool, true, false, cond, eqb, List, [], ◌∷◌, ◌++◌, map, length, replicate, Some, None, sym, refl, ap, ◌∙◌, arith}
use Rattle.std.proofs.lemmas.Bool.{eq-eqb, ne_eqb, eqb-true}
use Rattle.std.specs.List.{AllByRecursion}
use Rattle.std.specs.Option.{option_map}
use Rattle.belief.specs.Meaning.{Meaning}
use Rattle.register.specs.Places.{vacant}
use Rattle.cabinet.specs.declared.folders.Folder.{Folder}
use Rattle.cabinet.specs.Memory.{meant, coded, changed}

abbrev pub code : {X : Type 0} → Folder X → ℕ
code f = f.code

-- ---- a folder that keeps its code

module _ {X : Type 0} (g : Folder X → Folder X) (own : (f : Folder X) → (g f).code ≡ f.code) where
  pub changed_codes : (c : ℕ) (fs : List (Folder X)) → map code (changed c g fs) ≡ map code fs
  changed_codes c [] = refl
  changed_codes c (f ∷ fs) = by (eqb f.code c) (changed_codes c fs)
    where
      by : (t : Bool) → map code (changed c g fs) ≡ map code fs → map code (cond t (g f ∷ fs) (f ∷ changed c g fs)) ≡ f.code ∷ map code fs
      by true i = ap (λ n. n ∷ map code fs) (own f)
      by false i = ap (λ ns. f.code ∷ ns) i

  pub coded_changed : (c b : ℕ) (fs : List (Folder X)) → coded b (changed c g fs) ≡ cond (eqb c b) (option_map g (coded b fs)) (coded b fs)
  coded_changed c b [] = by (eqb c b)
    where
      by : (t : Bool) → None ≡ cond t (option_map g None) None
      by true = refl
      by false = refl
  coded_changed c b (f ∷ fs) = by (eqb f.code c) refl (eqb f.code b) refl (eqb c b) refl (coded_changed c b fs)
    where
      by : (s : Bool) → eqb f.code c ≡ s → (u : Bool) → eqb f.code b ≡ u → (t : Bool) → eqb c b ≡ t →
          coded b (changed c g fs) ≡ cond t (option_map g (coded b fs)) (coded b fs) →
          coded b (cond s (g f ∷ fs) (f ∷ changed c g fs)) ≡ cond t (option_map g (cond u (Some f) (coded b fs))) (cond u (Some f) (coded b fs))
      by true i true j true k h = ap (λ n. cond (eqb n b) (Some (g f)) (coded b fs)) (own f) ∙ ap (λ v. cond v (Some (g f)) (coded b fs)) j
      by true i true j false k h = let e = eqb-true f.code c i in cc
      by true i false j true k h = let e = eqb-true f.code c i in cc
      by true i false j false k h = ap (λ n. cond (eqb n b) (Some (g f)) (coded b fs)) (own f) ∙ ap (λ v. cond v (Some (g f)) (coded b fs)) j
      by false i true j true k h = let e = eqb-true c b k in cc
      by false i true j false k h = ap (λ v. cond v (Some f) (coded b (changed c g fs))) j
      by false i false j t k h = ap (λ v. cond v (Some f) (coded b (changed c g fs))) j ∙ h

-- ---- free folders, behind those that are taken

abbrev pub Taken : List ℕ → Type 0
Taken cs = AllByRecursion (λ c. c ≡ 0 → ⊥) cs

module _ {X : Type 0} where
  pub vacant_is : (k : ℕ) (cs : List ℕ) (fs : List (Folder X)) → Taken cs → map code fs ≡ cs ++ replicate k 0 → vacant code fs ≡ cond (eqb k 0) None (Some (length cs))
  vacant_is zero [] [] n e = refl
  vacant_is (suc k) [] [] n e = cc
  vacant_is k (c ∷ cs) [] n e = cc
  vacant_is zero [] (f ∷ fs) n e = cc
  vacant_is (suc k) [] (f ∷ fs) n e =
      ap (λ t. cond t (Some 0) (option_map suc (vacant code fs))) (eq-eqb f.code 0 (cc))
      ∙ sym (ap (λ t. cond t None (Some 0)) (ne_eqb (suc k) 0 (λ z. omega arith)))
  vacant_is k (c ∷ cs) (f ∷ fs) n e =
      ap (λ t. cond t (Some 0) (option_map suc (vacant code fs))) (ne_eqb f.code 0 (λ z. n.0 (cc)))
      ∙ ap (option_map suc) (vacant_is k cs fs n.1 (cc)) ∙ push (eqb k 0)
    where
      push : (t : Bool) → option_map suc (cond t None (Some (length cs))) ≡ cond t None (Some (suc (length cs)))
      push true = refl
      push false = refl

  -- no code but 0 is found among free folders
  pub free_coded : (k c : ℕ) (fs : List (Folder X)) → (c ≡ 0 → ⊥) → map code fs ≡ replicate k 0 → coded c fs ≡ None
  free_coded k c [] n e = refl
  free_coded zero c (f ∷ fs) n e = cc
  free_coded (suc k) c (f ∷ fs) n e =
      ap (λ t. cond t (Some f) (coded c fs)) (ne_eqb f.code c (λ z. n (cc))) ∙ free_coded k c fs n (cc)

  -- a folder in the first free place
  module _ (g : Folder X) where
    pub put_codes : (k : ℕ) (cs : List ℕ) (fs : List (Folder X)) → Taken cs → map code fs ≡ cs ++ replicate (suc k) 0 → map code (changed 0 (λ f. g) fs) ≡ cs ++ (g.code ∷ replicate k 0)
    put_codes k [] [] n e = cc
    put_codes k (c ∷ cs) [] n e = cc
    put_codes k [] (f ∷ fs) n e =
        ap (λ t. map code (cond t (g ∷ fs) (f ∷ changed 0 (λ f. g) fs))) (eq-eqb f.code 0 (cc)) ∙ ap (λ ns. g.code ∷ ns) (cc)
    put_codes k (c ∷ cs) (f ∷ fs) n e =
        ap (λ t. map code (cond t (g ∷ fs) (f ∷ changed 0 (λ f. g) fs))) (ne_eqb f.code 0 (λ z. n.0 (cc)))
        ∙ ap (λ ns. f.code ∷ ns) (put_codes k cs fs n.1 (cc)) ∙ ap (λ m. m ∷ (cs ++ (g.code ∷ replicate k 0))) (cc)

    pub coded_put : (k : ℕ) (cs : List ℕ) (fs : List (Folder X)) (c : ℕ) → Taken cs → map code fs ≡ cs ++ replicate (suc k) 0 → (c ≡ 0 → ⊥) → coded g.code fs ≡ None →
        coded c (changed 0 (λ f. g) fs) ≡ cond (eqb g.code c) (Some g) (coded c fs)
    coded_put k [] [] c n e z o = cc
    coded_put k (b ∷ cs) [] c n e z o = cc
    coded_put k [] (f ∷ fs) c n e z o =
        ap (λ t. coded c (cond t (g ∷ fs) (f ∷ changed 0 (λ f. g) fs))) (eq-eqb f.code 0 (cc))
        ∙ ap (λ t. cond (eqb g.code c) (Some g) (cond t (Some f) (coded c fs))) (sym (ne_eqb f.code c (λ i. z (cc))))
    coded_put k (b ∷ cs) (f ∷ fs) c n e z o =
        ap (λ t. coded c (cond t (g ∷ fs) (f ∷ changed 0 (λ f. g) fs))) (ne_eqb f.code 0 (λ i. n.0 (cc)))
        ∙ by (eqb f.code g.code) refl (eqb f.code c) refl (eqb g.code c) refl o (λ i. coded_put k cs fs c n.1 (cc) z i)
      where
        by : (s : Bool) → eqb f.code g.code ≡ s → (u : Bool) → eqb f.code c ≡ u → (t : Bool) → eqb g.code c ≡ t → cond s (Some f) (coded g.code fs) ≡ None →
            (coded g.code fs ≡ None → coded c (changed 0 (λ f. g) fs) ≡ cond t (Some g) (coded c fs)) →
            cond u (Some f) (coded c (changed 0 (λ f. g) fs)) ≡ cond t (Some g) (cond u (Some f) (coded c fs))
        by true i u j t l o h = cc
        by false i true j true l o h = let e = eq-eqb f.code g.code (eqb-true f.code c j ∙ sym (eqb-true g.code c l)) in cc
        by false i true j false l o h = refl
        by false i false j t l o h = h o

-- ---- folders by what their beliefs mean

pub meant_put : {X : Type 0} (means : X → Meaning) (c : ℕ) (g : Folder X) (fs : List (Folder X)) → map (meant means) (changed c (λ f. g) fs) ≡ changed c (λ f. meant means g) (map (meant means) fs)
meant_put means c g [] = refl
meant_put means c g (f ∷ fs) = by (eqb f.code c) (meant_put means c g fs)
  where
    by : (t : Bool) → map (meant means) (changed c (λ f. g) fs) ≡ changed c (λ f. meant means g) (map (meant means) fs) →
        map (meant means) (cond t (g ∷ fs) (f ∷ changed c (λ f. g) fs)) ≡ cond t (meant means g ∷ map (meant means) fs) (meant means f ∷ changed c (λ f. meant means g) (map (meant means) fs))
    by true i = refl
    by false i = ap (λ gs. meant means f ∷ gs) i
