-- One revising after a list of revisings.
use Rattle.std.proofs.Common.{◌≡◌, ℕ, Bool, true, false, cond, ◌&&◌, eqb, List, [], ◌∷◌, ◌++◌, sym, refl, ap}
use Rattle.question.specs.Questions.{answers}
use Rattle.belief.specs.Meaning.{Meaning, Asked, kept, revised, gives, conditioned}

-- two functions with the same values are one
pub ext : {A B : Type 0} {f g : A → B} → ((x : A) → f x ≡ g x) → f ≡ g
ext h = λ i x. h x i

-- two meanings with the same parts are one
pub same : (m n : Meaning) → m.first ≡ n.first → m.count ≡ n.count → m.tops ≡ n.tops → m.weight ≡ n.weight → m.carries ≡ n.carries → m.sound ≡ n.sound → m ≡ n
same m n a b c d e f = λ i. record { first = a i; count = b i; tops = c i; weight = d i; carries = e i; sound = f i }

gives_more : (h : List Asked) (x : Asked) (s : List ℕ) (w : ℕ) →
    cond (gives (h ++ (x ∷ [])) s) w 0 ≡ cond (eqb (answers x.question s) x.answer) (cond (gives h s) w 0) 0
unfolding gives
gives_more [] x s w = one (eqb (answers x.question s) x.answer) w
  where
    one : (b : Bool) (w : ℕ) → cond (b && true) w 0 ≡ cond b w 0
    one true w = refl
    one false w = refl
gives_more (y ∷ h) x s w = step (eqb (answers y.question s) y.answer) (gives_more h x s w)
  where
    step : (b : Bool) → cond (gives (h ++ (x ∷ [])) s) w 0 ≡ cond (eqb (answers x.question s) x.answer) (cond (gives h s) w 0) 0 →
        cond (b && gives (h ++ (x ∷ [])) s) w 0 ≡ cond (eqb (answers x.question s) x.answer) (cond (b && gives h s) w 0) 0
    step true e = e
    step false e = none (eqb (answers x.question s) x.answer)
      where
        none : (b : Bool) → ◌≡◌ {A = ℕ} 0 (cond b 0 0)
        none true = refl
        none false = refl

push : (h : List Asked) (x : Asked) (l : List Asked) → h ++ (x ∷ l) ≡ (h ++ (x ∷ [])) ++ l
push [] x l = refl
push (y ∷ h) x l = ap (λ z. y ∷ z) (push h x l)

-- no revising, and one more
pub conditioned_none : (m : Meaning) → conditioned m [] ≡ m
unfolding conditioned gives
conditioned_none m = refl

pub conditioned_more : (m : Meaning) (h : List Asked) (q : List ℕ) (a : ℕ) →
    revised (conditioned m h) q a ≡ conditioned m (h ++ (record { question = q; answer = a } ∷ []))
unfolding revised conditioned kept
conditioned_more m h q a =
    same _ _ refl refl refl (ext (λ s. sym (gives_more h (record { question = q; answer = a }) s (m.weight s))))
    (ext (λ l. ap m.carries (push h (record { question = q; answer = a }) l))) refl
