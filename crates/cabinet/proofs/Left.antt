-- What the answers from one on weigh together, and what is left of it after that one.
use Rattle.std.proofs.Common.{◌≡◌, ℕ, zero, suc, ◌+◌, cond, eqb, leb, List, [], ◌∷◌, refl, ◌∙◌, arith}
use Rattle.std.proofs.lemmas.Bool.Decides.{nat_tests}
use Rattle.question.specs.Questions.{answers}
use Rattle.belief.specs.Sheets.{up_to, sum_of, plus}
use Rattle.belief.specs.Meaning.{Meaning, kept, total_of, mass_of}
use Rattle.belief.proofs.Sums.{up_to_cong, over_cong}

up_to_add : (n : ℕ) (f g : ℕ → ℕ) → up_to plus n f + up_to plus n g ≡ up_to plus n (λ v. f v + g v)
up_to_add zero f g = refl
up_to_add (suc n) f g = let e = up_to_add n f g in omega arith

sum_add : (ts : List ℕ) (f g : List ℕ → ℕ) → sum_of ts f + sum_of ts g ≡ sum_of ts (λ s. f s + g s)
sum_add [] f g = refl
sum_add (t ∷ ts) f g = up_to_add t _ _ ∙ up_to_cong plus t _ _ (λ v. sum_add ts (λ s. f (v ∷ s)) (λ s. g (v ∷ s)))

-- the weight of the sheets whose answer is k or more
unfoldable pub mass_from : Meaning → List ℕ → ℕ → ℕ
mass_from m q k = sum_of m.tops (λ s. cond (leb k (answers q s)) (m.weight s) 0)

all : (x w : ℕ) → cond (leb 0 x) w 0 ≡ w
all x w = grind (arith, nat_tests)

pub from_first : (m : Meaning) (q : List ℕ) → mass_from m q 0 ≡ total_of m
unfolding mass_from total_of
from_first m q = over_cong plus m.tops _ _ (λ s. all (answers q s) (m.weight s))

part : (x k w : ℕ) → cond (eqb x k) w 0 + cond (leb (k + 1) x) w 0 ≡ cond (leb k x) w 0
part x k w = grind (arith, nat_tests)

pub from_next : (m : Meaning) (q : List ℕ) (k : ℕ) → mass_of m q k + mass_from m q (k + 1) ≡ mass_from m q k
unfolding mass_from mass_of kept
from_next m q k = sum_add m.tops _ _ ∙ over_cong plus m.tops _ _ (λ s. part (answers q s) k (m.weight s))
