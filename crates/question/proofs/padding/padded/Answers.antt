-- What `padded` leaves to show.
use Rattle.std.proofs.Common.{◌≡◌, ℕ, zero, suc, ◌-◌, min, List, [], ◌∷◌, ◌++◌, length, take, drop, replicate, ap, ◌∙◌, arith}
use Rattle.std.proofs.lemmas.List.{drop-replicate, take-replicate, take_min}
use Rattle.question.proofs.padding.padded.Goals as goal

after : {X : Type 0} (n : ℕ) (l r : List X) → take n (l ++ r) ≡ take n l ++ take (n - length l) r
after zero l r = let e : 0 - length l ≡ 0 = omega arith in rw e
after (suc n) [] r = let e : suc n - 0 ≡ suc n = omega arith in rw e
after (suc n) (x ∷ l) r = let e : suc n - suc (length l) ≡ n - length l = omega arith in rw e (ap (λ i. x ∷ i) (after n l r))

filled : {X : Type 0} (n m : ℕ) (l : List X) (x : X) → m ≡ min (length l) n → take m l ++ drop m (replicate n x) ≡ take n (l ++ replicate n x)
filled n m l x e =
    let d : n - m ≡ n - length l = omega arith in
    let s : m ≡ min n (length l) = omega arith in
    rw (after, take-replicate (n - length l) n x (omega arith), drop-replicate, d, s, take_min n l)

pub returns-clause-is : goal.returns-clause-is
returns-clause-is g c = ap (λ i. i ++ drop c.min-count.result (replicate g.row.N c.args.filler)) c.copy_from_slice.ensures.after ∙ filled _ _ c.args.list.now c.args.filler c.min-count.ensures
