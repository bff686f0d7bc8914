-- The masses, one after another.
use Rattle.std.proofs.Common.{◌+◌, ◌*◌, ◌∙◌, arith, rules}
use Rattle.std.proofs.lemmas.Iterator.{YieldsList-from_slice, YieldsList-from_map}
use Rattle.std.proofs.lemmas.Iterator.Consumers.{fold_from_yields_List}
use Rattle.ranges.specs.Boxes.{volume, total_in}
use Rattle.boxes.specs.Takers.{capped}
use Rattle.boxes.proofs.Chains.{summed}
use Rattle.boxes.proofs.sums.total_of.Goals as goal

pub returns : goal.returns
unfolding total_in
returns c =
    fold_from_yields_List _ (λ n m. capped (n + m)) 0 _ c.fold.ensures.ran
    (YieldsList-from_map _ (λ b. capped (volume b.sides * b.weight)) (YieldsList-from_slice c.args.boxes.now cc) c.map.ensures.closure (λ x r q k. search rules)) (λ n x r q k. search rules)
    ∙ summed _ (λ b. volume b.sides * b.weight) (λ b. omega arith) c.args.boxes.now
