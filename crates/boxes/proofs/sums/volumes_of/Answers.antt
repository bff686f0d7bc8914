-- The volumes, one after another.
use Rattle.std.proofs.Common.{◌+◌, ◌∙◌, refl, rules}
use Rattle.std.proofs.lemmas.Iterator.{YieldsList-from_slice, YieldsList-from_map}
use Rattle.std.proofs.lemmas.Iterator.Consumers.{fold_from_yields_List}
use Rattle.ranges.specs.Boxes.{volume, volume_in}
use Rattle.boxes.specs.Takers.{capped}
use Rattle.boxes.proofs.Chains.{summed}
use Rattle.boxes.proofs.sums.volumes_of.Goals as goal

pub returns : goal.returns
unfolding volume_in
returns c =
    fold_from_yields_List _ (λ n m. capped (n + m)) 0 _ c.fold.ensures.ran
    (YieldsList-from_map _ (λ b. volume b.sides) (YieldsList-from_slice c.args.boxes.now cc) c.map.ensures.closure (λ x r q k. search rules)) (λ n x r q k. search rules)
    ∙ summed _ (λ b. volume b.sides) (λ b. refl) c.args.boxes.now
