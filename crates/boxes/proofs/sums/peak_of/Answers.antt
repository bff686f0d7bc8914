-- The greatest weight.
use Rattle.std.proofs.Common.{sym, ap, ◌∙◌, rules}
use Rattle.std.specs.Option.{unwrap_or}
use Rattle.std.proofs.lemmas.Iterator.Adapters.{option_map_id}
use Rattle.std.proofs.lemmas.Iterator.{YieldsList-from_slice, YieldsList-from_map}
use Rattle.std.proofs.lemmas.Iterator.Consumers.{max_from_yields_List}
use Rattle.ranges.specs.Boxes.{peak_in}
use Rattle.boxes.proofs.Chains.{peaked}
use Rattle.boxes.proofs.sums.peak_of.Goals as goal

pub returns : goal.returns
unfolding peak_in
returns c =
    c.unwrap_or.ensures
    ∙ ap (λ r. unwrap_or r 0) (sym (option_map_id _) ∙ max_from_yields_List _ _ c.max.ensures.ran (YieldsList-from_map _ (λ b. b.weight) (YieldsList-from_slice c.args.boxes.now cc) c.map.ensures.closure (λ x r q k. search rules)))
    ∙ peaked (λ b. b.weight) c.args.boxes.now
