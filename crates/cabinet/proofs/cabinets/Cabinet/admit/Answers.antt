use Rattle.std.proofs.Common.{arith}
use Rattle.std.proofs.lemmas.Grind.{common_steps}
use Rattle.cabinet.proofs.Places.{coded_is}
use Rattle.cabinet.proofs.cabinets.Cabinet.admit.Goals as goal
use Rattle.cabinet.proofs.cabinets.Cabinet.admit.Goals.{then-code-eq0-via-then-code-eq0, then-code-eq0-via-else-code-eq0+then-is_some}

pub returns-then-code-eq0-clause-result : goal.returns-then-code-eq0-clause-result
returns-then-code-eq0-clause-result g c =
    elim c.then-code-eq0.branch [ then-code-eq0-via-then-code-eq0 w ↦ grind (arith, common_steps) | then-code-eq0-via-else-code-eq0+then-is_some w ↦ grind (arith, common_steps, coded_is) ]
