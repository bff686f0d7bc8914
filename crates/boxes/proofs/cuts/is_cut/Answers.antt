-- A side of the four is cut where the box is.
use Rattle.std.proofs.Common.{◌≡◌, length, ◌∙◌, arith, rules}
use Rattle.boxes.proofs.Fours.{cut_at, cut_past}
use Rattle.boxes.proofs.cuts.is_cut.Goals as goal

pub returns-then-k-ge4-clause-is : goal.returns-then-k-ge4-clause-is
returns-then-k-ge4-clause-is c = let l : length c.args.sides ≡ 4 = search rules in cut_past c.args.sides c.args.k c.args.v (omega arith)

pub returns-clause-is : goal.returns-clause-is
returns-clause-is c = let l : length c.args.sides ≡ 4 = search rules in c.cuts_side.ensures.is ∙ cut_at c.args.sides c.args.k c.args.v (omega arith)
