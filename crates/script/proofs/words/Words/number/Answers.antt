use Rattle.std.proofs.Common.{◌≡◌, Some, subst, arith, rules}
use Rattle.script.specs.Text.{next_number}
use Rattle.script.proofs.words.Words.number.Goals as goal

pub returns-clause-number : goal.returns-clause-number
returns-clause-number g c =
    let e : next_number c.args.self.now.rest.now ≡ Some c.in_ok-number.number = grind arith in
    rw e (c.try_from.result, subst (λ n. g.T.TryFrom.try_from_gives n c.try_from.result) (search rules) c.try_from.ensures, grind arith)
