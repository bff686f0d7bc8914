use Rattle.std.proofs.Common.{◌≡◌, ◌≢◌, rules}
use borrow.Author.Tests.{tests}
use Rattle.std.proofs.lemmas.Iterator.{YieldsList-from_slice, IsFirst-from_position}
use Rattle.register.proofs.Looking.{found}
use Rattle.register.proofs.find.Goals as goal

pub returns : goal.returns
returns g c =
    let key = g.E.Coded.key in
    let xs = c.args.entries.now in
    found key c.args.code xs _ (IsFirst-from_position _ _ _ (λ x. key x ≡ c.args.code) (λ x. key x ≢ c.args.code) c.position.ensures.ran (YieldsList-from_slice xs cc)
    (λ x q k. search (rules, tests)) (λ x q k. search (rules, tests)))
