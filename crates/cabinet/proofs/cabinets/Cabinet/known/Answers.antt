use Rattle.std.proofs.Common.{sym}
use Rattle.cabinet.proofs.Places.{known_none, known_unfit, known_found}
use Rattle.cabinet.proofs.cabinets.Cabinet.known.Goals as goal

pub returns-in_default : goal.returns-in_default
returns-in_default g c = known_none g.B.Belief.means c.args.self.now _ c.args.code (sym c.in_default.ensures.found)

pub returns-then-not-fits : goal.returns-then-not-fits
returns-then-not-fits g c = known_unfit g.B.Belief.means c.args.self.now _ c.args.code _ (sym c.in-Some.ensures.found) c.index-folders-at.result (sym c.if-not-fits.ensures)

pub returns : goal.returns
returns g c =
    known_found g.B.Belief.means c.args.self.now _ c.args.code _ (sym c.in-Some.ensures.found) c.in-Some.ensures.within c.index-folders-at.result (sym c.if-not-fits.ensures)
