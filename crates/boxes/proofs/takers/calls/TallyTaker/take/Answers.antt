-- One piece more is counted and weighed.
use Rattle.boxes.proofs.Takings.{tally_yes, tally_no}
use Rattle.boxes.proofs.takers.calls.TallyTaker.take.Goals as goal

pub returns-then-is_wanted : goal.returns-then-is_wanted
returns-then-is_wanted c =
    let t = c.args.self.now in
    tally_yes t.wanted.question c.args.piece _ c.given_by-given.ensures.is t.wanted.answer t.pieces t.mass t.heaviest _ _ c.from-place.ensures c.saturating_add.ensures
    _ _ _ c.if-is_wanted.ensures c.mass_of.ensures c.saturating_add-self.ensures c.max-self.ensures

pub returns-else-is_wanted : goal.returns-else-is_wanted
returns-else-is_wanted c =
    let t = c.args.self.now in
    tally_no t.wanted.question c.args.piece _ c.given_by-given.ensures.is t.wanted.answer t.pieces t.mass t.heaviest _ _ c.from-place.ensures c.saturating_add.ensures c.if-is_wanted.ensures
