-- One piece more is sifted.
use Rattle.boxes.proofs.Takings.{sift_yes, sift_no}
use Rattle.boxes.proofs.takers.calls.SieveTaker.take.Goals as goal

pub returns-then-is_wanted : goal.returns-then-is_wanted
returns-then-is_wanted c =
    let t = c.args.self.now in sift_yes t.wanted.question c.args.piece _ c.given_by.ensures.is t.wanted.answer t.kept _ c.if-is_wanted.ensures c.push.ensures

pub returns-else-is_wanted : goal.returns-else-is_wanted
returns-else-is_wanted c = let t = c.args.self.now in sift_no t.wanted.question c.args.piece _ c.given_by.ensures.is t.wanted.answer t.kept c.if-is_wanted.ensures
