-- Boxes are few and light enough.
use Rattle.boxes.proofs.Leans.{room_is}
use Rattle.boxes.proofs.holding.leaning.has_room.Goals as goal

pub returns-clause-is : goal.returns-clause-is
returns-clause-is c = room_is c.args.list.now _ c.if-not-may_keep.ensures c.total_of.ensures
