-- A piece is multiplied if it lies inside.
use Rattle.boxes.proofs.Takings.{press_yes, press_no}
use Rattle.boxes.proofs.takers.Press.press.Goals as goal

pub returns-then-is_inside : goal.returns-then-is_inside
returns-then-is_inside c = press_yes c.args.self.now.around c.args.self.now.factor c.args.piece _ c.corner_of.ensures _ c.if-is_inside.ensures c.saturating_mul.ensures

pub returns-else-is_inside : goal.returns-else-is_inside
returns-else-is_inside c = press_no c.args.self.now.around c.args.self.now.factor c.args.piece _ c.corner_of.ensures c.if-is_inside.ensures
