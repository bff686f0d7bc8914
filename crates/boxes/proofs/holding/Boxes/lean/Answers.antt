-- Leaning, by what was tested.
use Rattle.std.proofs.Common.{sym, ap}
use Rattle.boxes.specs.Holding.{boxed, held}
use Rattle.boxes.specs.Returns.{parts}
use Rattle.boxes.proofs.Leans.{lean_value, lean_factor, lean_excess, lean_ok, lean_held, leans}
use Rattle.boxes.proofs.holding.Boxes.lean.Goals as goal

pub returns-then-not-good_edges-clause-replies : goal.returns-then-not-good_edges-clause-replies
returns-then-not-good_edges-clause-replies c = λ e. lean_value c.args.self.now c.args.lowest c.args.highest c.args.factor (sym c.if-not-good_edges.ensures)

pub returns-then-not-good_factor-clause-replies : goal.returns-then-not-good_factor-clause-replies
returns-then-not-good_factor-clause-replies c = λ e.
    lean_factor c.args.self.now c.args.lowest c.args.highest c.args.factor (sym c.if-not-good_edges.ensures) (sym c.if-not-good_factor.ensures)

pub returns-then-not-has_room-clause-replies : goal.returns-then-not-has_room-clause-replies
returns-then-not-has_room-clause-replies c =
    let b = c.args.self.now in
    λ e.
    lean_excess b c.args.lowest c.args.highest c.args.factor (sym c.if-not-good_edges.ensures) (sym c.if-not-good_factor.ensures) (parts b e) _ _ c.sides_between.ensures
    (rw c.from.ensures at c.pressed-list.ensures) c.if-not-has_room.ensures.is

pub returns-clause-replies : goal.returns-clause-replies
returns-clause-replies c =
    let b = c.args.self.now in
    λ e.
    lean_ok b c.args.lowest c.args.highest c.args.factor (sym c.if-not-good_edges.ensures) (sym c.if-not-good_factor.ensures) (parts b e) _ _ c.sides_between.ensures
    (rw c.from.ensures at c.pressed-list.ensures) c.if-not-has_room.ensures.is

pub returns-clause-leaves : goal.returns-clause-leaves
unfolding held
returns-clause-leaves c =
    let b = c.args.self.now in
    λ e.
    ap (boxed b.span.first b.span.count b.span.tops)
    (lean_held b c.args.lowest c.args.highest c.args.factor (sym c.if-not-good_edges.ensures) (sym c.if-not-good_factor.ensures) (parts b e) _ _ c.sides_between.ensures
    (rw c.from.ensures at c.pressed-list.ensures) c.if-not-has_room.ensures.is)

pub returns-clause-leans : goal.returns-clause-leans
unfolding held
returns-clause-leans c =
    let b = c.args.self.now in
    λ e.
    leans b c.args.lowest c.args.highest c.args.factor (sym c.if-not-good_edges.ensures) (sym c.if-not-good_factor.ensures) (parts b e) _ _ c.sides_between.ensures
    (rw c.from.ensures at c.pressed-list.ensures) c.if-not-has_room.ensures.is
