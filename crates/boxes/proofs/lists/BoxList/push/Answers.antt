-- One box more, or one more counted.
use Rattle.std.proofs.Common.{◌+◌, ap, ◌∙◌}
use Rattle.boxes.specs.Takers.{capped}
use Rattle.boxes.proofs.Takings.{put_room, put_full}
use Rattle.boxes.proofs.lists.BoxList.push.Goals as goal
use Rattle.boxes.proofs.lists.BoxList.push.Goals.{then-self-lt-MOST_BOXES, else-self-lt-MOST_BOXES}

pub returns : goal.returns
returns c = elim c.if-self-lt-MOST_BOXES.branch [
  | then-self-lt-MOST_BOXES w ↦
      put_room c.args.self.now c.args.b _ _ w.if-self-lt-MOST_BOXES.true (ap (λ z. z.boxes) w.self-is) (c.saturating_add-self.ensures ∙ ap (λ z. capped (z.len + 1)) w.self-is)
  | else-self-lt-MOST_BOXES w ↦
      put_full c.args.self.now c.args.b _ _ w.if-self-lt-MOST_BOXES.false (ap (λ z. z.boxes) w.self-is) (c.saturating_add-self.ensures ∙ ap (λ z. capped (z.len + 1)) w.self-is)
]
