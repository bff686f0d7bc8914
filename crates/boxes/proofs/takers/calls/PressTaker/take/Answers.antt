-- One piece more is pressed.
use Rattle.std.proofs.Common.{ap, ◌∙◌}
use Rattle.boxes.specs.Takers.{put, pressed}
use Rattle.boxes.proofs.takers.calls.PressTaker.take.Goals as goal

pub returns : goal.returns
unfolding pressed
returns c =
    let t = c.args.self.now in
    ap (λ z. record { around = t.around; factor = t.factor; kept = z }) (c.push.ensures ∙ ap (put t.kept) c.press-pressed.ensures)
