-- A question that is carried is tallied, any other refused.
use Rattle.std.proofs.Common.{◌≡◌, ℕ, List, Some, None, Option}
use Rattle.std.specs.Option.{is_some, IfSome, ok_or}
use Rattle.refusal.specs.declared.list.Refusal.TheVariants.{NotCarried}
use Rattle.refusal.specs.Replies.{reply, mapped, given}
use Rattle.question.specs.declared.checked.Question.{Question}
use Rattle.question.specs.Reading.{reading}
use Rattle.question.specs.Texts.{text}
use Rattle.belief.specs.Meaning.{mass_of, heaviest_of}
use Rattle.belief.specs.Calls.{replied}
use Rattle.ranges.specs.Changes.{revised_boxes}
use Rattle.boxes.specs.declared.holding.Boxes.{Boxes}
use Rattle.boxes.specs.declared.takers.Tally.{Tally}
use Rattle.boxes.specs.Holding.{carried, held, meaning}
use Rattle.boxes.specs.Takers.{Weighed}
use Rattle.boxes.specs.Returns.{PartsOf, parts, not_returns, mass_returns, heaviest_returns}
use Rattle.boxes.proofs.holding.Boxes.asked.Goals as goal

module _ (b : Boxes) (bytes : List ℕ) (q : Question) (h : given (text q) ≡ mapped (λ e. bytes) (reading bytes)) (a : ℕ) where
  mass : (o : Option Tally) → is_some o ≡ carried b.span.first b.span.count (held b) (text q) → IfSome o (λ t. Weighed t (revised_boxes (text q) a (held b))) → PartsOf b →
      mapped (λ t. t.mass) (reply (ok_or o NotCarried)) ≡ replied (meaning b) bytes (mass_of (meaning b) bytes a)
  mass None c w p = not_returns b bytes q h _ c
  mass (Some t) c w p = mass_returns b bytes q h a t c w p

  heaviest : (o : Option Tally) → is_some o ≡ carried b.span.first b.span.count (held b) (text q) → IfSome o (λ t. Weighed t (revised_boxes (text q) a (held b))) → PartsOf b →
      mapped (λ t. t.heaviest) (reply (ok_or o NotCarried)) ≡ replied (meaning b) bytes (heaviest_of (meaning b) bytes a)
  heaviest None c w p = not_returns b bytes q h _ c
  heaviest (Some t) c w p = heaviest_returns b bytes q h a t c w p

pub returns : goal.returns
returns c =
    let b = c.args.self.now in
    let q = c.in_ok-question in
    let w = c.tally.ensures in
    rw c.ok_or.ensures.value (record {
      mass = λ e. mass b c.args.question.now q.question q.ensures.gives c.args.answer c.tally.result w.carries w.weighs (parts b e);
      heaviest = λ e. heaviest b c.args.question.now q.question q.ensures.gives c.args.answer c.tally.result w.carries w.weighs (parts b e);
    })
