-- Each of the four values is one of the span, or 0.
use Rattle.belief.specs.Spans.{span_only, span_value}
use Rattle.belief.proofs.spans.Span.only.Goals as goal

pub returns : goal.returns
unfolding span_only span_value
returns c = cc
