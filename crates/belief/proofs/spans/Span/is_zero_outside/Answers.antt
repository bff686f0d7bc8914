-- Values are 0 outside the span where they are those of the span alone.
use Rattle.belief.proofs.Spanned.{only_same}
use Rattle.std.proofs.Common.{rules}
use Rattle.belief.proofs.spans.Span.is_zero_outside.Goals as goal

pub returns : goal.returns
returns c = let e = only_same c.args.self.first c.args.self.count c.args.values (search rules) in cc
