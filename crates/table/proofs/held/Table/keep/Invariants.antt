-- What is kept so far, what is still to come, and the sheet that comes next.
use Rattle.std.proofs.Common.{◌≡◌, ℕ, ◌<◌, ◌≤◌, get_or}
use Rattle.question.specs.Texts.{text}
use Rattle.table.specs.Places.{size_of}
use Rattle.table.specs.Walks.{Stands}
use Rattle.table.proofs.Loops.{share_at}
use Rattle.table.proofs.held.Table.keep.Given as goal

abbrev pub invariant-loop-i : goal.invariant-loop-i
invariant-loop-i l =
    (l.self.span ≡ l.initial.self.span)
    × ((j : ℕ) → j < l.i → get_or l.self.weights j 0 ≡ share_at (text l.question) l.answer l.initial.self.span.tops l.initial.self.weights j)
    × ((j : ℕ) → l.i ≤ j → get_or l.self.weights j 0 ≡ get_or l.initial.self.weights j 0)
    × (l.i < size_of l.initial.self.span.tops → Stands l.initial.self.span.tops l.sheet l.i)
