-- What is printed of a refusal: its number, and the place that 9 and 10 bring with them. Assumes nothing.
use Rattle.std.specs.Prelude.{ℕ, List, ◌++◌, codes, decimal, Option, Some, None}
use Rattle.refusal.specs.declared.list.Refusal.{Refusal}
use Rattle.refusal.specs.Replies.{number_of, place_of}

abbrev pub place_text : Option ℕ → List ℕ
place_text (Some at) = codes " at " ++ decimal at
place_text None = codes ""

abbrev pub refusal_text : Refusal → List ℕ
refusal_text r = codes "refused " ++ decimal (number_of r) ++ place_text (place_of r)
