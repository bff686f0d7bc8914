-- Borrowed words as the lists of their bytes. Assumes nothing.
use Rattle.std.specs.Prelude.{◌≡◌, ℕ, List, Some, None, Option}
use Rattle.std.specs.Borrow.{Bor}
use Rattle.script.specs.Text.{line, after_line, word, after_word}

abbrev pub shown : Option (Bor (List ℕ)) → Option (List ℕ)
shown (Some r) = Some r.now
shown None = None

-- a call with the text bs gave the next line of it, if there is one, and left what follows
abbrev pub TakesLine : List ℕ → Option (Bor (List ℕ)) → List ℕ → Type 0
TakesLine bs r rest = (shown r ≡ line bs) × (rest ≡ after_line bs)

-- the same of the next word
abbrev pub TakesWord : List ℕ → Option (Bor (List ℕ)) → List ℕ → Type 0
TakesWord bs r rest = (shown r ≡ word bs) × (rest ≡ after_word bs)
