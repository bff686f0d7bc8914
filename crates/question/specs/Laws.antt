-- What bytes may be replied, in words of expressions and bytes alone. Assumes nothing.
use Rattle.std.specs.Prelude.{◌≡◌, ℕ, ◌+◌, ◌<◌, ◌≤◌, List, [], ◌∷◌, ◌++◌, length, take, Some, ◌≢◌}
use Rattle.refusal.specs.Replies.{Reply, given, declined}
use Rattle.question.specs.Expressions.{longest, limit, Expression, written, Placed, completed}

-- ---- bytes that write no expression

abbrev pub Bytes : List ℕ → Type 0
Bytes [] = Unit {0}
Bytes (b ∷ bs) = (b < 256) × Bytes bs

-- further bytes complete these to an expression, however long
pub record Opens (bs : List ℕ) : Type 0 where
  pub tree : Expression
  pub rest : List ℕ
  pub bytes : Bytes rest
  pub is : written tree ≡ bs ++ rest

-- p is where bytes that write no expression go wrong: those before p can be completed, with the byte at p they cannot;
-- where that byte is missing, p is their length
pub record Wrong (bs : List ℕ) (p : ℕ) : Type 0 where
  pub within : p ≤ length bs
  pub before : Opens (take p bs)
  pub here : p < length bs → Opens (take (p + 1) bs) → ⊥
  pub none : (e : Expression) → bs ≢ written e

-- ---- bounds that pass the limit

-- none of some commands passes the limit
abbrev pub Within : List Placed → Type 0
Within [] = Unit {0}
Within (c ∷ cs) = (c.size ≤ limit) × Within cs

-- the first of some commands that passes the limit stands at p
pub record Passing (cs : List Placed) (p : ℕ) : Type 0 where
  pub before : List Placed
  pub here : Placed
  pub after : List Placed
  pub is : cs ≡ before ++ (here ∷ after)
  pub within : Within before
  pub passes : limit < here.size
  pub at : here.place ≡ p

-- ---- the reply

pub data Told (bs : List ℕ) : Reply Expression → Type 0 where
  -- the expression that they write, if they are few enough and no bound passes the limit
  asked : (e : Expression) → length bs ≤ longest → bs ≡ written e → Within (completed 0 e) → Told bs (given e)
  -- 9 after the last byte that a question may have, if there are more
  long : longest < length bs → Told bs (declined 9 (Some longest))
  -- 9 where they go wrong, if they write no expression
  wrong : (p : ℕ) → length bs ≤ longest → Wrong bs p → Told bs (declined 9 (Some p))
  -- 10 at the command that was completed first of those whose bound passes the limit
  over : (e : Expression) (p : ℕ) → length bs ≤ longest → bs ≡ written e → Passing (completed 0 e) p → Told bs (declined 10 (Some p))

-- the reply that these bytes are told, and the only one
pub record Only (bs : List ℕ) (reply : Reply Expression) : Type 0 where
  pub told : Told bs reply
  pub alone : (other : Reply Expression) → Told bs other → other ≡ reply

-- no bytes begin with the writings of two expressions
pub record Unique : Type 0 where
  pub tree : (e f : Expression) (r q : List ℕ) → written e ++ r ≡ written f ++ q → e ≡ f
  pub rest : (e f : Expression) (r q : List ℕ) → written e ++ r ≡ written f ++ q → r ≡ q
