-- What a question of a known folder is replied, and what follows from the reply.
use Rattle.std.proofs.Common.{◌≡◌, ℕ, ◌+◌, ◌-◌, ◌≤◌, Bool, true, false, not, eqb, ltb, List, [], length, sym, refl, ap, ◌∙◌, arith}
use Rattle.std.proofs.lemmas.Bool.{ltb-false}
use Rattle.refusal.specs.Replies.{Reply, given, declined, and_then, refuse_if}
use Rattle.question.specs.Expressions.{greatest, Expression}
use Rattle.question.specs.Reading.{reading}
use Rattle.belief.specs.Meaning.{Meaning, mass_of}
use Rattle.history.specs.Judging.{telling}
use Rattle.audit.specs.Format.{asks}
use Rattle.cabinet.specs.declared.cabinets.Cabinet.{Cabinet}
use Rattle.cabinet.specs.declared.folders.Folder.{Folder}
use Rattle.cabinet.specs.Memory.{State, state}
use Rattle.cabinet.specs.Calls.{known, judging, answering, asking}
use Rattle.cabinet.specs.Inner.{Room, Ready}

module _ (s : State Meaning) (q : List ℕ) (f : Folder Meaning) where
  pub has_room : asks (length q) ≡ true → false ≡ ltb (length s.audit - s.cabinet.used) (5 + length q) → Room s.cabinet s.audit q
  has_room e h = let k = ltb-false _ _ (sym h) in record { asked = e; free = omega arith }

  -- what an answer says of the belief
  revises : (o : Reply Expression) (x y z : Bool) (a b : ℕ) → given b ≡ and_then o (λ e. refuse_if (not x) 12 (refuse_if y 13 (refuse_if z 14 (given a)))) →
      (b ≡ a) × (◌≡◌ {A = Reply (Unit {0})} (and_then o (λ e. refuse_if (not x) 12 (refuse_if y 13 (given tt)))) (given tt))
  revises (given e) true false false a b h = (cc, refl)
  revises (given e) true false true a b h = cc
  revises (given e) true true z a b h = cc
  revises (given e) false y z a b h = cc
  revises (declined n p) x y z a b h = cc

  pub ready : (a : ℕ) (r : Reply ℕ) → r ≡ and_then (reading q) (λ e. judging f q a) → a ≤ greatest → Room s.cabinet s.audit q → Ready s.cabinet s.audit q f r
  ready a (declined n p) e l room = λ h. room
  ready a (given b) e l room =
      let k = revises (reading q) (f.belief.carries [] q) (eqb (mass_of f.belief q a) 0) (telling f.belief q f.threshold.n f.threshold.d) a b e in
      rw k.0 (room, k.1, l)

  -- the folder was known
  pub replies : (code : ℕ) (r : Reply ℕ) → r ≡ answering s code q f → known s.cabinet s.folders code ≡ given f → r ≡ asking s code q
  replies code r e k = e ∙ ap (λ o. and_then o (answering s code q)) (sym k)

-- memory is the same where its parts are
pub same_state : {X : Type 0} {c e : Cabinet} {fs gs : List (Folder X)} {a b : List ℕ} → c ≡ e → fs ≡ gs → a ≡ b → state c fs a ≡ state e gs b
same_state i j k = λ t. state (i t) (j t) (k t)
