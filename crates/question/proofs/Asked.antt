-- Bytes that are a question, as the walks over them want them.
use Rattle.std.proofs.Common.{◌≡◌, ℕ, sym, ◌∙◌, true, false, List, [], IfOk, Ok, Err, Result, refl, ap}
use Rattle.refusal.specs.Replies.{Reply, given, declined, reply}
use Rattle.refusal.specs.declared.list.Refusal.{Refusal}
use Rattle.question.specs.declared.checked.Question.{Question}
use Rattle.question.specs.Expressions.{Expression, mentions}
use Rattle.question.specs.Reading.{reading}
use Rattle.question.specs.Fronts.{Begins, Any, Small, scan, prefixed, walk}
use Rattle.question.specs.Questions.{read_or, is_question, reads_field, stepped_as}
use Rattle.question.specs.Texts.{text}
use Rattle.question.proofs.Fields.{scan_whole}
use Rattle.question.proofs.Gathered.{prefixed_none, walk_whole}
use Rattle.question.proofs.Questions.{text_asks, stepped_given}
use Rattle.question.proofs.Front.{Accepted, accepted, checked}

asked_by : (r : Reply Expression) → read_or false (λ e. true) r ≡ true → given tt ≡ checked r
asked_by (given e) h = refl
asked_by (declined n p) h = cc

pub asked : (q : List ℕ) → is_question q ≡ true → Accepted q
unfolding is_question
asked q h = accepted q (asked_by (reading q) h)

-- what was accepted is a question
pub asks : (q : List ℕ) → given tt ≡ checked (reading q) → is_question q ≡ true
unfolding is_question
asks q h = ap (read_or false (λ e. true)) (accepted q h).reads

pub asked_if_ok : (q : List ℕ) (r : Result (Unit {0}) Refusal) → reply r ≡ checked (reading q) → IfOk r (λ _. is_question q ≡ true)
asked_if_ok q (Ok u) h = asks q h
asked_if_ok q (Err e) h = tt

-- what a question holds was accepted
pub held : (q : Question) → Accepted (text q)
held q = asked (text q) (text_asks q)

-- what the walks over its bytes ask for
pub begins : {q : List ℕ} → Accepted q → Begins Small q
begins a = record { tree = a.tree; rest = []; is = a.is; has = a.small }

pub begins_any : {q : List ℕ} → Accepted q → Begins Any q
begins_any a = record { tree = a.tree; rest = []; is = a.is; has = tt }

-- what the walks over its bytes say of it
pub scan_held : (q : Question) (k : ℕ) → scan k (text q) ≡ reads_field (text q) k
unfolding reads_field
scan_held q k = let a = held q in ap (scan k) a.is ∙ (scan_whole k a.tree ∙ sym (ap (read_or false (mentions k)) a.reads))

pub walk_held : (q : Question) → prefixed [] (walk 0 (text q)) ≡ stepped_as (text q)
walk_held q =
    let a = held q in
    prefixed_none (walk 0 (text q)) ∙ (ap (walk 0) a.is ∙ (walk_whole a.tree ∙ sym (stepped_given (text q) a.reads)))
