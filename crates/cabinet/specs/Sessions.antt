-- A list of calls with what they returned, as a history, and the memory that a history leaves. Assumes nothing.
use Rattle.std.specs.Prelude.{◌≡◌, ℕ, List, [], ◌∷◌, map, None}
use Rattle.refusal.specs.Replies.{Reply, declined, reply, mapped}
use Rattle.belief.specs.Meaning.{Meaning}
use Rattle.history.specs.Events.{Setting, View, Event, enrols, asks, looks, Past}
use Rattle.history.specs.Laws.{Lawful}
use Rattle.cabinet.specs.declared.folders.Folder.{Folder}
use Rattle.cabinet.specs.declared.requests.Call.{Call}
use Rattle.cabinet.specs.declared.requests.Call.TheVariants.{Enrol, Ask, Look}
use Rattle.cabinet.specs.declared.requests.Return.{Return}
use Rattle.cabinet.specs.declared.requests.Return.TheVariants.{Enrolled, Asked, Looked}
use Rattle.cabinet.specs.Memory.{State, filed, meant}
use Rattle.cabinet.specs.Calls.{after_enrolling, after_asking}
use Rattle.cabinet.specs.Standing.{offering, viewed, Stands, GoesOn}

-- whether there is a value, or which refusal
abbrev pub outcome : {A : Type 0} → Reply A → Reply (Unit {0})
outcome r = mapped (λ x. tt) r

-- ---- returns as replies; to a call of another kind a return is no reply, and 0 is the number of no refusal

abbrev pub enrolled_as : Return → Reply ℕ
enrolled_as (Enrolled r) = reply r
enrolled_as (Asked r) = declined 0 None
enrolled_as (Looked r) = declined 0 None

abbrev pub asked_as : Return → Reply ℕ
asked_as (Enrolled r) = declined 0 None
asked_as (Asked r) = reply r
asked_as (Looked r) = declined 0 None

abbrev pub looked_as : Return → Reply View
looked_as (Enrolled r) = declined 0 None
looked_as (Asked r) = declined 0 None
looked_as (Looked r) = mapped viewed (reply r)

-- ---- calls and returns as a history, for a kind of belief with this meaning and this letter

module _ {X : Type 0} (means : X → Meaning) (letter : ℕ) where
  abbrev pub event : Call X → Return → Event
  event (Enrol f) r = enrols (offering letter (meant means f)) (enrolled_as r)
  event (Ask code q) r = asks code q.now (asked_as r)
  event (Look code) r = looks code (looked_as r)

  -- the calls, as far as there is a return for each, after a past
  abbrev pub events : List (Call X) → List Return → Past → Past
  events [] rs past = past
  events (c ∷ cs) [] past = past
  events (c ∷ cs) (r ∷ rs) past = events cs rs (event c r ∷ past)

-- ---- the memory that a history leaves

abbrev pub after_event : State Meaning → Event → State Meaning
after_event s (enrols o r) = after_enrolling s o.letter (filed o.code (record { n = o.n; d = o.d }) o.start) r
after_event s (asks c q r) = after_asking s c q r
after_event s (looks c r) = s

abbrev pub left : State Meaning → Past → State Meaning
left s [] = s
left s (e ∷ past) = after_event (left s past) e

-- a call that leaves memory s as t, with this event
pub record Turns (s : State Meaning) (e : Event) (t : State Meaning) : Type 0 where
  pub memory : t ≡ after_event s e
  pub goes : GoesOn s e t

-- ---- a whole session: the history h that its calls and returns are, from memory s on, and the memory t at its end

-- the folders with every code set to 0
abbrev pub freed : {X : Type 0} → List (Folder X) → List (Folder X)
freed fs = map (λ f. filed 0 f.threshold f.belief) fs

pub record Served (w : Setting) (x before : List ℕ) (h : Past) (s t : State Meaning) : Type 0 where
  -- what is promised of every list of calls
  pub lawful : Lawful w x h
  -- what memory holds is what has become of the calls, the audit's bytes among it
  pub stands : Stands w x before h t
  -- and nothing else of it was changed
  pub memory : t ≡ left s h
