-- The reply that is stated for each call, by what happened before it. Assumes nothing.
use Rattle.std.specs.Prelude.{◌≡◌, ℕ, ◌-◌, Bool, not, ◌||◌, List, [], ◌∷◌, length, is_some, Some, None, Option, ◌==◌, nat_le, nat_lt}
use Rattle.refusal.specs.Replies.{Reply, given, declined, and_then, refuse_if}
use Rattle.question.specs.Reading.{reading}
use Rattle.question.specs.Questions.{answers}
use Rattle.belief.specs.Meaning.{total_of, peak_of, whole_of}
use Rattle.audit.specs.Format.{Line, enrolled, answered, encode}
use Rattle.history.specs.Events.{Setting, Offer, View, Event, enrols, asks, looks, Past, Restorer, known, enrolments, held}
use Rattle.history.specs.Entries.{written}
use Rattle.history.specs.Judging.{threshold, fitting, exceeds, telling}

-- whether the audit has fewer bytes free than an entry needs
abbrev pub short : Setting → Past → Line → Bool
short w past l = nat_lt (w.room - length (written past)) (length (encode l))

-- an enrolment: the place, which is how many were enrolled before
unfoldable pub enrol_reply : Setting → Past → Offer → Reply ℕ
enrol_reply w past o =
    refuse_if (not (threshold o.n o.d)) 3 (
    refuse_if (o.code == 0 || is_some (known past o.code)) 6 (
    refuse_if (nat_le w.places (enrolments past)) 7 (
    refuse_if (not (fitting w.count w.tops o.start)) 8 (
    refuse_if (short w past (enrolled o.code o.n o.d o.letter)) 11 (
    refuse_if (not (whole_of o.start)) 13 (
    refuse_if (exceeds o.n o.d (peak_of o.start) (total_of o.start)) 14 (
    given (enrolments past))))))))

-- a question of the restorer of a code, where a is the answer of the sealed sheet
abbrev pub judged : Setting → Past → ℕ → Restorer → List ℕ → ℕ → Reply ℕ
judged w past c r q a =
    and_then (reading q) (λ e.
    refuse_if (short w past (answered c a q)) 11 (
    refuse_if (not (r.start.carries r.heard q)) 12 (
    refuse_if (telling (held r) q r.n r.d) 14 (
    given a))))

abbrev pub asked : Setting → List ℕ → Past → ℕ → List ℕ → Option Restorer → Reply ℕ
asked w x past c q None = declined 6 None
asked w x past c q (Some r) = judged w past c r q (answers q x)

-- a question, the sealed sheet being x
unfoldable pub ask_reply : Setting → List ℕ → Past → ℕ → List ℕ → Reply ℕ
ask_reply w x past c q = refuse_if (c == 0) 6 (asked w x past c q (known past c))

abbrev pub looked : Option Restorer → Reply View
looked None = declined 6 None
looked (Some r) = given (record { total = total_of (held r); peak = peak_of (held r); n = r.n; d = r.d })

-- a look
unfoldable pub look_reply : Past → ℕ → Reply View
look_reply past c = refuse_if (c == 0) 6 (looked (known past c))

-- ---- histories

-- the event has the stated reply
abbrev pub Stated : Setting → List ℕ → Past → Event → Type 0
Stated w x past (enrols o r) = r ≡ enrol_reply w past o
Stated w x past (asks c q r) = r ≡ ask_reply w x past c q
Stated w x past (looks c r) = r ≡ look_reply past c

-- every event has the reply that is stated for it after those before
abbrev pub Follows : Setting → List ℕ → Past → Type 0
Follows w x [] = Unit {0}
Follows w x (e ∷ past) = Follows w x past × Stated w x past e
