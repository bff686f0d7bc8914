-- What a history has written into the audit. Assumes nothing.
use Rattle.std.specs.Prelude.{ℕ, cond, List, [], ◌∷◌, ◌++◌, length, drop}
use Rattle.refusal.specs.Replies.{given, declined}
use Rattle.audit.specs.Format.{Line, enrolled, answered, refused, encodes, declines}
use Rattle.history.specs.Events.{Event, enrols, asks, looks, Past}

-- the entry of an event, if it has one: an enrolment, an answer, or a question refused with 12 or 14
abbrev pub lines : Event → List Line
lines (enrols o (given k)) = enrolled o.code o.n o.d o.letter ∷ []
lines (enrols o (declined k p)) = []
lines (asks c q (given a)) = answered c a q ∷ []
lines (asks c q (declined k p)) = cond (declines k) (refused c k q ∷ []) []
lines (looks c r) = []

-- the entries of all events, the oldest first
abbrev pub entries : Past → List Line
entries [] = []
entries (e ∷ past) = entries past ++ lines e

-- their bytes, end to end
abbrev pub written : Past → List ℕ
written past = encodes (entries past)

-- the bytes of the audit: the entries, then what was there before
abbrev pub audit : List ℕ → Past → List ℕ
audit before past = written past ++ drop (length (written past)) before
