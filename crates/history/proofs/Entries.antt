-- What the checks tell of the entries and of the places: every entry is one that the reader takes, and there is room for all.
use Rattle.std.proofs.Common.{◌≡◌, ℕ, ◌+◌, ◌-◌, ◌≤◌, Bool, true, false, cond, not, eqb, nat_le, ◌⊎◌, List, [], ◌∷◌, ◌++◌, length, drop, is_some, Some, None, Option, sym, refl, ap, ◌∙◌, inl, inr, arith, length-append}
use Rattle.std.proofs.ByRecursion.{All-append, All-push, All-weaker}
use Rattle.std.proofs.lemmas.List.{append_assoc, append-nil, take_at, drop_at, drop-drop, length-drop}
use Rattle.std.proofs.lemmas.Bool.{and_from, le-leb, ltb-false, or_parts, eqb-false}
use Rattle.std.specs.List.{AllByRecursion}
use Rattle.refusal.specs.Replies.{given, declined, refuse_if}
use Rattle.question.specs.Expressions.{greatest}
use Rattle.question.specs.Reading.{reading}
use Rattle.question.specs.Questions.{answers}
use Rattle.question.proofs.Questions.{answers_small}
use Rattle.audit.specs.Format.{Line, enrolled, answered as line, refused as refused-line, encode, encodes, asks as sized, declines}
use Rattle.audit.specs.Reading.{Valid}
use Rattle.audit.specs.Writing.{written as over}
use Rattle.history.specs.Events.{Setting, Event, enrols, asks, looks, Past, Restorer, known, codes, held}
use Rattle.history.specs.Entries.{lines, entries, written, audit}
use Rattle.history.specs.Judging.{telling}
use Rattle.history.specs.Stated.{short, asked, ask_reply, Stated, Follows}
use Rattle.history.proofs.Checks.{unread, read_size, Refused, no_code, no_question, no_room, later, refused}
use Rattle.history.proofs.Restorers.{enrolment, answering, replied}

-- the check that refused a question
pub refusing : (w : Setting) (x : List ℕ) (past : Past) (c : ℕ) (q : List ℕ) (k : ℕ) (p : Option ℕ) → declined k p ≡ ask_reply w x past c q →
    Refused (reading q) (short w past (line c (answers q x) q)) k
unfolding ask_reply
refusing w x past c q k p e = by (eqb c 0) (known past c) e
  where
    by : (b : Bool) (o : Option Restorer) → declined k p ≡ refuse_if b 6 (asked w x past c q o) → Refused (reading q) (short w past (line c (answers q x) q)) k
    by true o e = no_code cc
    by false None e = no_code cc
    by false (Some r) e =
        refused (reading q) (short w past (line c (answers q x) q)) (not (r.start.carries r.heard q)) (telling (held r) q r.n r.d) (answers q x) k p
        (unread q k p) e

-- an entry that the reader takes, and for which the bytes are free
pub record Fitting (w : Setting) (past : Past) (l : Line) : Type 0 where
  pub valid : Valid l
  pub room : length (encode l) ≤ w.room - length (written past)

fits : (w : Setting) (past : Past) (l : Line) → short w past l ≡ false → length (encode l) ≤ w.room - length (written past)
fits w past l e = ltb-false (w.room - length (written past)) (length (encode l)) e

answer_fits : (w : Setting) (x : List ℕ) (past : Past) (c : ℕ) (q : List ℕ) (a : ℕ) (o : Option Restorer) → given a ≡ asked w x past c q o → Fitting w past (line c a q)
answer_fits w x past c q a None e = cc
answer_fits w x past c q a (Some r) e =
    let g = answering w x past c q r a e in
    let s : answers q x ≤ greatest = answers_small q x in
    let i = g.own in
    record {
      valid = and_from (sized (length q)) (nat_le a greatest) (read_size q g.expression g.reads) (le-leb a greatest (omega arith));
      room = fits w past (line c (answers q x) q) g.room;
    }

refusal_fits : (w : Setting) (x : List ℕ) (past : Past) (c : ℕ) (q : List ℕ) (k : ℕ) (t : Bool) → declines k ≡ t →
    Refused (reading q) (short w past (line c (answers q x) q)) k → AllByRecursion (Fitting w past) (cond t (refused-line c k q ∷ []) [])
refusal_fits w x past c q k false d r = tt
refusal_fits w x past c q k true d (no_code i) = let e = ap declines i in cc
refusal_fits w x past c q k true d (no_question (inl i)) = let e = ap declines i in cc
refusal_fits w x past c q k true d (no_question (inr i)) = let e = ap declines i in cc
refusal_fits w x past c q k true d (no_room i) = let e = ap declines i in cc
refusal_fits w x past c q k true d (later e i l n) =
    (record { valid = and_from (sized (length q)) (declines k) (read_size q e i) d; room = fits w past (line c (answers q x) q) l }, tt)

-- every entry is such
pub lines_fit : (w : Setting) (x : List ℕ) (past : Past) (e : Event) → Stated w x past e → AllByRecursion (Fitting w past) (lines e)
lines_fit w x past (enrols o (given k)) s =
    (record { valid = refl; room = fits w past (enrolled o.code o.n o.d o.letter) (enrolment w past o k s).room }, tt)
lines_fit w x past (enrols o (declined k p)) s = tt
lines_fit w x past (asks c q (given a)) s = (answer_fits w x past c q a (known past c) (replied w x past c q a s), tt)
lines_fit w x past (asks c q (declined k p)) s = refusal_fits w x past c q k (declines k) refl (refusing w x past c q k p s)
lines_fit w x past (looks c r) s = tt

pub valid_entries : (w : Setting) (x : List ℕ) (h : Past) → Follows w x h → AllByRecursion Valid (entries h)
valid_entries w x [] fol = tt
valid_entries w x (e ∷ past) fol =
    All-append Valid (entries past) (lines e) (valid_entries w x past fol.0)
    (All-weaker (Fitting w past) Valid (λ l f. f.valid) (lines e) (lines_fit w x past e fol.1))

-- ---- room

encodes_append : (ls ms : List Line) → encodes (ls ++ ms) ≡ encodes ls ++ encodes ms
encodes_append [] ms = refl
encodes_append (l ∷ ls) ms = ap (λ bs. encode l ++ bs) (encodes_append ls ms) ∙ sym (append_assoc (encode l) (encodes ls) (encodes ms))

-- what an event adds to the written bytes
pub written_more : (e : Event) (past : Past) → written (e ∷ past) ≡ written past ++ encodes (lines e)
written_more e past = encodes_append (entries past) (lines e)

-- an event without an entry
pub written_none : (e : Event) (past : Past) → lines e ≡ [] → written (e ∷ past) ≡ written past
written_none e past n = written_more e past ∙ ap (λ ls. written past ++ encodes ls) n ∙ append-nil (written past)

-- an event with one
pub written_one : (e : Event) (past : Past) (l : Line) → lines e ≡ l ∷ [] → written (e ∷ past) ≡ written past ++ encode l
written_one e past l n = written_more e past ∙ ap (λ ls. written past ++ encodes ls) n ∙ ap (λ bs. written past ++ bs) (append-nil (encode l))

-- its bytes over those of an audit, behind what was written before
pub audit_one : (before : List ℕ) (e : Event) (past : Past) (l : Line) → lines e ≡ l ∷ [] →
    over (audit before past) (length (written past)) (encode l) ≡ audit before (e ∷ past)
audit_one before e past l n =
    let v = written past in
    let m = encode l in
    let new = written_one e past l n in
    ap (λ bs. bs ++ (m ++ drop (length v + length m) (audit before past))) (take_at v (drop (length v) before) (length v) refl)
    ∙ ap (λ bs. v ++ (m ++ bs)) (sym (drop-drop (length m) (length v) (audit before past)) ∙ ap (drop (length m)) (drop_at v (drop (length v) before) (length v) refl) ∙ drop-drop (length m) (length v) before)
    ∙ sym (append_assoc v m (drop (length v + length m) before))
    ∙ ap (λ k. (v ++ m) ++ drop k before) (sym (length-append v m))
    ∙ ap (λ bs. bs ++ drop (length bs) before) (sym new)

-- an event has one entry at most
one_line : (e : Event) → (lines e ≡ []) ⊎ ((l : Line) × (lines e ≡ l ∷ []))
one_line (enrols o (given k)) = inr (enrolled o.code o.n o.d o.letter, refl)
one_line (enrols o (declined k p)) = inl refl
one_line (asks c q (given a)) = inr (line c a q, refl)
one_line (asks c q (declined k p)) = by (declines k)
  where
    by : (t : Bool) → (cond t (refused-line c k q ∷ []) [] ≡ []) ⊎ ((l : Line) × (cond t (refused-line c k q ∷ []) [] ≡ l ∷ []))
    by true = inr (refused-line c k q, refl)
    by false = inl refl
one_line (looks c r) = inl refl

-- all entries have their bytes
pub fits_room : (w : Setting) (x : List ℕ) (h : Past) → Follows w x h → length (written h) ≤ w.room
fits_room w x [] fol = omega arith
fits_room w x (e ∷ past) fol = by (lines e) (one_line e) (lines_fit w x past e fol.1) (fits_room w x past fol.0) (ap length (written_more e past) ∙ length-append (written past) (encodes (lines e)))
  where
    by : (ls : List Line) → (ls ≡ []) ⊎ ((l : Line) × (ls ≡ l ∷ [])) → AllByRecursion (Fitting w past) ls → length (written past) ≤ w.room →
        length (written (e ∷ past)) ≡ length (written past) + length (encodes ls) → length (written (e ∷ past)) ≤ w.room
    by [] o f l i = omega arith
    by (m ∷ []) o f l i = let r = f.0.room in let n : length (encode m ++ []) ≡ length (encode m) = ap length (append-nil (encode m)) in omega arith
    by (m ∷ n ∷ ls) (inl j) f l i = cc
    by (m ∷ n ∷ ls) (inr j) f l i = let k = j.1 in cc

-- no code that was enrolled is 0
pub codes_taken : (w : Setting) (x : List ℕ) (h : Past) → Follows w x h → AllByRecursion (λ c. c ≡ 0 → ⊥) (codes h)
codes_taken w x [] fol = tt
codes_taken w x (enrols o (given k) ∷ past) fol =
    All-push (λ c. c ≡ 0 → ⊥) (codes past) o.code (codes_taken w x past fol.0)
    (eqb-false o.code 0 (or_parts (eqb o.code 0) (is_some (known past o.code)) (enrolment w past o k fol.1).code).0)
codes_taken w x (enrols o (declined k p) ∷ past) fol = codes_taken w x past fol.0
codes_taken w x (asks c q r ∷ past) fol = codes_taken w x past fol.0
codes_taken w x (looks c r ∷ past) fol = codes_taken w x past fol.0

-- the memory of an audit stays as long as it was
pub audit_long : (w : Setting) (x before : List ℕ) (h : Past) → Follows w x h → length before ≡ w.room → length (audit before h) ≡ w.room
audit_long w x before h fol e =
    let l = fits_room w x h fol in
    length-append (written h) (drop (length (written h)) before) ∙ ap (λ n. length (written h) + n) (length-drop (length (written h)) before) ∙ omega arith
