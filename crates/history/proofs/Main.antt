-- Every history is lawful.
use Rattle.std.proofs.Common.{◌≡◌, ℕ, ◌-◌, Bool, true, false, cond, not, eqb, ◌↔◌, List, [], ◌∷◌, map, length, is_some, Some, None, Option, sym, refl, ap, ◌∙◌, subst, inl, inr, ⊎_elim, arith}
use mathlib.Core.List.Memᴰ.{head as here}
use mathlib.Core.List.Memᴰ.{tail as before}
use mathlib.Core.List.{Memᴰ as Among}
use Rattle.std.proofs.lemmas.Bool.{or_parts, eqb-true, le-ltb}
use Rattle.std.specs.Option.{option_map}
use Rattle.refusal.specs.Replies.{Reply, given, declined, refuse_if}
use Rattle.question.specs.Expressions.{Expression}
use Rattle.question.specs.Reading.{reading}
use Rattle.question.specs.Questions.{read_or, is_question, answers}
use Rattle.audit.specs.Format.{encode, answered as line}
use Rattle.audit.proofs.Laws.{read_back}
use Rattle.history.specs.Events.{Setting, Within, Call, enrol, ask, look, Event, enrols, asks, looks, call_of, Past, Restorer, hears, known, held}
use Rattle.history.specs.Entries.{entries, written, audit}
use Rattle.history.specs.Judging.{telling}
use Rattle.history.specs.Stated.{short, enrol_reply, judged, asked, ask_reply, look_reply, Stated, Follows}
use Rattle.history.specs.Laws.{TooTelling, Passes, Alike, Law}
use Rattle.history.proofs.Checks.{checked, alone, Refused, no_code, no_question, no_room, later}
use Rattle.history.proofs.Telling.{told_too_much, tells_too_much}
use Rattle.history.proofs.Restorers.{enrolment, replied, answering, tops_of, every}
use Rattle.history.proofs.Entries.{refusing, valid_entries}

-- ---- single replies

-- each event had its stated reply, after some earlier events
happened : (w : Setting) (x : List ℕ) (e : Event) (h : Past) → Follows w x h → Among e h → (past : Past) × Stated w x past e
happened w x e [] fol m = elim m [ ]
happened w x e (f ∷ past) fol (here i) = (past, subst (Stated w x past) (sym i) fol.1)
happened w x e (f ∷ past) fol (before m) = happened w x e past fol.0 m

own_answer : (w : Setting) (x : List ℕ) (past : Past) (c : ℕ) (q : List ℕ) (a : ℕ) (o : Option Restorer) → given a ≡ asked w x past c q o → a ≡ answers q x
own_answer w x past c q a None e = cc
own_answer w x past c q a (Some r) e = (answering w x past c q r a e).own

never_met : (o : Reply Expression) (b : Bool) (k : ℕ) → Refused o b k → (k ≡ 8 → ⊥) × (k ≡ 13 → ⊥)
never_met o b k (no_code i) = (λ j. omega arith, λ j. omega arith)
never_met o b k (no_question (inl i)) = (λ j. omega arith, λ j. omega arith)
never_met o b k (no_question (inr i)) = (λ j. omega arith, λ j. omega arith)
never_met o b k (no_room i) = (λ j. omega arith, λ j. omega arith)
never_met o b k (later e i l (inl n)) = (λ j. omega arith, λ j. omega arith)
never_met o b k (later e i l (inr n)) = (λ j. omega arith, λ j. omega arith)

-- no restorer has the code 0
zero_none : (w : Setting) (x : List ℕ) (h : Past) → Follows w x h → known h 0 ≡ None
zero_none w x [] fol = refl
zero_none w x (enrols o (given k) ∷ past) fol =
    rw (or_parts (eqb o.code 0) (is_some (known past o.code)) (enrolment w past o k fol.1).code).0 (zero_none w x past fol.0)
zero_none w x (enrols o (declined k p) ∷ past) fol = zero_none w x past fol.0
zero_none w x (asks b q (given a) ∷ past) fol = none (eqb b 0) (known past 0) (zero_none w x past fol.0)
  where
    none : (t : Bool) (o : Option Restorer) → o ≡ None → cond t (option_map (hears q a) o) o ≡ None
    none true None e = refl
    none true (Some r) e = cc
    none false o e = e
zero_none w x (asks b q (declined k p) ∷ past) fol = zero_none w x past fol.0
zero_none w x (looks b r ∷ past) fol = zero_none w x past fol.0

-- ---- exactly when

read : (q : List ℕ) → is_question q ≡ true → (e : Expression) × (reading q ≡ given e)
unfolding is_question
read q i = by (reading q) i
  where
    by : (o : Reply Expression) → read_or false (λ e. true) o ≡ true → (e : Expression) × (o ≡ given e)
    by (given e) i = (e, refl)
    by (declined k p) i = cc

-- only the last check is left
last : (w : Setting) (x : List ℕ) (h : Past) (c : ℕ) (r : Restorer) (q : List ℕ) → Follows w x h → known h c ≡ Some r → Passes w h r q →
    ask_reply w x h c q ≡ refuse_if (telling (held r) q r.n r.d) 14 (given (answers q x))
unfolding ask_reply
last w x h c r q fol e p =
    ap (λ t. refuse_if t 6 (asked w x h c q (known h c))) (code (eqb c 0) refl)
    ∙ ap (asked w x h c q) e
    ∙ ap (λ o. checked o (short w h (line c (answers q x) q)) (not (r.start.carries r.heard q)) (telling (held r) q r.n r.d) (answers q x)) (read q p.reads).1
    ∙ ap (λ b. refuse_if b 11 (refuse_if (not (r.start.carries r.heard q)) 12 (refuse_if (telling (held r) q r.n r.d) 14 (given (answers q x))))) (le-ltb (w.room - length (written h)) (length (encode (line c (answers q x) q))) (let l = p.room in omega arith))
    ∙ ap (λ b. refuse_if (not b) 12 (refuse_if (telling (held r) q r.n r.d) 14 (given (answers q x)))) p.carried
  where
    code : (t : Bool) → eqb c 0 ≡ t → t ≡ false
    code true i = let n = zero_none w x h fol in let j : known h c ≡ known h 0 = ap (known h) (eqb-true c 0 i) in cc
    code false i = refl

exactly : (w : Setting) (x : List ℕ) (h : Past) → Within w.tops x → Follows w x h →
    (c : ℕ) (r : Restorer) (q : List ℕ) → known h c ≡ Some r → Passes w h r q → (ask_reply w x h c q ≡ declined 14 None) ↔ TooTelling w r q
exactly w x h i fol c r q e p =
    let t = tops_of w x r (every w x i h fol c r e) in
    let l = last w x h c r q fol e p in (
      (λ d. told_too_much w r q t (only (telling (held r) q r.n r.d) (sym l ∙ d))),
      (λ m. l ∙ ap (λ b. refuse_if b 14 (given (answers q x))) (tells_too_much w r q t m)),
    )
  where
    only : (b : Bool) → refuse_if b 14 (given (answers q x)) ≡ declined 14 None → b ≡ true
    only true j = refl
    only false j = cc

-- ---- two cabinets

-- what happens at a call, and at a list of calls, the newest first
abbrev happens : Setting → List ℕ → Past → Call → Event
happens w x past (enrol o) = enrols o (enrol_reply w past o)
happens w x past (ask c q) = asks c q (ask_reply w x past c q)
happens w x past (look c) = looks c (look_reply past c)

abbrev run : Setting → List ℕ → List Call → Past
run w x [] = []
run w x (c ∷ cs) = happens w x (run w x cs) c ∷ run w x cs

happens_so : (w : Setting) (x : List ℕ) (past : Past) (e : Event) → Stated w x past e → e ≡ happens w x past (call_of e)
happens_so w x past (enrols o r) s = ap (enrols o) s
happens_so w x past (asks c q r) s = ap (asks c q) s
happens_so w x past (looks c r) s = ap (looks c) s

-- the calls and the sheet settle what happens
settled : (w : Setting) (x : List ℕ) (h : Past) → Follows w x h → h ≡ run w x (map call_of h)
settled w x [] fol = refl
settled w x (e ∷ past) fol = ap (λ v. v ∷ past) (happens_so w x past e fol.1) ∙ ap (λ p. happens w x p (call_of e) ∷ p) (settled w x past fol.0)

module _ (w : Setting) (x y : List ℕ) where
  answered_alike : (past : Past) (c : ℕ) (q : List ℕ) → answers q y ≡ answers q x → ask_reply w x past c q ≡ ask_reply w y past c q
  unfolding ask_reply
  answered_alike past c q e = ap (refuse_if (eqb c 0) 6) (by (known past c))
    where
      by : (o : Option Restorer) → asked w x past c q o ≡ asked w y past c q o
      by None = refl
      by (Some r) = ap (judged w past c r q) (sym e)

  refused_alike : (past : Past) (c : ℕ) (q : List ℕ) (k : ℕ) (p : Option ℕ) → declined k p ≡ ask_reply w x past c q → declined k p ≡ ask_reply w y past c q
  unfolding ask_reply
  refused_alike past c q k p e = by (eqb c 0) (known past c) e
    where
      by : (t : Bool) (o : Option Restorer) → declined k p ≡ refuse_if t 6 (asked w x past c q o) → declined k p ≡ refuse_if t 6 (asked w y past c q o)
      by true o e = e
      by false None e = e
      by false (Some r) e =
          ⊎_elim (λ (f : (v : ℕ) → judged w past c r q v ≡ given v). let i = f (answers q x) in cc) (λ f. e ∙ f.2 (answers q x) ∙ sym (f.2 (answers q y)))
          (alone (reading q) (short w past (line c (answers q x) q)) (not (r.start.carries r.heard q)) (telling (held r) q r.n r.d))

  earlier : (e : Event) (past : Past) → Alike x y (e ∷ past) → Alike x y past
  earlier e past al = record { same = λ c q a m. al.same c q a (before m) }

  -- what happened with one sheet is what happens with another that gives the same answers
  alike : (h : Past) → Follows w x h → Alike x y h → Follows w y h
  alike [] fol al = tt
  alike (enrols o r ∷ past) fol al = (alike past fol.0 (earlier (enrols o r) past al), fol.1)
  alike (asks c q (given a) ∷ past) fol al = (alike past fol.0 (earlier (asks c q (given a)) past al), fol.1 ∙ answered_alike past c q (al.same c q a (here refl)))
  alike (asks c q (declined k p) ∷ past) fol al = (alike past fol.0 (earlier (asks c q (declined k p)) past al), refused_alike past c q k p fol.1)
  alike (looks c r ∷ past) fol al = (alike past fol.0 (earlier (looks c r) past al), fol.1)

  same_history : (h k : Past) → Follows w x h → Follows w y k → map call_of k ≡ map call_of h → Alike x y h → k ≡ h
  same_history h k fh fk calls al = settled w y k fk ∙ ap (run w y) calls ∙ sym (settled w y h (alike h fh al))

pub lawful : Law
lawful w x h i fol = record {
  stated = fol;
  never = λ c q k p m. let s = happened w x (asks c q (declined k p)) h fol m in never_met (reading q) (short w s.0 (line c (answers q x) q)) k (refusing w x s.0 c q k p s.1);
  audited = read_back (written h) 0 (entries h) (valid_entries w x h fol) refl;
  own = λ c q a m. let s = happened w x (asks c q (given a)) h fol m in own_answer w x s.0 c q a (known s.0 c) (replied w x s.0 c q a s.1);
  exact = exactly w x h i fol;
  blind = λ y k fk calls al. let s = same_history w x y h k fol fk calls al in (s, λ before. ap (audit before) s);
  kept = λ c r s e j. (every w x i h fol c r e).kept s j;
  possible = λ c r e. (every w x i h fol c r e).possible;
}
