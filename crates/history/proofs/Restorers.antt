-- What holds of every restorer, from his enrolment on and through every answer.
use Rattle.std.proofs.Common.{◌≡◌, ℕ, ◌*◌, ◌<◌, ◌≤◌, Bool, true, false, cond, not, ◌||◌, eqb, nat_le, ◌⊎◌, List, [], ◌∷◌, is_some, Some, None, Option, sym, refl, ap, ◌∙◌, subst, inl, inr, mul-le-mul_right, zero-mul, arith}
use Rattle.std.proofs.lemmas.Bool.{both_ways, cases_lt, eq-eqb, eqb-true, leb-true, ltb-false, not-false}
use Rattle.std.proofs.lemmas.Slice.Eq.{bytes_eq-Decides}
use Rattle.std.proofs.lemmas.List.{append-nil}
use Rattle.std.specs.Str.{bytes_eq}
use Rattle.std.specs.Option.{option_map}
use Rattle.refusal.specs.Replies.{given, declined}
use Rattle.question.specs.Reading.{reading}
use Rattle.question.specs.Questions.{answers}
use Rattle.belief.specs.Meaning.{Meaning, total_of, peak_of, whole_of, mass_of, kept, revised, conditioned}
use Rattle.belief.proofs.Sheets.{below_max, below_sum, all_at}
use Rattle.belief.proofs.Revisings.{conditioned_none}
use Rattle.audit.specs.Format.{enrolled, answered as line}
use Rattle.history.specs.Events.{Setting, Within, Offer, enrols, asks, looks, Past, Restorer, fresh, hears, known, enrolments, held}
use Rattle.history.specs.Judging.{threshold, fitting, exceeds, telling}
use Rattle.history.specs.Stated.{short, enrol_reply, asked, ask_reply, Follows}
use Rattle.history.specs.Laws.{Above}
use Rattle.history.proofs.Checks.{next, Answered, answered, Cleared, cleared}
use Rattle.history.proofs.Telling.{held_hears, Heavy, above_heavy, tells_too_much}

-- the checks that an enrolment passed
pub enrolment : (w : Setting) (past : Past) (o : Offer) (k : ℕ) → given k ≡ enrol_reply w past o →
    Cleared (eqb o.code 0 || is_some (known past o.code)) (nat_le w.places (enrolments past)) (not (fitting w.count w.tops o.start))
    (short w past (enrolled o.code o.n o.d o.letter)) (not (whole_of o.start)) (exceeds o.n o.d (peak_of o.start) (total_of o.start))
unfolding enrol_reply
enrolment w past o k e =
    cleared (not (threshold o.n o.d)) (eqb o.code 0 || is_some (known past o.code)) (nat_le w.places (enrolments past))
    (not (fitting w.count w.tops o.start)) (short w past (enrolled o.code o.n o.d o.letter)) (not (whole_of o.start)) (exceeds o.n o.d (peak_of o.start) (total_of o.start)) (enrolments past) k e

-- the checks that an answered question passed
pub answering : (w : Setting) (x : List ℕ) (past : Past) (c : ℕ) (q : List ℕ) (r : Restorer) (a : ℕ) → given a ≡ asked w x past c q (Some r) →
    Answered (reading q) (short w past (line c (answers q x) q)) (telling (held r) q r.n r.d) (answers q x) a
answering w x past c q r a e =
    answered (reading q) (short w past (line c (answers q x) q)) (not (r.start.carries r.heard q)) (telling (held r) q r.n r.d) (answers q x) a e

pub replied : (w : Setting) (x : List ℕ) (past : Past) (c : ℕ) (q : List ℕ) (a : ℕ) → given a ≡ ask_reply w x past c q → given a ≡ asked w x past c q (known past c)
unfolding ask_reply
replied w x past c q a e = next (eqb c 0) 6 (asked w x past c q (known past c)) a e

-- the tops of a fitting belief are the cabinet's
pub fitting_tops : (count : ℕ) (tops : List ℕ) (m : Meaning) → fitting count tops m ≡ true → m.tops ≡ tops
fitting_tops count tops m e =
    let same : bytes_eq m.tops tops ≡ true = grind arith in
    (bytes_eq-Decides m.tops tops).0 same

-- his belief fits the cabinet, he holds no sheet above his threshold, and the sealed sheet keeps a weight
pub record Fair (w : Setting) (x : List ℕ) (r : Restorer) : Type 0 where
  pub fit : fitting w.count w.tops r.start ≡ true
  pub kept : (s : List ℕ) → Within w.tops s → Above r s → ⊥
  pub possible : 1 ≤ (held r).weight x

pub tops_of : (w : Setting) (x : List ℕ) (r : Restorer) → Fair w x r → r.start.tops ≡ w.tops
tops_of w x r f = fitting_tops w.count w.tops r.start f.fit

-- a belief that does not stand too high has no sheet above n / d, and a whole one weighs every sheet
low : (m : Meaning) (n d : ℕ) (s : List ℕ) → Within m.tops s → exceeds n d (peak_of m) (total_of m) ≡ false → n * total_of m < m.weight s * d → ⊥
unfolding peak_of
low m n d s i e h =
    let l = ltb-false (n * total_of m) (peak_of m * d) e in
    let k = mul-le-mul_right d (below_max m.tops s i.long i.below m.weight) in
    omega arith

weighs : (m : Meaning) (s : List ℕ) → Within m.tops s → whole_of m ≡ true → 1 ≤ m.weight s
unfolding whole_of
weighs m s i e = leb-true 1 (m.weight s) (all_at m.tops s i.long i.below (λ t. nat_le 1 (m.weight t)) e)

-- an impossible answer leaves no weight
none : (m : Meaning) (n d : ℕ) (q : List ℕ) (a : ℕ) (s : List ℕ) → Within m.tops s → mass_of m q a ≤ 0 → Heavy m n d q a s → ⊥
unfolding mass_of
none m n d q a s i z h =
    let l = below_sum m.tops s i.long i.below (kept q a m.weight) in
    let u = mul-le-mul_right {m = kept q a m.weight s} {n = 0} d (omega arith) in
    omega (arith, zero-mul d)

held_tops : (r : Restorer) (s : List ℕ) → Within r.start.tops s → Within (held r).tops s
unfolding conditioned
held_tops r s i = i

-- what he holds fits the cabinet, carries what his start carries after what he heard, and leaves the sheet's own answer possible
pub held_fits : (w : Setting) (x : List ℕ) (r : Restorer) → Fair w x r → fitting w.count w.tops (held r) ≡ true
unfolding conditioned
held_fits w x r f = f.fit

pub held_carries : (r : Restorer) (q : List ℕ) → (held r).carries [] q ≡ r.start.carries r.heard q
unfolding conditioned
held_carries r q = ap (λ h. r.start.carries h q) (append-nil r.heard)

pub own_mass : (w : Setting) (x : List ℕ) (r : Restorer) (q : List ℕ) → Within w.tops x → Fair w x r → 1 ≤ mass_of (held r) q (answers q x)
unfolding mass_of kept
own_mass w x r q i f =
    let j = held_tops r x (subst (λ (ts : List ℕ). Within ts x) (sym (tops_of w x r f)) i) in
    let l = below_sum (held r).tops x j.long j.below (kept q (answers q x) (held r).weight) in
    let e : kept q (answers q x) (held r).weight x ≡ (held r).weight x = rw (eq-eqb (answers q x) (answers q x) refl) refl in
    let p = f.possible in
    omega arith

-- his own answer leaves a sheet its weight
stays : (r : Restorer) (q : List ℕ) (a : ℕ) (x : List ℕ) → a ≡ answers q x → 1 ≤ (held r).weight x → 1 ≤ (held (hears q a r)).weight x
unfolding revised kept
stays r q a x i p = subst (λ (m : Meaning). 1 ≤ m.weight x) (sym (held_hears r q a)) (rw (eq-eqb (answers q x) a (sym i)) p)

module _ (w : Setting) (x : List ℕ) (sealed : Within w.tops x) where
  -- at his enrolment
  starts : (past : Past) (o : Offer) (k : ℕ) → given k ≡ enrol_reply w past o → Fair w x (fresh o)
  starts past o k e =
      let c = enrolment w past o k e in
      let f = not-false (fitting w.count w.tops o.start) c.fit in
      let t = sym (fitting_tops w.count w.tops o.start f) in
      let same = conditioned_none o.start in
      record {
        fit = f;
        kept = λ s i h. low o.start o.n o.d s (subst (λ (ts : List ℕ). Within ts s) t i) c.low (subst (λ (m : Meaning). o.n * total_of m < m.weight s * o.d) same h);
        possible =
            subst (λ (m : Meaning). 1 ≤ m.weight x) (sym same)
            (weighs o.start x (subst (λ (ts : List ℕ). Within ts x) t sealed) (not-false (whole_of o.start) c.whole));
      }

  -- through an answer
  goes_on : (past : Past) (c : ℕ) (q : List ℕ) (r : Restorer) (a : ℕ) → given a ≡ asked w x past c q (Some r) → Fair w x r → Fair w x (hears q a r)
  goes_on past c q r a e f =
      let g = answering w x past c q r a e in
      record { fit = f.fit; kept = λ s i h. no s i g.silent h (cases_lt 0 (mass_of (held r) q a)); possible = stays r q a x g.own f.possible }
    where
      no : (s : List ℕ) → Within w.tops s → telling (held r) q r.n r.d ≡ false → Above (hears q a r) s → (0 < mass_of (held r) q a) ⊎ (mass_of (held r) q a ≤ 0) → ⊥
      no s i n h (inl p) =
          both_ways (telling (held r) q r.n r.d) n (tells_too_much w r q (tops_of w x r f) (record { answer = a; possible = p; sheet = s; within = i; above = h }))
      no s i n h (inr z) = none (held r) r.n r.d q a s (held_tops r s (subst (λ (ts : List ℕ). Within ts s) (sym (tops_of w x r f)) i)) z (above_heavy r q a s h)

  abbrev Of : Option Restorer → Type 0
  Of o = (r : Restorer) → o ≡ Some r → Fair w x r

  of_none : Of None
  of_none r e = cc

  of_some : (s : Restorer) → Fair w x s → Of (Some s)
  of_some s f r e = let i : s ≡ r = cc in subst (Fair w x) i f

  of_cond : (b : Bool) (o p : Option Restorer) → Of o → Of p → Of (cond b o p)
  of_cond true o p f g = f
  of_cond false o p f g = g

  of_hearing : (past : Past) (c : ℕ) (q : List ℕ) (a : ℕ) (o : Option Restorer) → given a ≡ asked w x past c q o → Of o → Of (option_map (hears q a) o)
  of_hearing past c q a None e f = of_none
  of_hearing past c q a (Some r) e f = of_some (hears q a r) (goes_on past c q r a e (f r refl))

  of_asked : (past : Past) (b c : ℕ) (q : List ℕ) (a : ℕ) (t : Bool) → eqb b c ≡ t → given a ≡ asked w x past b q (known past b) → Of (known past c) → Of (cond t (option_map (hears q a) (known past c)) (known past c))
  of_asked past b c q a true t e f = of_hearing past c q a (known past c) (e ∙ ap (λ k. asked w x past k q (known past k)) (eqb-true b c t)) f
  of_asked past b c q a false t e f = f

  pub every : (h : Past) → Follows w x h → (c : ℕ) → Of (known h c)
  every [] fol c = of_none
  every (enrols o (given k) ∷ past) fol c = of_cond (eqb o.code c) _ _ (of_some (fresh o) (starts past o k fol.1)) (every past fol.0 c)
  every (enrols o (declined k p) ∷ past) fol c = every past fol.0 c
  every (asks b q (given a) ∷ past) fol c = of_asked past b c q a (eqb b c) refl (replied w x past b q a fol.1) (every past fol.0 c)
  every (asks b q (declined k p) ∷ past) fol c = every past fol.0 c
  every (looks b r ∷ past) fol c = every past fol.0 c
