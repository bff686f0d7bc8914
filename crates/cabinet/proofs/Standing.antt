-- Memory that stands for a history: each call replies what is stated, and leaves memory that stands for the history with one event more.
use Rattle.std.proofs.Common.{◌≡◌, ℕ, suc, ◌+◌, ◌-◌, ◌<◌, ◌≤◌, Bool, true, false, cond, not, ◌||◌, eqb, ltb, nat_le, ◌⊎◌, List, [], ◌∷◌, ◌++◌, map, length, get_or, drop, replicate, is_some, Some, None, Option, sym, refl, ap, ◌∙◌, subst, inl, inr, arith, length-append}
use Rattle.std.proofs.lemmas.List.{append_assoc, get_or_past}
use Rattle.std.proofs.lemmas.Bool.{cases_lt, eq-eqb, ne_eqb, eqb-true, eqb-false, leb-true, leb-false, ltb-false, or_parts, not-false}
use Rattle.std.specs.Option.{option_map}
use Rattle.refusal.specs.Replies.{Reply, given, declined, and_then, refuse_if, mapped as through}
use Rattle.question.specs.Reading.{reading}
use Rattle.question.specs.Questions.{answers}
use Rattle.belief.specs.Meaning.{Meaning, total_of, peak_of, whole_of, mass_of}
use Rattle.belief.proofs.Revisings.{conditioned_none}
use Rattle.register.specs.Places.{vacant}
use Rattle.audit.specs.Format.{Line, enrolled, answered, refused, encode, declines}
use Rattle.audit.specs.Writing.{written as over}
use Rattle.history.specs.Events.{Setting, Within, Offer, Event, enrols, asks, looks, Past, Restorer, fresh, hears, known, codes, enrolments, held}
use Rattle.history.specs.Entries.{lines, written, audit}
use Rattle.history.specs.Judging.{threshold, fitting, exceeds, some_below, telling}
use Rattle.history.specs.Stated.{short as short-of, enrol_reply, judged, asked, ask_reply, looked, look_reply, Stated}
use Rattle.history.proofs.Checks.{below_some}
use Rattle.history.proofs.Telling.{held_hears}
use Rattle.history.proofs.Restorers.{Fair, enrolment, every, held_fits, held_carries, own_mass}
use Rattle.history.proofs.Entries.{written_none, written_one, audit_one, audit_long, codes_taken}
use Rattle.history.proofs.Main.{lawful}
use Rattle.cabinet.specs.declared.cabinets.Cabinet.{Cabinet}
use Rattle.cabinet.specs.declared.folders.Folder.{Folder}
use Rattle.cabinet.specs.declared.thresholds.Threshold.{Threshold}
use Rattle.cabinet.specs.declared.views.View.{View as Shown}
use Rattle.cabinet.specs.Memory.{State, filed, meant, understood, coded, changed, short, logged}
use Rattle.cabinet.specs.Calls.{some_or, misfit, making, enrolling, after_enrolling, known as folder-of, judging, answering, asking, hearing, after_asking, looking}
use Rattle.cabinet.specs.Standing.{filing, offering, viewed, Stands, GoesOn, Begins}
use Rattle.cabinet.proofs.Filing.{code, changed_codes, coded_changed, vacant_is, free_coded, put_codes, coded_put, meant_put}

abbrev threshold-of : ℕ → ℕ → Threshold
threshold-of n d = record { n = n; d = d }

-- the folder of an offer
abbrev offered : Offer → Folder Meaning
offered o = filed o.code (threshold-of o.n o.d) o.start

through_then : {A B C : Type 0} (g : B → C) (r : Reply A) (next : A → Reply B) → through g (and_then r next) ≡ and_then r (λ x. through g (next x))
through_then g (given x) next = refl
through_then g (declined n p) next = refl

-- the checks of an enrolment, by what each says
enrol_by : (a b b' : Bool) → b ≡ b' → (v : Option ℕ) (t : Bool) (n : ℕ) → v ≡ cond t None (Some n) → (d d' : Bool) → d ≡ d' → (e e' : Bool) → e ≡ e' → (f g : Bool) →
    refuse_if a 3 (refuse_if b 6 (some_or 7 v (λ i. refuse_if (not d) 8 (refuse_if e 11 (refuse_if f 13 (refuse_if g 14 (given i)))))))
    ≡ refuse_if a 3 (refuse_if b' 6 (refuse_if t 7 (refuse_if (not d') 8 (refuse_if e' 11 (refuse_if f 13 (refuse_if g 14 (given n)))))))
enrol_by a b b' i v true n j d d' k e e' l f g = rw (i, j) refl
enrol_by a b b' i v false n j d d' k e e' l f g = rw (i, j, k, l) refl

module _ (w : Setting) (x before : List ℕ) (past : Past) (s : State Meaning) (st : Stands w x before past s) where
  fair : (c : ℕ) (r : Restorer) → known past c ≡ Some r → Fair w x r
  fair c r e = every w x st.within past st.follows c r e

  short_same : (l : Line) → short s l ≡ short-of w past l
  short_same l =
      ap (λ n. ltb (n - s.cabinet.used) (length (encode l))) (ap length st.bytes ∙ audit_long w x before past st.follows st.room)
      ∙ ap (λ n. ltb (w.room - n) (length (encode l))) st.used

  fitting_same : (m : Meaning) → fitting s.cabinet.count s.cabinet.tops m ≡ fitting w.count w.tops m
  fitting_same m = ap (λ n. fitting n s.cabinet.tops m) st.count ∙ ap (λ ts. fitting w.count ts m) st.tops

  -- ---- memory after an event

  -- an event that writes nothing and changes no restorer
  unchanged : (e : Event) → Stated w x past e → lines e ≡ [] → codes (e ∷ past) ≡ codes past → ((c : ℕ) → known (e ∷ past) c ≡ known past c) → Stands w x before (e ∷ past) s
  unchanged e i n c k =
      let same = written_none e past n in
      record {
        follows = (st.follows, i);
        sheet = st.sheet;
        within = st.within;
        count = st.count;
        tops = st.tops;
        used = st.used ∙ ap length (sym same);
        room = st.room;
        bytes = st.bytes ∙ ap (λ bs. bs ++ drop (length bs) before) (sym same);
        places = st.places ∙ ap (λ cs. cs ++ replicate (w.places - length cs) 0) (sym c);
        folders = λ b z. st.folders b z ∙ ap (option_map (filing b)) (sym (k b));
      }

  -- an event with an entry
  noted : (e : Event) (l : Line) (fs : List (Folder Meaning)) → Stated w x past e → lines e ≡ l ∷ [] →
      map code fs ≡ codes (e ∷ past) ++ replicate (w.places - enrolments (e ∷ past)) 0 → ((c : ℕ) → (c ≡ 0 → ⊥) → coded c fs ≡ option_map (filing c) (known (e ∷ past) c)) →
      Stands w x before (e ∷ past) (logged s fs l)
  noted e l fs i n p k =
      let new = written_one e past l n in
      record {
        follows = (st.follows, i);
        sheet = st.sheet;
        within = st.within;
        count = st.count;
        tops = st.tops;
        used = ap (λ m. m + length (encode l)) st.used ∙ sym (ap length new ∙ length-append (written past) (encode l));
        room = st.room;
        bytes = ap (λ bs. over bs s.cabinet.used (encode l)) st.bytes ∙ ap (λ m. over (audit before past) m (encode l)) st.used ∙ audit_one before e past l n;
        places = p;
        folders = k;
      }

  -- ---- enrolling

  -- the first free place is the one after those that are taken
  vacant_same : vacant code s.folders ≡ cond (nat_le w.places (enrolments past)) None (Some (enrolments past))
  vacant_same =
      vacant_is (w.places - enrolments past) (codes past) s.folders (codes_taken w x past st.follows) st.places
      ∙ ap (λ t. cond t None (Some (enrolments past))) (by (nat_le w.places (enrolments past)) refl)
    where
      by : (t : Bool) → nat_le w.places (enrolments past) ≡ t → eqb (w.places - enrolments past) 0 ≡ t
      by true e = eq-eqb (w.places - enrolments past) 0 (let l = leb-true w.places (enrolments past) e in omega arith)
      by false e = ne_eqb (w.places - enrolments past) 0 (λ z. let l = leb-false w.places (enrolments past) e in omega arith)

  taken_same : (c : ℕ) → (eqb c 0 || is_some (coded c s.folders)) ≡ (eqb c 0 || is_some (known past c))
  taken_same c = by (eqb c 0) refl
    where
      seen : (o : Option Restorer) → is_some (option_map (filing c) o) ≡ is_some o
      seen None = refl
      seen (Some r) = refl

      by : (t : Bool) → eqb c 0 ≡ t → (t || is_some (coded c s.folders)) ≡ (t || is_some (known past c))
      by true e = refl
      by false e = ap is_some (st.folders c (eqb-false c 0 e)) ∙ seen (known past c)

  enrol_same : (o : Offer) → enrolling s o.letter (offered o) ≡ enrol_reply w past o
  unfolding enrol_reply
  enrol_same o =
      enrol_by (not (threshold o.n o.d)) _ _ (taken_same o.code) (vacant code s.folders) (nat_le w.places (enrolments past)) (enrolments past) vacant_same
      _ _ (fitting_same o.start) _ _ (short_same (enrolled o.code o.n o.d o.letter)) (not (whole_of o.start)) (exceeds o.n o.d (peak_of o.start) (total_of o.start))

  -- nobody has a code that may be enrolled
  nobody : (c : ℕ) → (eqb c 0 || is_some (known past c)) ≡ false → coded c s.folders ≡ None
  nobody c e =
      let p = or_parts (eqb c 0) (is_some (known past c)) e in
      st.folders c (eqb-false c 0 p.0) ∙ by (known past c) p.1
    where
      by : (o : Option Restorer) → is_some o ≡ false → option_map (filing c) o ≡ None
      by None i = refl
      by (Some r) i = cc

  new_folder : (o : Offer) (c : ℕ) (t : Bool) → eqb o.code c ≡ t → cond t (Some (offered o)) (option_map (filing c) (known past c)) ≡ option_map (filing c) (cond t (Some (fresh o)) (known past c))
  new_folder o c true e =
      ap (λ b. Some (filed b (threshold-of o.n o.d) o.start)) (eqb-true o.code c e) ∙ ap (λ m. Some (filed c (threshold-of o.n o.d) m)) (sym (conditioned_none o.start))
  new_folder o c false e = refl

  entered : (o : Offer) (i k : ℕ) → given i ≡ enrol_reply w past o → w.places - enrolments past ≡ suc k → coded o.code s.folders ≡ None →
      Stands w x before (enrols o (given i) ∷ past) (after_enrolling s o.letter (offered o) (given i))
  entered o i k e n free =
      let taken = codes_taken w x past st.follows in
      let places : map code s.folders ≡ codes past ++ replicate (suc k) 0 = st.places ∙ ap (λ m. codes past ++ replicate m 0) n in
      let more : k ≡ w.places - length (codes past ++ (o.code ∷ [])) = (let j = length-append (codes past) (o.code ∷ []) in omega arith) in
      noted (enrols o (given i)) (enrolled o.code o.n o.d o.letter) (changed 0 (λ f. offered o) s.folders) e refl
      (put_codes (offered o) k (codes past) s.folders taken places
      ∙ sym (append_assoc (codes past) (o.code ∷ []) (replicate k 0))
      ∙ ap (λ m. (codes past ++ (o.code ∷ [])) ++ replicate m 0) more)
      (λ c z.
      coded_put (offered o) k (codes past) s.folders c taken places z free
      ∙ ap (cond (eqb o.code c) (Some (offered o))) (st.folders c z)
      ∙ new_folder o c (eqb o.code c) refl)

  enrol_memory : (o : Offer) (r : Reply ℕ) → r ≡ enrol_reply w past o → Stands w x before (enrols o r ∷ past) (after_enrolling s o.letter (offered o) r)
  enrol_memory o (declined k p) e = unchanged (enrols o (declined k p)) e refl refl (λ c. refl)
  enrol_memory o (given i) e =
      let passed = enrolment w past o i e in
      let l = leb-false w.places (enrolments past) passed.place in
      entered o i (w.places - enrolments past - 1) e (omega arith) (nobody o.code passed.code)

  -- ---- asking

  -- a folder that was found fits
  found : {A : Type 0} (c : ℕ) (r : Restorer) (next : Folder Meaning → Reply A) → known past c ≡ Some r →
      and_then (refuse_if (not (fitting s.cabinet.count s.cabinet.tops (held r))) 8 (given (filing c r))) next ≡ next (filing c r)
  found c r next e = ap (λ b. and_then (refuse_if (not b) 8 (given (filing c r))) next) (fitting_same (held r) ∙ held_fits w x r (fair c r e))

  -- what a call replies that goes on with the folder of a code
  by_code : {A : Type 0} (c : ℕ) (next : Folder Meaning → Reply A) (reply : Option Restorer → Reply A) → declined 6 None ≡ reply None →
      ((r : Restorer) → known past c ≡ Some r → next (filing c r) ≡ reply (Some r)) →
      and_then (folder-of s.cabinet s.folders c) next ≡ refuse_if (eqb c 0) 6 (reply (known past c))
  by_code {A} c next reply none some = by (eqb c 0) refl
    where
      with_code : Option (Folder Meaning) → Reply A
      with_code o = and_then (some_or 6 o (λ f. refuse_if (not (fitting s.cabinet.count s.cabinet.tops f.belief)) 8 (given f))) next

      seen : (o : Option Restorer) → known past c ≡ o → with_code (option_map (filing c) o) ≡ reply o
      seen None e = none
      seen (Some r) e = found c r next e ∙ some r e

      by : (t : Bool) → eqb c 0 ≡ t → with_code (cond t None (coded c s.folders)) ≡ refuse_if t 6 (reply (known past c))
      by true e = refl
      by false e = ap with_code (st.folders c (eqb-false c 0 e)) ∙ seen (known past c) refl

  -- the checks of a question are those that are stated: the sheet's own answer has mass
  asked_same : (c : ℕ) (q : List ℕ) (r : Restorer) → known past c ≡ Some r → answering s c q (filing c r) ≡ judged w past c r q (answers q x)
  asked_same c q r e =
      let l = own_mass w x r q st.within (fair c r e) in
      ap (λ y. and_then (reading q) (λ e. refuse_if (short s (answered c (answers q y) q)) 11 (judging (filing c r) q (answers q y)))) st.sheet
      ∙ ap (λ b. checks b ((held r).carries [] q) (eqb (mass_of (held r) q (answers q x)) 0)) (short_same (answered c (answers q x) q))
      ∙ ap (λ b. checks (short-of w past (answered c (answers q x) q)) b (eqb (mass_of (held r) q (answers q x)) 0)) (held_carries r q)
      ∙ ap (checks (short-of w past (answered c (answers q x) q)) (r.start.carries r.heard q)) (ne_eqb (mass_of (held r) q (answers q x)) 0 (λ z. omega arith))
    where
      checks : Bool → Bool → Bool → Reply ℕ
      checks b d z =
          and_then (reading q) (λ e. refuse_if b 11 (refuse_if (not d) 12 (refuse_if z 13 (refuse_if (telling (held r) q r.n r.d) 14 (given (answers q x))))))

  ask_same : (c : ℕ) (q : List ℕ) → asking s c q ≡ ask_reply w x past c q
  unfolding ask_reply
  ask_same c q = by_code c (answering s c q) (asked w x past c q) refl (asked_same c q)

  heard_folder : (c b : ℕ) (q : List ℕ) (a : ℕ) (t : Bool) (o : Option Restorer) →
      cond t (option_map (hearing q a) (option_map (filing b) o)) (option_map (filing b) o) ≡ option_map (filing b) (cond t (option_map (hears q a) o) o)
  heard_folder c b q a true None = refl
  heard_folder c b q a true (Some r) = ap (λ m. Some (filed b (threshold-of r.n r.d) m)) (sym (held_hears r q a))
  heard_folder c b q a false o = refl

  ask_memory : (c : ℕ) (q : List ℕ) (r : Reply ℕ) → r ≡ ask_reply w x past c q → Stands w x before (asks c q r ∷ past) (after_asking s c q r)
  ask_memory c q (given a) e =
      noted (asks c q (given a)) (answered c a q) (changed c (hearing q a) s.folders) e refl (changed_codes (hearing q a) (λ f. refl) c s.folders ∙ st.places)
      (λ b z.
      coded_changed (hearing q a) (λ f. refl) c b s.folders
      ∙ ap (λ o. cond (eqb c b) (option_map (hearing q a) o) o) (st.folders b z)
      ∙ heard_folder c b q a (eqb c b) (known past b))
  ask_memory c q (declined k p) e = by (declines k) refl
    where
      by : (t : Bool) → declines k ≡ t → Stands w x before (asks c q (declined k p) ∷ past) (cond t (logged s s.folders (refused c k q)) s)
      by true d = noted (asks c q (declined k p)) (refused c k q) s.folders e (ap (λ t. cond t (refused c k q ∷ []) []) d) st.places st.folders
      by false d = unchanged (asks c q (declined k p)) e (ap (λ t. cond t (refused c k q ∷ []) []) d) refl (λ b. refl)

  -- ---- looking

  look_same : (c : ℕ) → through viewed (looking s.cabinet s.folders c) ≡ look_reply past c
  unfolding look_reply
  look_same c =
      through_then viewed (folder-of s.cabinet s.folders c) (λ f. given (record { total = total_of f.belief; peak = peak_of f.belief; threshold = f.threshold }))
      ∙ by_code c (λ f. given (record { total = total_of f.belief; peak = peak_of f.belief; n = f.threshold.n; d = f.threshold.d })) looked refl (λ r e. refl)

-- ---- what the calls promise

goes_on : (s t : State Meaning) (e : Event) → ((w : Setting) (x before : List ℕ) (past : Past) → Stands w x before past s → Stands w x before (e ∷ past) t) → GoesOn s e t
goes_on s t e h = record { stands = h; lawful = λ w x before past st. let n = h w x before past st in lawful w x (e ∷ past) n.within n.follows }

module _ {X : Type 0} (means : X → Meaning) (s : State X) where
  pub understood_enrolling : (kind : ℕ) (f : Folder X) (r : Reply ℕ) → understood means (after_enrolling s kind f r) ≡ after_enrolling (understood means s) kind (meant means f) r
  understood_enrolling kind f (given i) =
      ap (λ fs. logged (understood means s) fs (enrolled f.code f.threshold.n f.threshold.d kind)) (meant_put means 0 f s.folders)
  understood_enrolling kind f (declined n p) = refl

  pub enrols_on : (kind : ℕ) (f : Folder X) (r : Reply ℕ) (t : State X) → r ≡ enrolling (understood means s) kind (meant means f) → t ≡ after_enrolling s kind f r →
      GoesOn (understood means s) (enrols (offering kind (meant means f)) r) (understood means t)
  enrols_on kind f r t e m = goes_on _ _ _ (λ w x before past st.
      subst (Stands w x before (enrols (offering kind (meant means f)) r ∷ past)) (sym (ap (understood means) m ∙ understood_enrolling kind f r))
      (enrol_memory w x before past (understood means s) st (offering kind (meant means f)) r (e ∙ enrol_same w x before past (understood means s) st (offering kind (meant means f)))))

  pub asks_on : (c : ℕ) (q : List ℕ) (r : Reply ℕ) (t : State X) → r ≡ asking (understood means s) c q → understood means t ≡ after_asking (understood means s) c q r →
      GoesOn (understood means s) (asks c q r) (understood means t)
  asks_on c q r t e m = goes_on _ _ _ (λ w x before past st.
      subst (Stands w x before (asks c q r ∷ past)) (sym m)
      (ask_memory w x before past (understood means s) st c q r (e ∙ ask_same w x before past (understood means s) st c q)))

  pub looks_on : (c : ℕ) (r : Reply Shown) → r ≡ looking s.cabinet (map (meant means) s.folders) c →
      GoesOn (understood means s) (looks c (through viewed r)) (understood means s)
  looks_on c r e = goes_on _ _ _ (λ w x before past st.
      unchanged w x before past (understood means s) st (looks c (through viewed r)) (ap (through viewed) e ∙ look_same w x before past (understood means s) st c) refl refl (λ b. refl))

-- ---- making

value_fits : (count : ℕ) (tops sheet : List ℕ) (k : ℕ) → misfit count tops sheet k ≡ false → get_or sheet k 0 ≤ get_or tops k 0
value_fits count tops sheet k e = by (ltb k count) e
  where
    by : (t : Bool) → cond t (ltb (get_or tops k 0) (get_or sheet k 0)) (not (eqb (get_or tops k 0) 0) || not (eqb (get_or sheet k 0) 0)) ≡ false → get_or sheet k 0 ≤ get_or tops k 0
    by true e = ltb-false (get_or tops k 0) (get_or sheet k 0) e
    by false e =
        let p = or_parts (not (eqb (get_or tops k 0) 0)) (not (eqb (get_or sheet k 0) 0)) e in
        let v = eqb-true (get_or sheet k 0) 0 (not-false (eqb (get_or sheet k 0) 0) p.1) in
        omega arith

none_below : (n : ℕ) (p : ℕ → Bool) (k : ℕ) → some_below n p ≡ false → k < n → p k ≡ false
none_below n p k e l = by (p k) refl
  where
    by : (t : Bool) → p k ≡ t → p k ≡ false
    by true i = let j = below_some n p k l i in cc
    by false i = i

pub made : (count : ℕ) (tops sheet : List ℕ) (b d : Bool) (c : Cabinet) → given c ≡ refuse_if b 1 (refuse_if d 2 (given (record { sheet = sheet; count = count; tops = tops; used = 0 }))) →
    (d ≡ false) × (c ≡ record { sheet = sheet; count = count; tops = tops; used = 0 })
made count tops sheet true d c e = cc
made count tops sheet false true c e = cc
made count tops sheet false false c e = (refl, cc)

sheet_within : (count : ℕ) (tops sheet : List ℕ) → length tops ≡ 4 → length sheet ≡ 4 → some_below 4 (misfit count tops sheet) ≡ false → Within tops sheet
sheet_within count tops sheet i j e = record { long = j ∙ sym i; below = λ k. by k (cases_lt k 4) }
  where
    by : (k : ℕ) → (k < 4) ⊎ (4 ≤ k) → get_or sheet k 0 ≤ get_or tops k 0
    by k (inl l) = value_fits count tops sheet k (none_below 4 (misfit count tops sheet) k e l)
    by k (inr l) = let v : get_or sheet k 0 ≡ 0 = get_or_past sheet k 0 (omega arith) in omega arith

pub begins : (count : ℕ) (tops sheet : List ℕ) → length tops ≡ 4 → length sheet ≡ 4 → given (record { sheet = sheet; count = count; tops = tops; used = 0 }) ≡ making count tops sheet →
    Begins (record { sheet = sheet; count = count; tops = tops; used = 0 })
begins count tops sheet i j e =
    let m = made count tops sheet (eqb count 0 || ltb 4 count) (some_below 4 (misfit count tops sheet)) _ e in
    record {
      stands = λ fs before free. record {
        follows = tt;
        sheet = refl;
        within = sheet_within count tops sheet i j m.0;
        count = refl;
        tops = refl;
        used = refl;
        room = refl;
        bytes = refl;
        places = free ∙ ap (λ n. replicate n 0) (omega arith);
        folders = λ b z. free_coded (length fs) b fs z free;
      };
    }

-- folders whose codes were set to 0 are free
pub freed : {X : Type 0} (means : X → Meaning) (fs : List (Folder X)) →
    map code (map (meant means) (map (λ f. filed 0 f.threshold f.belief) fs)) ≡ replicate (length (map (meant means) (map (λ f. filed 0 f.threshold f.belief) fs))) 0
freed means [] = refl
freed means (f ∷ fs) = ap (λ ns. 0 ∷ ns) (freed means fs)
