-- One call more of a session: its event, the history with it, and the memory that it leaves.
use Rattle.std.proofs.Common.{◌≡◌, ℕ, zero, suc, ◌+◌, ◌-◌, ◌<◌, ◌≤◌, min, ◌||◌, eqb, ltb, List, [], ◌∷◌, ◌++◌, map, length, get_or, take, drop, set, sym, refl, ap, ◌∙◌, subst, arith, length-take}
use Rattle.std.proofs.lemmas.List.{take_more, take_more_set, drop-set-lt, drop-drop}
use Rattle.refusal.specs.Replies.{Reply, given}
use Rattle.belief.specs.Meaning.{Meaning}
use Rattle.history.specs.Events.{Setting, enrols, Past}
use Rattle.cabinet.specs.declared.cabinets.Cabinet.{Cabinet}
use Rattle.cabinet.specs.declared.folders.Folder.{Folder}
use Rattle.cabinet.specs.declared.requests.Call.{Call}
use Rattle.cabinet.specs.declared.requests.Return.{Return}
use Rattle.cabinet.specs.Memory.{State, state, meant, understood}
use Rattle.cabinet.specs.Calls.{misfit, making, after_enrolling}
use Rattle.history.specs.Judging.{some_below}
use Rattle.history.proofs.Main.{lawful}
use Rattle.cabinet.specs.Standing.{offering, Stands, Begins}
use Rattle.cabinet.specs.Sessions.{event, events, after_event, left, Turns, freed, Served}
use Rattle.cabinet.proofs.Standing.{made, understood_enrolling, freed as codes-free}

-- what a making gives
made_is : (count : ℕ) (tops sheet : List ℕ) (c : Cabinet) → given c ≡ making count tops sheet → c ≡ record { sheet = sheet; count = count; tops = tops; used = 0 }
made_is count tops sheet c e = (made count tops sheet (eqb count 0 || ltb 4 count) (some_below 4 (misfit count tops sheet)) c e).1

-- what an enrolment leaves, by what the beliefs mean
pub enrol_memory : {X : Type 0} (means : X → Meaning) (s t : State X) (kind : ℕ) (f : Folder X) (r : Reply ℕ) → t ≡ after_enrolling s kind f r →
    understood means t ≡ after_event (understood means s) (enrols (offering kind (meant means f)) r)
enrol_memory means s t kind f r e = ap (understood means) e ∙ understood_enrolling means s kind f r

module _ {X : Type 0} (means : X → Meaning) (letter : ℕ) where
  events_push : (cs : List (Call X)) (rs : List Return) (c : Call X) (r : Return) (past : Past) → length cs ≡ length rs →
      event means letter c r ∷ events means letter cs rs past ≡ events means letter (cs ++ (c ∷ [])) (rs ++ (r ∷ [])) past
  events_push [] [] c r past e = refl
  events_push [] (s ∷ rs) c r past e = absurd (omega arith)
  events_push (d ∷ cs) [] c r past e = absurd (omega arith)
  events_push (d ∷ cs) (s ∷ rs) c r past e = events_push cs rs c r (event means letter d s ∷ past) (omega arith)

  -- calls and returns past the shorter list make no event
  pub events_cut : (n : ℕ) (cs : List (Call X)) (rs : List Return) (past : Past) → min (length cs) (length rs) ≤ n → events means letter (take n cs) (take n rs) past ≡ events means letter cs rs past
  events_cut zero [] rs past h = refl
  events_cut (suc n) [] rs past h = refl
  events_cut zero (c ∷ cs) [] past h = refl
  events_cut (suc n) (c ∷ cs) [] past h = refl
  events_cut zero (c ∷ cs) (r ∷ rs) past h = absurd (omega arith)
  events_cut (suc n) (c ∷ cs) (r ∷ rs) past h = events_cut n cs rs (event means letter c r ∷ past) (omega arith)

  module _ (calls : List (Call X)) (rs : List Return) (i : ℕ) (d : Call X) (r : Return) (h : i < length calls) (k : i < length rs) where
    -- the history with the call at i
    pub events_more : (past : Past) →
        event means letter (get_or calls i d) r ∷ events means letter (take i calls) (take i rs) past ≡ events means letter (take (i + 1) calls) (take (i + 1) (set rs i r)) past
    events_more past =
        let e : length (take i calls) ≡ length (take i rs) = simp length-take (omega arith) in
        events_push (take i calls) (take i rs) (get_or calls i d) r past e
        ∙ ap (λ (cs : List (Call X)). events means letter cs (take i rs ++ (r ∷ [])) past) (sym (take_more calls i d h))
        ∙ ap (λ (ys : List Return). events means letter (take (i + 1) calls) ys past) (sym (take_more_set rs i r k))

    pub stands_more : (s t : State Meaning) (w : Setting) (x before : List ℕ) (past : Past) → Turns s (event means letter (get_or calls i d) r) t →
        Stands w x before (events means letter (take i calls) (take i rs) past) s →
        Stands w x before (events means letter (take (i + 1) calls) (take (i + 1) (set rs i r)) past) t
    stands_more s t w x before past turns st =
        subst (λ (p : Past). Stands w x before p t) (events_more past) (turns.goes.stands w x before (events means letter (take i calls) (take i rs) past) st)

    pub left_more : (begun s t : State Meaning) → Turns s (event means letter (get_or calls i d) r) t → s ≡ left begun (events means letter (take i calls) (take i rs) []) →
        t ≡ left begun (events means letter (take (i + 1) calls) (take (i + 1) (set rs i r)) [])
    left_more begun s t turns e =
        turns.memory ∙ (ap (λ (m : State Meaning). after_event m (event means letter (get_or calls i d) r)) e ∙ ap (left begun) (events_more []))

  -- the places for returns that are not written to
  pub rest_more : (old rs : List Return) (i : ℕ) (r : Return) → drop i rs ≡ drop i old → drop (i + 1) (set rs i r) ≡ drop (i + 1) old
  rest_more old rs i r e = drop-set-lt (i + 1) rs i r (omega arith) ∙ (sym (drop-drop 1 i rs) ∙ (ap (drop 1) e ∙ drop-drop 1 i old))

  pub rest_all : (n i : ℕ) (old rs : List Return) → length rs ≡ length old → i ≡ min n (length rs) → drop i rs ≡ drop i old → drop n rs ≡ drop n old
  rest_all n i old rs l e f =
      let m : n ≡ i + (n - i) = omega arith in
      ap (λ k. drop k rs) m ∙ (sym (drop-drop (n - i) i rs) ∙ (ap (drop (n - i)) f ∙ (drop-drop (n - i) i old ∙ sym (ap (λ k. drop k old) m))))

-- ---- a whole session

freed_long : {X : Type 0} (means : X → Meaning) (fs : List (Folder X)) → length (map (meant means) (freed fs)) ≡ length fs
freed_long means [] = refl
freed_long means (f ∷ fs) = let e = freed_long means fs in omega arith

pub session_served : {X : Type 0} (means : X → Meaning) (count : ℕ) (tops sheet : List ℕ) (c d : Cabinet) (fs regs last end : List (Folder X)) (before after : List ℕ) (h : Past) →
    given c ≡ making count tops sheet → Begins c → regs ≡ freed fs → end ≡ last →
    ((w : Setting) (x bytes : List ℕ) → Stands w x bytes [] (understood means (state c regs before)) → Stands w x bytes h (understood means (state d last after))) →
    understood means (state d last after) ≡ left (understood means (state c regs before)) h →
    Served (record { count = count; tops = tops; places = length fs; room = length before }) sheet before h
    (understood means (state (record { sheet = sheet; count = count; tops = tops; used = 0 }) (freed fs) before)) (understood means (state d end after))
session_served means count tops sheet c d fs regs last end before after h e b f l go mem =
    let k = made_is count tops sheet c e in
    let C : Cabinet = record { sheet = sheet; count = count; tops = tops; used = 0 } in
    let st0 = (subst Begins k b).stands (map (meant means) (freed fs)) before (codes-free means fs) in
    let st1 : Stands (record { count = count; tops = tops; places = length fs; room = length before }) sheet before [] (understood means (state C (freed fs) before))
    = subst (λ (n : ℕ). Stands (record { count = count; tops = tops; places = n; room = length before }) sheet before [] (understood means (state C (freed fs) before))) (freed_long means fs) st0 in
    let begun : understood means (state c regs before) ≡ understood means (state C (freed fs) before) = λ i. understood means (state (k i) (f i) before) in
    let ends : understood means (state d last after) ≡ understood means (state d end after) = ap (λ gs. understood means (state d gs after)) (sym l) in
    let w : Setting = record { count = count; tops = tops; places = length fs; room = length before } in
    let st2 = subst (Stands w sheet before h) ends (go w sheet before (subst (Stands w sheet before []) (sym begun) st1)) in
    record { lawful = lawful w sheet h st2.within st2.follows; stands = st2; memory = sym ends ∙ (mem ∙ ap (λ s. left s h) begun) }
