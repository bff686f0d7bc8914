-- The laws: unique reading, and the one reply that bytes are told.
use Rattle.std.proofs.Common.{◌≡◌, ℕ, zero, suc, ◌+◌, ◌-◌, ◌<◌, ◌≤◌, Bool, true, false, nat_le, List, [], ◌∷◌, ◌++◌, length, get_or, take, drop, Some, None, Option, sym, refl, ap, ◌∙◌, subst, append_assoc, append-nil, le_refl, arith, length-append, take-append-drop, take-take, leb-false, leb-true, inl, inr}
use Rattle.std.proofs.Math.Seq.{take-append_seam, take-append-add}
use Rattle.std.proofs.lemmas.Bool.{cases_order}
use Rattle.question.specs.Expressions.{longest, Expression, written, completed}
use Rattle.refusal.specs.Replies.{Reply, declined}
use Rattle.question.specs.Reading.{Front, found, wrong as astray, front, first_over, limits, whole, reading}
use Rattle.question.specs.Fronts.{Slot, question, which, any, follows, stuck}
use Rattle.question.specs.Laws.{Bytes, Opens, Wrong, Told, asked, long, wrong, over, Only, Unique}
use Rattle.question.proofs.Firsts.{none_within, within_none, some_passing, passing_some}
use Rattle.question.proofs.Scan.{filled, passed}
use Rattle.question.proofs.Front.{Agree, agree, front_written, found_front, reading_short, reading_long}

-- ---- unique reading

same_front : (t u : Expression) (r q : List ℕ) → written t ++ r ≡ written u ++ q → found t r ≡ found u q
same_front t u r q e =
    let n = length (written t ++ r) in
    sym (front_written t n r (le_refl n)) ∙ (ap (front n) e ∙ front_written u n q (omega (arith, ap length e)))

pub unique : Unique
unique =
    record {
      tree = λ t u r q e. (let f = same_front t u r q e in cc);
      rest = λ t u r q e. (let f = same_front t u r q e in cc);
    }

-- ---- where bytes are stuck

-- something for each slot
fill : List Slot → List ℕ
fill [] = []
fill (question ∷ ss) = 102 ∷ 0 ∷ fill ss
fill (which ∷ ss) = 0 ∷ fill ss
fill (any ∷ ss) = 0 ∷ fill ss

fills : (ss : List Slot) → stuck ss (fill ss) ≡ None
unfolding fill
fills [] = refl
fills (question ∷ ss) = fills ss
fills (which ∷ ss) = fills ss
fills (any ∷ ss) = fills ss

fill_bytes : (ss : List Slot) → Bytes (fill ss)
unfolding fill
fill_bytes [] = tt
fill_bytes (question ∷ ss) = (omega arith, (omega arith, fill_bytes ss))
fill_bytes (which ∷ ss) = (omega arith, fill_bytes ss)
fill_bytes (any ∷ ss) = (omega arith, fill_bytes ss)

-- the bytes before the place can be completed, and with the byte there they cannot
record Split (ss : List Slot) (bs : List ℕ) (l : ℕ) : Type 0 where
  pre : List ℕ
  post : List ℕ
  is : bs ≡ pre ++ post
  size : length post ≡ l
  end : List ℕ
  bytes : Bytes end
  done : stuck ss (pre ++ end) ≡ None
  shut : (x : ℕ) (q d : List ℕ) → post ≡ x ∷ q → stuck ss (pre ++ (x ∷ d)) ≡ None → ⊥

split_on : (s : Slot) (ss : List Slot) (b : ℕ) (bs : List ℕ) (l : ℕ) (o : Option (List Slot)) → follows s b ≡ o → ((new : List Slot) → stuck new bs ≡ Some l → Split new bs l) → elim o [ None ↦ Some (length (b ∷ bs)) | Some new ↦ stuck (new ++ ss) bs ] ≡ Some l → Split (s ∷ ss) (b ∷ bs) l
split_on s ss b bs l None o f e =
    record {
      pre = [];
      post = b ∷ bs;
      is = refl;
      size = (let z : length (b ∷ bs) ≡ l = cc in z);
      end = fill (s ∷ ss);
      bytes = fill_bytes (s ∷ ss);
      done = fills (s ∷ ss);
      shut = λ x q d g h.
          let y : x ≡ b = cc in
          let k : stuck (s ∷ ss) (x ∷ d) ≡ Some (length (x ∷ d)) = ap (λ i. (elim i [ None ↦ Some (length (x ∷ d)) | Some new ↦ stuck (new ++ ss) d ])) (ap (follows s) y ∙ o) in
          cc;
    }
split_on s ss b bs l (Some new) o f e =
    let r = f (new ++ ss) e in
    let on : (xs : List ℕ) → stuck (s ∷ ss) (b ∷ xs) ≡ stuck (new ++ ss) xs = λ xs. ap (λ i. (elim i [ None ↦ Some (length (b ∷ xs)) | Some n ↦ stuck (n ++ ss) xs ])) o in
    record {
      pre = b ∷ r.pre;
      post = r.post;
      is = ap (λ i. b ∷ i) r.is;
      size = r.size;
      end = r.end;
      bytes = r.bytes;
      done = on (r.pre ++ r.end) ∙ r.done;
      shut = λ x q d g h. r.shut x q d g (sym (on (r.pre ++ (x ∷ d))) ∙ h);
    }

split : (ss : List Slot) (bs : List ℕ) (l : ℕ) → stuck ss bs ≡ Some l → Split ss bs l
split [] [] l e = cc
split [] (b ∷ bs) l e =
    record {
      pre = [];
      post = b ∷ bs;
      is = refl;
      size = (let z : length (b ∷ bs) ≡ l = cc in z);
      end = [];
      bytes = tt;
      done = refl;
      shut = λ x q d g h. cc;
    }
split (s ∷ ss) [] l e =
    record {
      pre = [];
      post = [];
      is = refl;
      size = (let z : 0 ≡ l = cc in z);
      end = fill (s ∷ ss);
      bytes = fill_bytes (s ∷ ss);
      done = fills (s ∷ ss);
      shut = λ x q d g h. cc;
    }
split (s ∷ ss) (b ∷ bs) l e = split_on s ss b bs l (follows s b) refl (λ new. split new bs l) e

-- ---- bytes that are not stuck write an expression

ends : (r : List ℕ) → stuck [] r ≡ None → r ≡ []
ends [] e = refl
ends (x ∷ r) e = cc

whole_of_all : (bs : List ℕ) (F : Front) → Agree bs F → stuck (question ∷ []) bs ≡ None → (t : Expression) × (bs ≡ written t ++ [])
whole_of_all bs (found t r) g e =
    let n = ends r (sym (passed {bs = bs} {rest = r} (record { tree = t; is = g }) []) ∙ e) in
    (t, g ∙ ap (λ i. written t ++ i) n)
whole_of_all bs (astray l) g e = let h = g.whatever [] in cc

not_stuck : (t : Expression) → stuck (question ∷ []) (written t) ≡ None
not_stuck t = ap (stuck (question ∷ [])) (sym (append-nil (written t))) ∙ filled t [] []

opens_pre : (pre end : List ℕ) → Bytes end → stuck (question ∷ []) (pre ++ end) ≡ None → Opens pre
opens_pre pre end b e =
    let w = whole_of_all (pre ++ end) (front (length (pre ++ end)) (pre ++ end)) (agree (length (pre ++ end)) (pre ++ end) (le_refl (length (pre ++ end)))) e in
    record { tree = w.0; rest = end; bytes = b; is = sym (append-nil (written w.0)) ∙ sym w.1 }

wrong_here : (pre post : List ℕ) → ((x : ℕ) (q d : List ℕ) → post ≡ x ∷ q → stuck (question ∷ []) (pre ++ (x ∷ d)) ≡ None → ⊥) → length pre < length (pre ++ post) → Opens (take (length pre + 1) (pre ++ post)) → ⊥
wrong_here pre [] f h o = omega (arith, length-append pre [])
wrong_here pre (x ∷ q) f h o =
    let n : take (length pre + 1) (pre ++ (x ∷ q)) ≡ pre ++ (x ∷ []) = take-append-add pre (x ∷ q) 1 in
    let e : written o.tree ≡ pre ++ (x ∷ o.rest) = o.is ∙ (ap (λ i. i ++ o.rest) n ∙ append_assoc pre (x ∷ []) o.rest) in
    f x q o.rest refl (sym (ap (stuck (question ∷ [])) e) ∙ not_stuck o.tree)

wrong_at : (bs : List ℕ) (l : ℕ) → stuck (question ∷ []) bs ≡ Some l → Wrong bs (length bs - l)
wrong_at bs l e =
    let s = split (question ∷ []) bs l e in
    let m = ap length s.is ∙ length-append s.pre s.post in
    let p : length bs - l ≡ length s.pre = omega (arith, m, s.size) in
    record {
      within = omega arith;
      before = subst Opens (sym (ap (λ i. take i bs) p ∙ (ap (take (length s.pre)) s.is ∙ take-append_seam s.pre s.post))) (opens_pre s.pre s.end s.bytes s.done);
      here = λ h o.
          wrong_here s.pre s.post s.shut (omega (arith, p, ap length s.is)) (subst Opens (ap (λ i. take (i + 1) bs) p ∙ ap (take (length s.pre + 1)) s.is) o);
      none = λ t h. let f = sym e ∙ (ap (stuck (question ∷ [])) h ∙ not_stuck t) in cc;
    }

-- ---- bytes go wrong in one place

bytes_append : (xs ys : List ℕ) → Bytes xs → Bytes ys → Bytes (xs ++ ys)
bytes_append [] ys a b = b
bytes_append (x ∷ xs) ys a b = (a.0, bytes_append xs ys a.1 b)

bytes_take : (n : ℕ) (xs : List ℕ) → Bytes xs → Bytes (take n xs)
bytes_take zero xs a = tt
bytes_take (suc n) [] a = tt
bytes_take (suc n) (x ∷ xs) a = (a.0, bytes_take n xs a.1)

bytes_drop : (n : ℕ) (xs : List ℕ) → Bytes xs → Bytes (drop n xs)
bytes_drop zero xs a = a
bytes_drop (suc n) [] a = tt
bytes_drop (suc n) (x ∷ xs) a = bytes_drop n xs a.1

-- what can be completed, can be so from any place in it
opens_before : (bs : List ℕ) → Bytes bs → (p q : ℕ) → p ≤ q → Opens (take q bs) → Opens (take p bs)
opens_before bs b p q l o =
    let t = take q bs in
    record {
      tree = o.tree;
      rest = drop p t ++ o.rest;
      bytes = bytes_append (drop p t) o.rest (bytes_drop p t (bytes_take q bs b)) o.bytes;
      is = o.is ∙ (ap (λ i. i ++ o.rest) (sym (take-append-drop p t) ∙ ap (λ i. i ++ drop p t) (take-take p q bs l)) ∙ append_assoc (take p bs) (drop p t) o.rest);
    }

wrong_before : (bs : List ℕ) → Bytes bs → {p q : ℕ} → Wrong bs p → Wrong bs q → p < q → ⊥
wrong_before bs b {p} {q} v w l = v.here (omega (arith, w.within)) (opens_before bs b (p + 1) q (omega arith) w.before)

wrong_one : (bs : List ℕ) → Bytes bs → {p q : ℕ} → Wrong bs p → Wrong bs q → p ≡ q
wrong_one bs b {p} {q} v w =
    elim (cases_order p q) [
      | inl e ↦ e
      | inr apart ↦ elim apart [ inl l ↦ absurd (wrong_before bs b v w l) | inr g ↦ absurd (wrong_before bs b w v g) ]
    ]

-- ---- the reading is told

told_limits : (bs : List ℕ) (e : Expression) (o : Option ℕ) → length bs ≤ longest → bs ≡ written e → first_over (completed 0 e) ≡ o → Told bs (limits e o)
told_limits bs e None l i f = asked e l i (none_within (completed 0 e) f)
told_limits bs e (Some p) l i f = over e p l i (some_passing (completed 0 e) f)

told_front : (bs : List ℕ) (F : Front) → Agree bs F → length bs ≤ longest → Told bs (whole (length bs) F)
told_front bs (astray l) g h = wrong (length bs - l) h (wrong_at bs l (g.whatever []))
told_front bs (found t []) g h = told_limits bs t (first_over (completed 0 t)) h (g ∙ append-nil (written t)) refl
told_front bs (found t (b ∷ q)) g h = wrong (length bs - length (b ∷ q)) h (wrong_at bs (length (b ∷ q)) (passed {bs = bs} {rest = b ∷ q} (record { tree = t; is = g }) []))

told_by : (bs : List ℕ) (x : Bool) → nat_le (length bs) longest ≡ x → Told bs (reading bs)
told_by bs true e =
    let h = leb-true (length bs) longest e in
    let F = front (length bs) bs in
    subst (Told bs) (sym (reading_short bs F h refl)) (told_front bs F (agree (length bs) bs (le_refl (length bs))) h)
told_by bs false e = let h = leb-false (length bs) longest e in subst (Told bs) (sym (reading_long bs h)) (long h)

pub told : (bs : List ℕ) → Told bs (reading bs)
told bs = told_by bs (nat_le (length bs) longest) refl

-- ---- and nothing else is

reading_written : (bs : List ℕ) (e : Expression) → length bs ≤ longest → bs ≡ written e → reading bs ≡ limits e (first_over (completed 0 e))
reading_written bs e l i = reading_short bs (found e []) l (found_front bs e [] (i ∙ sym (append-nil (written e))))

nine : (bs : List ℕ) (F : Front) → Agree bs F → length bs ≤ longest → reading bs ≡ whole (length bs) F → ((e : Expression) → bs ≡ written e → ⊥) → (p : ℕ) × (reading bs ≡ declined 9 (Some p)) × Wrong bs p
nine bs (astray l) g h r n = (length bs - l, r, wrong_at bs l (g.whatever []))
nine bs (found t []) g h r n = absurd (n t (g ∙ append-nil (written t)))
nine bs (found t (b ∷ q)) g h r n = (length bs - length (b ∷ q), r, wrong_at bs (length (b ∷ q)) (passed {bs = bs} {rest = b ∷ q} (record { tree = t; is = g }) []))

alone : (bs : List ℕ) → Bytes bs → (v : Reply Expression) → Told bs v → v ≡ reading bs
alone bs b v (asked e l i w) = sym (reading_written bs e l i ∙ ap (limits e) (within_none (completed 0 e) w))
alone bs b v (long h) = sym (reading_long bs h)
alone bs b v (wrong p l w) =
    let F = front (length bs) bs in
    let n = nine bs F (agree (length bs) bs (le_refl (length bs))) l (reading_short bs F l refl) w.none in
    ap (λ i. declined 9 (Some i)) (wrong_one bs b w n.2) ∙ sym n.1
alone bs b v (over e p l i w) = sym (reading_written bs e l i ∙ ap (limits e) (passing_some (completed 0 e) w))

pub only : (bs : List ℕ) → Bytes bs → Only bs (reading bs)
only bs b = record { told = told bs; alone = alone bs b }

-- bytes by places
pub bytes_from : (bs : List ℕ) → ((k : ℕ) → get_or bs k 0 < 256) → Bytes bs
bytes_from [] h = tt
bytes_from (b ∷ bs) h = (h 0, bytes_from bs (λ k. h (suc k)))
