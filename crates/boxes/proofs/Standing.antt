-- The laws of the definitions.
use Rattle.std.proofs.Common.{◌≡◌, ℕ, ◌<◌, ◌≤◌, true, false, List, [], ◌∷◌, length, get_or, refl, inl, inr, arith, eq-eqb, le-leb}
use Rattle.std.specs.List.{AllByRecursion}
use Rattle.std.proofs.lemmas.List.Elements.{All-from_recursion, recursion_from_All}
use Rattle.std.proofs.lemmas.Bool.{and_from, or_left, or_right, cases_Bool}
use Rattle.question.specs.Questions.{steps_of, in_span}
use Rattle.question.proofs.Questions.{all_below_true}
use Rattle.belief.specs.Meaning.{total_of, peak_of}
use Rattle.ranges.specs.declared.shapes.WeightedBox.{WeightedBox}
use Rattle.ranges.specs.Boxes.{inside, within, fits, corner, entire, over_boxes, weight_at, fit_all}
use Rattle.ranges.specs.Pieces.{cuts, with_side, pieces, cut, cut_all}
use Rattle.ranges.specs.Changes.{edges, leaned_piece, leaned_boxes}
use Rattle.ranges.proofs.Folds.{fit}
use Rattle.ranges.proofs.Pieces.{fits_length}
use Rattle.ranges.proofs.Covers.{disjoint_cover, cover_disjoint}
use Rattle.ranges.proofs.Combinations.{pieces_combined}
use Rattle.ranges.proofs.Classes.{pieces_once, pieces_agree, pieces_joint, one_answer}
use Rattle.belief.specs.Spans.{zero_outside, span_value, span_only}
use Rattle.belief.proofs.Spanned.{zero_at}
use Rattle.boxes.specs.Holding.{weight_in, sound_in, between}
use Rattle.boxes.specs.Laws.{Hold, cases, Combined, Sorts, OneAnswer, Sound, Soundness}
use Rattle.boxes.specs.Meanings.{sound_parts, sound_made, summed}

pub hold : Hold cases
unfolding leaned_boxes leaned_piece edges cut_all cut pieces cuts with_side between entire corner inside within total_of peak_of weight_in weight_at over_boxes span_only span_value in_span
hold = (refl, refl, refl, tt)

pub combined : Combined
combined ts xs = pieces_combined ts xs

pub sorts : Sorts
sorts tops ts xs h f =
    let l = fits_length xs tops h in
    let g = recursion_from_All (λ t. t.field < length tops) ts f in
    record {
      once = pieces_once tops ts xs h (rw l g);
      agree = All-from_recursion _ (pieces ts xs) (pieces_agree ts xs (rw l g));
      joint = λ s u i j a. All-from_recursion _ (pieces ts xs) (pieces_joint ts xs s u i j a);
    }

pub answer : OneAnswer
answer tops q bs l d h = All-from_recursion _ (cut_all (steps_of q) bs) (one_answer tops q bs l d h)

-- ---- soundness

zero_made : (f c : ℕ) (tops : List ℕ) → ((k : ℕ) → in_span f c k ≡ false → get_or tops k 0 ≡ 0) → zero_outside f c tops ≡ true
unfolding zero_outside
zero_made f c tops h = all_below_true 4 _ (λ k l. elim (cases_Bool (in_span f c k)) [ inl e ↦ or_left (in_span f c k) _ e | inr e ↦ or_right (in_span f c k) _ (eq-eqb _ _ (h k e)) ])

abbrev Fits : List ℕ → WeightedBox → Type 0
Fits ts b = (fits ts b.sides ≡ true) × (1 ≤ b.weight)

fit_each : (ts : List ℕ) (bs : List WeightedBox) → fit_all ts bs ≡ true → AllByRecursion (Fits ts) bs
fit_each ts [] h = tt
fit_each ts (b ∷ bs) h = let p = fit ts b bs h in ((p.here, p.some), fit_each ts bs p.rest)

each_fit : (ts : List ℕ) (bs : List WeightedBox) → AllByRecursion (Fits ts) bs → fit_all ts bs ≡ true
unfolding fit_all
each_fit ts [] h = refl
each_fit ts (b ∷ bs) h = and_from _ _ (and_from _ _ h.0.0 (le-leb _ _ h.0.1)) (each_fit ts bs h.1)

pub soundness : Soundness
soundness f c tops bs l = (to, from)
  where
    to : sound_in f c tops bs ≡ true → Sound f c tops bs
    to e =
        let p = sound_parts f c tops bs e in
        let t = summed f c tops bs l p.out p.fit in
        let lo = p.least in
        let hi = p.most in
        record {
          some = p.some;
          last = p.last;
          outside = zero_at f c tops l p.out;
          few = p.few;
          fit = All-from_recursion (Fits tops) bs (fit_each tops bs p.fit);
          apart = disjoint_cover bs p.apart;
          least = omega arith;
          most = omega arith;
        }

    from : Sound f c tops bs → sound_in f c tops bs ≡ true
    from p =
        let z = zero_made f c tops p.outside in
        let fit = each_fit tops bs (recursion_from_All (Fits tops) bs p.fit) in
        let t = summed f c tops bs l z fit in
        let lo = p.least in
        let hi = p.most in
        sound_made f c tops bs (record {
          some = p.some;
          last = p.last;
          out = z;
          few = p.few;
          fit = fit;
          apart = cover_disjoint bs tops fit p.apart;
          least = omega arith;
          most = omega arith;
        })
