-- What does not fit weighs 0; what fits has a place.
use Rattle.std.proofs.Common.{◌≡◌, ◌<◌, ◌≤◌, slice_index, length, ◌∙◌, arith, rules}
use Rattle.table.specs.Soundness.{weigh_not, weigh_is, place_room}
use Rattle.table.proofs.kind.TableBelief.weight.Goals as goal

pub returns-then-not-fits_in : goal.returns-then-not-fits_in
returns-then-not-fits_in c = λ e. let t = c.args.self.now in
    weigh_not t.span.first t.span.count t.span.tops t.weights c.args.sheet _ _ c.only-own.ensures c.fits_in.ensures c.if-not-fits_in.true

pub returns-in-Some : goal.returns-in-Some
returns-in-Some c = λ e. let t = c.args.self.now in
    let at : c.in-Some.weight.now ≡ slice_index t.weights c.place_of.result = search rules in
    c.from.ensures ∙ at ∙ weigh_is t.span.first t.span.count t.span.tops t.weights c.args.sheet _ _ _ c.only-own.ensures c.fits_in.ensures c.if-not-fits_in.false c.place_of.ensures

pub returns-in-None : goal.returns-in-None
returns-in-None c = λ e. let t = c.args.self.now in
    let l : c.place_of.result < 1024 = place_room t c.args.sheet _ _ _ e c.only-own.ensures c.fits_in.ensures c.if-not-fits_in.false c.place_of.ensures in
    let p = t.places in
    let past : length t.weights ≤ c.place_of.result = search rules in absurd (omega arith)
