-- The worked case, computed.
use Rattle.std.proofs.Common.{refl}
use Rattle.question.specs.Reading.{reading}
use Rattle.question.specs.Questions.{answers, reads_field, in_span, all_below, reads_in}
use Rattle.belief.specs.Meaning.{kept, total_of, peak_of, mass_of, heaviest_of}
use Rattle.belief.specs.Spans.{span_value, span_only, zero_outside}
use Rattle.table.specs.Places.{size_of, place_of, fits_in}
use Rattle.table.specs.Tables.{weight_in}
use Rattle.pair.proofs.cases_stand.Goals as goal

pub returns : goal.returns
unfolding reading answers reads_field in_span all_below reads_in kept total_of peak_of mass_of heaviest_of size_of place_of fits_in span_value span_only weight_in zero_outside
returns c = record { made = refl; total = refl; peak = refl; carried = refl; mass = refl; heaviest = refl }
