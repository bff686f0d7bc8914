-- The worked cases hold.
use Rattle.std.proofs.Common.{refl}
use Rattle.question.specs.Reading.{reading}
use Rattle.question.specs.Questions.{answers}
use Rattle.question.specs.Cases.{Worked}

pub worked : Worked
unfolding reading answers
worked = record { rows = (λ s. refl, (λ s. refl, (λ s. refl, (λ s. refl, (λ s. refl, (λ s. refl, (λ s. refl, tt))))))) }
