-- An expression that is a step is a field, a number and < before them.
use Rattle.std.proofs.Common.{◌≡◌, ℕ, ◌+◌, ◌*◌, Some, refl}
use Rattle.question.specs.declared.steps.Step.{Step}
use Rattle.question.specs.Expressions.{Op, plus, minus, times, less, equal, and, or, Field, index, Expression, field, number, two, nought, choose}
use Rattle.question.specs.Steps.{number_step, less_step, two_step, simple}

pub record AStep (e : Expression) (t : Step) : Type 0 where
  pub k : Field
  pub hi : ℕ
  pub lo : ℕ
  pub is : e ≡ two less (field k) (number hi lo)
  pub told : t ≡ record { field = index k; bound = hi * 256 + lo }

number_as : (k : Field) (b : Expression) (t : Step) → number_step (index k) b ≡ Some t → AStep (two less (field k) b) t
number_as k (number hi lo) t e = record { k = k; hi = hi; lo = lo; is = refl; told = (let z : t ≡ record { field = index k; bound = hi * 256 + lo } = cc in z) }
number_as k (field j) t e = cc
number_as k (two o a b) t e = cc
number_as k (nought a) t e = cc
number_as k (choose a b c) t e = cc

less_as : (a b : Expression) (t : Step) → less_step a b ≡ Some t → AStep (two less a b) t
less_as (field k) b t e = number_as k b t e
less_as (number hi lo) b t e = cc
less_as (two o a c) b t e = cc
less_as (nought a) b t e = cc
less_as (choose a c d) b t e = cc

pub two_as : (o : Op) (a b : Expression) (t : Step) → two_step o a b ≡ Some t → AStep (two o a b) t
two_as less a b t e = less_as a b t e
two_as plus a b t e = cc
two_as minus a b t e = cc
two_as times a b t e = cc
two_as equal a b t e = cc
two_as and a b t e = cc
two_as or a b t e = cc

pub simple_as_step : (e : Expression) (t : Step) → simple e ≡ Some t → AStep e t
simple_as_step (two o a b) t e = two_as o a b t e
simple_as_step (field k) t e = cc
simple_as_step (number hi lo) t e = cc
simple_as_step (nought a) t e = cc
simple_as_step (choose a b c) t e = cc
