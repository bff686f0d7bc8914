-- What a question and a list of steps hold. Assumes nothing.
use Rattle.std.specs.Prelude.{ℕ, List, take}
use Rattle.question.specs.declared.checked.Question.{Question}
use Rattle.question.specs.declared.listed.Steps.{Steps}
use Rattle.question.specs.declared.steps.Step.{Step}

-- the bytes that were read
unfoldable pub text : Question → List ℕ
text q = take q.len q.bytes

-- the steps that were gathered
abbrev pub taken : Steps → List Step
taken t = take t.len t.list
