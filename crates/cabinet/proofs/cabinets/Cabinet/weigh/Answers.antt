use Rattle.std.proofs.Common.{[], rules}
use Rattle.question.proofs.Questions.{read_as, answers_small}
use Rattle.history.proofs.Checks.{read_size}
use Rattle.cabinet.specs.Memory.{state, meant}
use Rattle.cabinet.proofs.Weighed.{has_room, ready}
use Rattle.cabinet.proofs.cabinets.Cabinet.weigh.Goals as goal

pub returns-clause-ready : goal.returns-clause-ready
returns-clause-ready g c =
    let q = c.args.question.now in
    let f = meant g.B.Belief.means c.args.folder.now in
    let read = read_as q c.in_ok-read.ensures.gives in
    let s = state c.args.self.now [] c.args.audit.now in
    let room = has_room s q f (read_size q read.expression read.is) c.if-short.ensures in
    ready s q f c.answer-answer.result _ c.judge.ensures (search (rules, answers_small)) room
