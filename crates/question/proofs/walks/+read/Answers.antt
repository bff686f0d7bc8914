-- What `read` leaves to show.
use Rattle.std.proofs.Common.{refl, rules}
use Rattle.question.specs.Fronts.{Stuck}
use Rattle.question.proofs.Operands.{head, tail}
use Rattle.question.proofs.Scan.{failed, Read, signed, opens, opens_sign, one_last, two_last, three_second, three_last, field_reads, number_reads}
use Rattle.question.proofs.walks.+read.Goals as goal

pub returns-in_err-read-in-63-2 : goal.returns-in_err-read-in-63-2
returns-in_err-read-in-63-2 t c =
    let bs = c.args.bytes.now in
    let left = c.in_err-read-in-63-2.field-0.0 in
    failed c.args.bytes.now c.from_residual-in_err-read-in-63-2.result c.from_residual-in_err-read-in-63-2.ensures.1 (opens (λ x. Stuck x left) bs 63 c.in-63.is refl refl (three_second (tail bs) c.in_ok-read-in-63.field-0.now c.in_ok-read-in-63.ensures c.in_err-read-in-63-2.ensures))

pub returns-in-len1-up-rest : goal.returns-in-len1-up-rest
returns-in-len1-up-rest t c = field_reads c.args.bytes.now c.in-f.is (search rules) c.if-k-le3.true

pub returns-in-len2-up : goal.returns-in-len2-up
returns-in-len2-up t c = number_reads c.args.bytes.now c.in-c.is (search rules)

pub returns-in-33 : goal.returns-in-33
returns-in-33 t c =
    let bs = c.args.bytes.now in
    opens (λ x. Read x c.read.result) bs 33 c.in-33.is refl refl (one_last (tail bs) c.read.result c.read.ensures)

pub returns-in_ok-read-in-63-2 : goal.returns-in_ok-read-in-63-2
returns-in_ok-read-in-63-2 t c =
    let bs = c.args.bytes.now in
    opens (λ x. Read x c.read-in-63-3.result) bs 63 c.in-63.is refl refl (three_last (tail bs) c.in_ok-read-in-63.field-0.now c.in_ok-read-in-63-2.field-0.now c.read-in-63-3.result c.in_ok-read-in-63.ensures c.in_ok-read-in-63-2.ensures c.read-in-63-3.ensures)

pub returns-in_ok-read-in_default-command : goal.returns-in_ok-read-in_default-command
returns-in_ok-read-in_default-command t c =
    let bs = c.args.bytes.now in
    let s = signed (head c.args.bytes.now) c.takes_two.ensures c.if-takes_two.true in
    opens_sign (λ x. Read x c.read-in_default-command-2.result) bs s (two_last s.op (tail bs) c.in_ok-read-in_default-command.field-0.now c.read-in_default-command-2.result c.in_ok-read-in_default-command.ensures c.read-in_default-command-2.ensures)
