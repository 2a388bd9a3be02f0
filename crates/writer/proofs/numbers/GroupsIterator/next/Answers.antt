use Rattle.std.proofs.Common.{length, ap, arith}
use Rattle.writer.proofs.Groups.{first_byte, last_byte}
use Rattle.writer.proofs.numbers.GroupsIterator.next.Goals as goal

pub returns-then-n-lt128 : goal.returns-then-n-lt128
returns-then-n-lt128 c =
    let e = last_byte _ _ c.in_ok-n.was c.if-n-lt128.true in
    let n = ap length e in
    record { steps = e; goes = record { on = λ _. (tt, tt, omega arith); keeps = tt; rests = λ _. tt } }

pub returns : goal.returns
returns c =
    let e = first_byte _ _ c.in_ok-n.was c.if-n-lt128.false (omega arith) in
    let n = ap length e in
    record { steps = e; goes = record { on = λ _. (tt, tt, omega arith); keeps = tt; rests = λ _. tt } }
