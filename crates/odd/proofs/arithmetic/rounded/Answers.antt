use Rattle.std.proofs.Common.{pos, ◌∙◌, arith}
use borrow.Author.Differences.{ints}
use Rattle.std.specs.Int.{int_div_euclid}
use Rattle.kind.proofs.Plain.{plain_floor}
use Rattle.odd.proofs.Computed.{at_sign, count_beyond, count_inside}
use Rattle.odd.proofs.arithmetic.rounded.Goals as goal

pub returns-then-unsigned_abs-gt65536 : goal.returns-then-unsigned_abs-gt65536
returns-then-unsigned_abs-gt65536 c = count_beyond c.args.n (let e = c.unsigned_abs.ensures.value in omega (arith, ints))

pub returns : goal.returns
returns c =
    let e = plain_floor c.args.n _ 65536 c.ranges.n (omega arith) c.div_euclid.ensures in
    at_sign _ _ (int_div_euclid c.args.n (pos 65536)) c.marked.ensures (omega (arith, ints)) ∙ count_inside c.args.n (omega (arith, ints)) (omega (arith, ints))
