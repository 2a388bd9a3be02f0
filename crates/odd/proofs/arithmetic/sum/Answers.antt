use Rattle.std.proofs.Common.{◌+ℤ◌, ◌∙◌, arith}
use borrow.Author.Differences.{ints}
use Rattle.odd.specs.Grid.{whole}
use Rattle.odd.proofs.Computed.{at_sign, small, sum_is_above, sum_is_below}
use Rattle.odd.proofs.arithmetic.sum.Goals as goal

pub returns : goal.returns
returns c =
    let p = small c.args.a in
    let q = small c.args.b in
    let e = at_sign _ _ (whole c.args.a +ℤ whole c.args.b) c.marked.ensures (omega (arith, ints)) in
    record { below = e ∙ sum_is_below _ _; above = e ∙ sum_is_above _ _ }
