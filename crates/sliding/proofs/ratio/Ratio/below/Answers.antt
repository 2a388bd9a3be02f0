use Rattle.std.proofs.Common.{◌∙◌, arith}
use borrow.Author.Differences.{ints}
use Rattle.sliding.proofs.Rounds.{ratio_beyond, ratio_within}
use Rattle.sliding.proofs.ratio.Ratio.below.Goals as goal

pub returns-then-from : goal.returns-then-from
returns-then-from c =
    let l = rw c.from-3.ensures at c.if-from.true in let e = c.unsigned_abs.ensures.value in let b = c.args.self.held.bound in
    ratio_beyond c.args.self.n c.args.self.d c.args.self.t _ c.args.self.held c.from-2.ensures (omega (arith, ints))

pub returns : goal.returns
returns c =
    let l = rw c.from-3.ensures at c.if-from.false in let e = c.unsigned_abs.ensures.value in let b = c.args.self.held.bound in
    c.below.ensures ∙ ratio_within c.args.self.n c.args.self.d c.args.self.t _ c.args.self.held c.from-2.ensures (omega (arith, ints)) _ c.floor.ensures
