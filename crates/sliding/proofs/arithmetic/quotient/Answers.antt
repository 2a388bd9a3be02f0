use Rattle.std.proofs.Common.{arith, ◌∙◌, neg_ℤ, nat_abs}
use borrow.Author.Differences.{ints}
use Rattle.sliding.proofs.Ops.{div_neg, div_pos}
use Rattle.sliding.proofs.arithmetic.quotient.Goals as goal

pub returns-then-b-lt0 : goal.returns-then-b-lt0
returns-then-b-lt0 c =
    let s = rw (c.opposite.ensures, c.opposite-then-b-lt0.ensures) at c.over.ensures in let p = c.args.b.on_grid.0 in
    c.below.ensures ∙ div_neg c.args.a c.args.b _ (nat_abs (neg_ℤ c.args.b.units)) _ _ _ (omega (arith, ints)) (omega (arith, ints)) s

pub returns : goal.returns
returns c = let p = c.args.b.on_grid.0 in
    c.below-2.ensures ∙ div_pos c.args.a c.args.b _ _ _ _ _ (omega (arith, ints)) (omega (arith, ints)) c.over-2.ensures
