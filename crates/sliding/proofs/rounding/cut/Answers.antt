use Rattle.std.proofs.Common.{arith, refl}
use Rattle.sliding.proofs.Rounds.{is_below, is_mark, mask_there, scale_there}
use Rattle.sliding.proofs.rounding.cut.Goals as goal

pub bounds-scale_of : goal.bounds-scale_of
bounds-scale_of c = mask_there c.args.k _ c.ranges.k c.requires c.scale_of.ensures

pub invariant_of-result : goal.invariant_of-result
invariant_of-result c = record { on_grid = is_mark c.args.k _ c.ranges.k c.requires c.scale_of.ensures }

pub returns : goal.returns
returns c = is_below c.args.k _ c.ranges.k c.requires c.scale_of.ensures _ refl

pub overflow_sub-result : goal.overflow_sub-result
overflow_sub-result c = let l = scale_there c.args.k _ c.ranges.k c.requires c.scale_of.ensures in omega arith
