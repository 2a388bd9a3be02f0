use Rattle.std.proofs.Common.{arith}
use Rattle.sliding.proofs.Stored.{is_parts, parts_short}
use Rattle.sliding.proofs.mark.Sliding.parts.Goals as goal

pub overflow_shr-result : goal.overflow_shr-result
overflow_shr-result c = let l = parts_short c.args.self _ c.scale_of-scale.ensures in omega arith

pub returns : goal.returns
returns c = is_parts c.args.self _ c.scale_of-scale.ensures
