use Rattle.std.proofs.Common.{sym, subst, arith}
use borrow.Author.Differences.{ints}
use Rattle.sliding.specs.Form.{OnGrid}
use Rattle.sliding.specs.Slides.{on_shifted}
use Rattle.sliding.proofs.Scales.{plain_part}
use Rattle.sliding.proofs.Stored.{stored_some}
use Rattle.sliding.proofs.mark.Sliding.of_parts.Goals as goal

pub invariant_of-result : goal.invariant_of-result
invariant_of-result c =
    let e = c.unsigned_abs-size.ensures.value in
    record {
      on_grid = subst OnGrid (sym (plain_part c.from.result c.args.mantissa c.args.scale c.from.ensures (omega (arith, ints))
          (let l = c.if-scale-gt32.false in omega arith)))
          (on_shifted c.args.mantissa c.args.scale (omega (arith, ints)) c.if-scale-gt32.false);
    }

pub returns-clause-value : goal.returns-clause-value
returns-clause-value c =
    let e = c.unsigned_abs-size.ensures.value in
    stored_some _ c.args.mantissa c.args.scale
    (omega (arith, ints), c.if-scale-gt32.false, λ h. omega (arith, ints))
    (plain_part c.from.result c.args.mantissa c.args.scale c.from.ensures (omega (arith, ints)) (let l = c.if-scale-gt32.false in omega arith))
