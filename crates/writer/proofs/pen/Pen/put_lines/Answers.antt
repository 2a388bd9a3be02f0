use Rattle.std.proofs.Common.{◌+◌, sym, subst, arith}
use Rattle.line.specs.declared.line.Line.TheVariants.{Channel}
use Rattle.writer.proofs.LinesBytes.{lines_front, lines_more}
use Rattle.writer.proofs.Pens.{fits_then, wrote_then}
use Rattle.writer.specs.Pens.{Fits, Wrote}
use Rattle.writer.proofs.pen.Pen.put_lines.Goals as goal

pub put_line-requires : goal.put_line-requires
put_line-requires c =
    let e = lines_more c.args.lines.now c.loop-line.line-index (Channel 0) c.loop-line-test.true in
    let n = lines_front c.args.lines.now (c.loop-line.line-index + 1) in
    fits_then c.args.self.now c.loop-line.self _ _ (subst (Fits c.args.self.now) e (omega (arith, c.requires))) c.loop-line.invariant

pub loop-line-preserved : goal.loop-line-preserved
loop-line-preserved c =
    let e = lines_more c.args.lines.now c.loop-line.line-index (Channel 0) c.loop-line-test.true in
    let n = lines_front c.args.lines.now (c.loop-line.line-index + 1) in
    subst (Wrote c.args.self.now c.put_line.new.self) (sym e)
    (wrote_then c.args.self.now c.loop-line.self c.put_line.new.self _ _ (subst (Fits c.args.self.now) e (omega (arith, c.requires))) c.loop-line.invariant c.put_line.ensures)
