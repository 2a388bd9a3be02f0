use Rattle.std.proofs.Common.{take}
use Rattle.writer.specs.Pens.{Wrote}
use Rattle.writer.specs.Writing.{lines_bytes}
use Rattle.writer.proofs.pen.Pen.put_lines.Given as goal

abbrev pub invariant-loop-line : goal.invariant-loop-line
invariant-loop-line l = Wrote l.initial.self l.self (lines_bytes (take l.line-index l.lines))
