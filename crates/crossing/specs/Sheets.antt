-- What boxes and sheets in memory mean.
use Rattle.std.specs.Prelude.{cond, nat_lt, map, take, List, Ok, Err, Result}
use Rattle.boxes.specs.Boxes.{Box, opened}
use Rattle.crossing.specs.Lines.{line_of}
use Rattle.crossing.specs.declared.memory.CBox.{CBox}
use Rattle.crossing.specs.declared.memory.CSheet.{CSheet}
use Rattle.fault.specs.Refusals.{refused}
use Rattle.fault.specs.declared.fault.Cause.TheVariants.{Channels}
use Rattle.fault.specs.declared.fault.Fault.{Fault}
use Rattle.line.specs.declared.line.Line.{Line}
use Rattle.sheet.specs.Contents.{Contents, blank}

-- the box that open makes of it
abbrev pub box_in : CBox → Result Box Fault
box_in b = cond (nat_lt 8 b.channels) (refused Channels 0) (opened (take b.channels b.lower) (take b.channels b.upper) b.swept b.centre)

abbrev pub lines_in : CSheet → List Line
lines_in s = map line_of (take s.held s.lines)

-- what is no sheet means a blank one
abbrev pub sheet_over : CSheet → Result Box Fault → Contents
sheet_over s (Ok b) = cond (nat_lt 64 s.held) blank (record { over = b; lines = lines_in s })
sheet_over s (Err e) = blank

abbrev pub sheet_of : CSheet → Contents
sheet_of s = sheet_over s (box_in s.over)
