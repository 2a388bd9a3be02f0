-- What a sheet holds.
use Rattle.std.specs.Prelude.{List, [], take}
use Rattle.boxes.specs.Boxes.{Box, blank_box}
use Rattle.boxes.specs.Stored.{box_of}
use Rattle.line.specs.declared.line.Line.{Line}
use Rattle.sheet.specs.declared.sheet.Sheet.{Sheet}

pub record Contents : Type 0 where
  pub over : Box
  pub lines : List Line

abbrev pub contents : Sheet → Contents
contents s = record { over = box_of s.over; lines = take s.held s.lines }

abbrev pub blank : Contents
blank = record { over = blank_box; lines = [] }
