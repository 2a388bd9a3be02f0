-- What the law is proved from: a proper box, at most 64 lines, and a memory that begins with their records.
use Rattle.std.proofs.Common.{◌≤◌, List, length}
use Rattle.boxes.specs.Boxes.{Box, Proper}
use Rattle.kind.specs.Model.{Model}
use Rattle.line.specs.declared.line.Line.{Line}
use Rattle.runs.specs.Law.{sheet_of}
use Rattle.sheet.specs.Calls.{Recorded}
use Rattle.slope.specs.declared.record.Record.{Record}

pub record Good {K : Type 0} (m : Model K) (b : Box) (ls : List Line) (memory : List (Record K)) : Type 0 where
  pub proper : Proper b
  pub few : length ls ≤ 64
  pub ruled : Recorded m (sheet_of b ls) memory
