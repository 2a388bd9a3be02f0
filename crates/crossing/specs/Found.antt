-- Inner words: what a call finds in memory.
use Rattle.std.specs.Prelude.{◌≡◌, ℕ, ◌<◌, ◌≤◌, List, Ok}
use Rattle.std.specs.List.{slice_get}
use Rattle.crossing.specs.Memory.{records_in}
use Rattle.crossing.specs.declared.memory.CMark.{CMark}
use Rattle.crossing.specs.Sheets.{box_in, sheet_of}
use Rattle.crossing.specs.declared.memory.CRecord.{CRecord}
use Rattle.crossing.specs.declared.memory.CSheet.{CSheet}
use Rattle.slope.specs.declared.record.Record.{Record}

-- among these is the record of line l in memory, if so many are lent
abbrev pub Brought : {K : Type 0} → (CMark → K) → List CRecord → List (Record K) → ℕ → Type 0
Brought mark_of memory rs l = l < 64 → slice_get rs l ≡ slice_get (records_in mark_of memory) l

-- memory that is a sheet
pub record Whole (s : CSheet) : Type 0 where
  pub over : box_in s.over ≡ Ok (sheet_of s).over
  pub few : s.held ≤ 64
