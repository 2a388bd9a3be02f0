-- What a call finds and leaves in memory: the sheet, and of the records the first 64.
use Rattle.std.specs.Prelude.{◌≡◌, ℕ, None, List, length, map, take, drop}
use Rattle.crossing.specs.Records.{record_of}
use Rattle.crossing.specs.Sheets.{sheet_of}
use Rattle.crossing.specs.declared.memory.CMark.{CMark}
use Rattle.crossing.specs.declared.memory.CRecord.{CRecord}
use Rattle.crossing.specs.declared.memory.CSheet.{CSheet}
use Rattle.kind.specs.Model.{Model}
use Rattle.runs.specs.Runs.{State, state}
use Rattle.slope.specs.Rules.{rec}
use Rattle.slope.specs.declared.record.Record.{Record}
use Rattle.span.specs.Spans.{zero_span}

-- what a room has before it is used: the point 0, and no slopes
abbrev pub blank_record : {K : Type 0} → Model K → Record K
blank_record m = rec (zero_span m) (zero_span m) None

module _ {K : Type 0} (mark_of : CMark → K) where
  abbrev pub records_in : List CRecord → List (Record K)
  records_in memory = map (record_of mark_of) (take 64 memory)

  abbrev pub in_memory : CSheet → List CRecord → List CRecord → List ℕ → State K
  in_memory sheet working spare out = state (sheet_of sheet) (records_in working) (records_in spare) out

-- records beyond the first 64 are not touched, and memory keeps its length
pub record Beyond (before after : List CRecord) : Type 0 where
  pub long : length after ≡ length before
  pub rest : drop 64 after ≡ drop 64 before
