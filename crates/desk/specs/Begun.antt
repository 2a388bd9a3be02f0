-- How a desk begins.
use Rattle.std.specs.Prelude.{◌≡◌, ℕ, None, List, replicate}
use Rattle.kind.specs.Model.{Model}
use Rattle.script.specs.declared.call.KindName.{KindName}
use Rattle.script.specs.declared.call.KindName.TheVariants as kinds
use Rattle.sheet.specs.Contents.{blank, contents}
use Rattle.sheet.specs.declared.sheet.Sheet.{Sheet}
use Rattle.slope.specs.Rules.{rec}
use Rattle.slope.specs.declared.record.Record.{Record}
use Rattle.span.specs.Spans.{zero_span}
use Rattle.desk.specs.declared.station.Station.{Station}
use Rattle.desk.specs.declared.station.Station.TheVariants as stations

-- the sheet is blank, and 64 lines of each memory are lent
pub record Begins (sheet : Sheet) (lent spare : ℕ) : Type 0 where
  pub blank_sheet : contents sheet ≡ blank
  pub working_lent : lent ≡ 64
  pub spare_lent : spare ≡ 64

-- a memory whose lines have U = U0 = [0] and no slopes
abbrev pub blank_memory : {K : Type 0} → Model K → List (Record K)
blank_memory m = replicate 128 (rec (zero_span m) (zero_span m) None)

-- a desk of this kind begins
abbrev pub BeginsAs : KindName → Station → Type 0
BeginsAs kinds.Fixed (stations.Fixed d) = Begins d.sheet d.lent d.lent_spare
BeginsAs kinds.Sliding (stations.Sliding d) = Begins d.sheet d.lent d.lent_spare
BeginsAs k s = ⊥
