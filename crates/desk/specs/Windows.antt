-- What a station answers for a window.
use Rattle.std.specs.Prelude.{◌≡◌, ℕ, List, ℤ, Result}
use Rattle.fixed.specs.Grid.{fixed_model}
use Rattle.report.specs.declared.answer.Report.{Report}
use Rattle.sliding.specs.Grid.{sliding_model}
use Rattle.window.specs.Windows.{last_over}
use Rattle.window.specs.declared.refused.Refused.{Refused}
use Rattle.desk.specs.declared.station.Station.{Station}
use Rattle.desk.specs.declared.station.Station.TheVariants as stations

-- the last line of a formula over the box of these ends, in the kind of its desk and with the lines that are lent there
abbrev pub window_of : Station → List ℤ → List ℤ → List ℕ → Result Report Refused
window_of (stations.Fixed d) lower upper bytes = last_over fixed_model lower upper d.lent bytes
window_of (stations.Sliding d) lower upper bytes = last_over sliding_model lower upper d.lent bytes

-- the kind stays, and how many working lines are lent
abbrev pub Stays : Station → Station → Type 0
Stays (stations.Fixed d) (stations.Fixed d') = d'.lent ≡ d.lent
Stays (stations.Sliding d) (stations.Sliding d') = d'.lent ≡ d.lent
Stays s s' = ⊥
