-- What a report promises of the exact values of its line.
use Rattle.std.specs.Prelude.{◌≡◌, ℤ, ◌+ℤ◌, ◌-ℤ◌, Some}
use Rattle.std.specs.List.{slice_get}
use Rattle.boxes.specs.Boxes.{Box}
use Rattle.exact.specs.Fraction.{Frac, ◌-F◌, ◌≤F◌}
use Rattle.kind.specs.Model.{Model, count}
use Rattle.slope.specs.Truth.{True}
use Rattle.slope.specs.declared.record.Record.{Record}
use Rattle.report.specs.declared.answer.Report.{Report}

-- u, counted in 1/65,536, is at most the margin away from the middle
pub record Near (r : Report) (u : Frac) : Type 0 where
  pub low : count (r.middle -ℤ r.margin) ≤F u
  pub high : u ≤F count (r.middle +ℤ r.margin)

-- x lies in the range of the swept channel
abbrev pub Sweeps : Box → Frac → Type 0
Sweeps b x = (l u : ℤ) → slice_get b.lower b.swept ≡ Some l → slice_get b.upper b.swept ≡ Some u → (count l ≤F x) × (x ≤F count u)

module _ {K : Type 0} (m : Model K) where
  -- where a record tells the truth, what is said of its range holds of the exact value u
  abbrev pub Covers : Box → Record K → (Frac → Type 0) → Type 0
  Covers b r Said = (x u u0 : Frac) → Sweeps b x → True m r (x -F count b.centre) u u0 → Said u
