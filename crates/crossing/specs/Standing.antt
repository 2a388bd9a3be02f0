-- What the windows of a formula have in common: the records of its constants.
use Rattle.std.specs.Prelude.{◌≡◌, ℕ, List, ℤ, Some, Ok}
use Rattle.std.specs.List.{slice_get}
use Rattle.kind.specs.Model.{Model}
use Rattle.line.specs.declared.line.Line.{Line}
use Rattle.line.specs.declared.line.Line.TheVariants.{Constant}
use Rattle.rule.specs.Rule.{constant}
use Rattle.slope.specs.declared.record.Record.{Record}

module _ {K : Type 0} (m : Model K) where
  -- in place n stands the record of the constant k
  abbrev pub Stands : List (Record K) → ℕ → ℤ → Type 0
  Stands w n k = (r : Record K) × (Ok r ≡ constant m k n) × (slice_get w n ≡ Some r)

  -- each constant of the lines has its record in its place
  abbrev pub Standing : List Line → List (Record K) → Type 0
  Standing ls w = (n : ℕ) (k : ℤ) → slice_get ls n ≡ Some (Constant k) → Stands w n k
