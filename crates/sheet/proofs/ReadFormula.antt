-- Reading a formula, case by case.
-- the count of lines is at most 64
use Rattle.std.proofs.Common.{◌≡◌, ℕ, ◌<◌, ◌≤◌, List, [], length}
use Rattle.std.proofs.lemmas.Bool.{le-ltb, lt-ltb}
use Rattle.fault.specs.Refusals.{refused}
use Rattle.fault.specs.declared.fault.Cause.TheVariants.{NotEmpty}
use Rattle.kind.specs.Model.{Model}
use Rattle.slope.specs.declared.record.Record.{Record}
use Rattle.sheet.specs.Contents.{Contents}
use Rattle.sheet.specs.Reading.{Outcome, ends, read_formula, read_onto}

-- reading onto a sheet
module _ {K : Type 0} (m : Model K) (s : Contents) (w : List (Record K)) (bytes : List ℕ) where
  abbrev pub onto : Outcome K
  onto = read_onto m s (length w) bytes

  pub not_empty : 64 ≤ length w → 0 < length s.lines → onto ≡ ends (refused NotEmpty 0) [] []
  not_empty h k = rw (le-ltb (length w) 64 h, lt-ltb 0 (length s.lines) k)

  pub empty : 64 ≤ length w → length s.lines ≡ 0 → onto ≡ read_formula m s.over bytes
  empty h k = rw (le-ltb (length w) 64 h, k)
