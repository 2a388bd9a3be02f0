-- A line's record, made by the records before it and put into its place among them.
use Rattle.std.specs.Prelude.{ℕ, cond, List, length, take, Ok, Err, Result, nat_lt, slice_set}
use Rattle.boxes.specs.Boxes.{Box}
use Rattle.fault.specs.Refusals.{refused}
use Rattle.fault.specs.declared.fault.Cause.TheVariants.{Lines}
use Rattle.fault.specs.declared.fault.Fault.{Fault}
use Rattle.kind.specs.Model.{Model}
use Rattle.line.specs.declared.line.Line.{Line}
use Rattle.slope.specs.declared.record.Record.{Record}
use Rattle.rule.specs.Rule.{rule}

-- whether there is one
abbrev pub accepts : {X : Type 0} → Result X Fault → Result (Unit {0}) Fault
accepts (Ok x) = Ok tt
accepts (Err e) = Err e

-- in place n, if there is one
abbrev pub stored : {R : Type 0} → List R → ℕ → Result R Fault → List R
stored w n (Ok r) = slice_set w n r
stored w n (Err e) = w

-- the record of line n by those before it, where line n has a place
abbrev pub placed : {K : Type 0} → Model K → Box → List (Record K) → ℕ → Line → Result (Record K) Fault
placed m b w n line = cond (nat_lt n (length w)) (rule m b (take n w) line) (refused Lines 0)
