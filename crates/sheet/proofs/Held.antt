-- The held lines of a sheet.
use Rattle.std.proofs.Common.{◌≡◌, ◌≤◌, Bool, true, false, cond, nat_lt, List, length, Ok, Result, sym, refl, arith, length-take-le}
use Rattle.std.proofs.lemmas.Bool.{ltb-false}
use Rattle.fault.proofs.Steps.{err_ok}
use Rattle.fault.specs.Refusals.{refused}
use Rattle.fault.specs.declared.fault.Cause.TheVariants.{Lines}
use Rattle.fault.specs.declared.fault.Fault.{Fault}
use Rattle.sheet.specs.Calls.{enough}
use Rattle.sheet.specs.Contents.{contents}
use Rattle.sheet.specs.declared.sheet.Sheet.{Sheet}

module _ (s : Sheet) where
  pub held_is : length (contents s).lines ≡ s.held
  held_is = length-take-le s.held s.lines (let f = s.few in let w = s.whole in omega arith)

-- enough lines are lent
pub lent_enough : {R : Type 0} (w : List R) → Ok tt ≡ enough (length w) → 64 ≤ length w
lent_enough w e = go (nat_lt (length w) 64) refl e
  where
    go : (b : Bool) → nat_lt (length w) 64 ≡ b → ◌≡◌ {A = Result (Unit {0}) Fault} (Ok tt) (cond b (refused Lines 0) (Ok tt)) → 64 ≤ length w
    go true q e = absurd (err_ok (sym e))
    go false q e = ltb-false _ _ q
