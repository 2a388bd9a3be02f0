-- A curve of what stands still stands still.
use Rattle.std.proofs.Common.{◌≡◌, true, Some, Option}
use Rattle.kind.specs.Model.{Model, Rules}
use Rattle.slope.proofs.Zeros.{is_still_is}
use Rattle.slope.specs.Curves.{lift_slopes}
use Rattle.slope.specs.Rules.{is_still}
use Rattle.slope.specs.declared.record.Shape.{Shape}
use Rattle.slope.specs.declared.record.Slopes.{Slopes}
use Rattle.span.proofs.Zero.{product_zero, sum_zero}

module _ {K : Type 0} (m : Model K) (rules : Rules m) (f : Shape K) (o : Option (Slopes K)) (s : Slopes K) (es : o ≡ Some s) where
  pub lift_still : is_still m s ≡ true → lift_slopes m f o ≡ Some s
  lift_still h = rw (es, is_still_is m rules s h) (simp (product_zero m rules, sum_zero m rules))
