-- The square keeps the law of curves.
use Rattle.std.proofs.Math.Path.{subst}
use Rattle.std.specs.Prelude.{Some, None, Option}
use Rattle.kind.specs.Model.{Model, Rules}
use Rattle.slope.proofs.Chains.{step}
use Rattle.slope.specs.Curves.{Bends, square_shape}
use Rattle.slope.specs.declared.record.Shape.{Shape}
use Rattle.span.proofs.Enclosing.{one_in, square_in, sum_in}
use Rattle.span.proofs.Nested.{square_nested}
use Rattle.span.specs.Narrowest.{interval}
use Rattle.span.specs.declared.span.Span.{Span}
use Rattle.truth.proofs.Square.{square_law}
use Rattle.truth.specs.Curve.{CurveLaw, square_F}
use Rattle.span.specs.Spans as spans

module _ {K : Type 0} (m : Model K) (rules : Rules m) where
  abbrev L? : Span K → Span K → Option (Shape K) → Type 0
  L? u u0 None = Unit {0}
  L? u u0 (Some k) = CurveLaw square_F (interval m u) (interval m u0) (interval m k.e) (interval m k.g) (interval m k.k)

  shape_law : (u u0 : Span K) → L? u u0 (square_shape m u u0)
  shape_law u u0 = step (L? u u0) _ _ tt (λ e ee. step (L? u u0) _ _ tt (λ g eg.
      square_law (interval m u) (interval m u0) (interval m e) (interval m g) (interval m (spans.one_span m))
      (λ a b x y. sum_in m rules _ _ e a b ee x y) (λ a b x y. sum_in m rules _ _ g a b eg x y) (one_in m rules)))

  pub square_bends : Bends m square_F (spans.square m) (square_shape m)
  unfolding square_F
  square_bends = record {
    values = λ s t x e h. square_in m rules s t x e h;
    nested = λ s s' w hs hs' p e. square_nested m rules s s' w hs hs' p e;
    law = λ u u0 k ek. subst (L? u u0) ek (shape_law u u0);
  }
