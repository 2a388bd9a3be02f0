-- The lifting rule is true for every curve with the law.
use Rattle.std.proofs.Common.{◌≡◌, ℕ, Some, Option, Result, sym, subst}
use Rattle.exact.specs.Fraction.{Frac, ◌*F◌}
use Rattle.exact.specs.Optional.{◌>>=◌}
use Rattle.fault.specs.declared.fault.Fault.{Fault}
use Rattle.kind.specs.Model.{Model, Rules}
use Rattle.slope.proofs.Chains.{inner, ordered_u, ordered_u0, sloped, slopes_of, step, told}
use Rattle.slope.specs.Curves.{Bends, Curved, lift, lift_slopes}
use Rattle.slope.specs.Rules.{given}
use Rattle.slope.specs.Truth.{Sloped?}
use Rattle.slope.specs.declared.record.Record.{Record}
use Rattle.slope.specs.declared.record.Shape.{Shape}
use Rattle.slope.specs.declared.record.Slopes.{Slopes}
use Rattle.span.proofs.Enclosing.{product_in, sum_in}
use Rattle.span.specs.Narrowest.{Held}
use Rattle.span.specs.declared.span.Span.{Span}
use Rattle.truth.proofs.Slopes.{curve_slope}
use Rattle.span.specs.Spans as spans

module _ {K : Type 0} (m : Model K) (rules : Rules m) (f : Frac → Frac) (image : Span K → Option (Span K)) (bend : Span K → Span K → Option (Shape K)) (bends : Bends m f image bend) (place : ℕ) (p : Record K) where
  pub lift_kept : Curved m f (image p.u) p (given place (lift m image bend p))
  lift_kept h u u0 tp = told m place (image p.u) (image p.u0) (λ _. bend p.u p.u0 >>= (λ k. lift_slopes m k p.slopes)) h (f u) (f u0)
      (λ w e. bends.nested _ _ w (ordered_u m p h u u0 tp) (ordered_u0 m p h u u0 tp) tp.nested e)
      (λ w e. bends.values _ w u e tp.here) (λ w e. bends.values _ w u0 e tp.centre) (λ w w0 e e0. slopes)
    where
      P : Option (Slopes K) → Type 0
      P = Sloped? m h (f u) (f u0)

      times : {s t : Span K} {a b : Frac} (w : Span K) → spans.product m s t ≡ Some w → Held m s a → Held m t b → Held m w (a *F b)
      times w e i j = product_in m rules _ _ w _ _ e i j

      slopes : P (bend p.u p.u0 >>= (λ k. lift_slopes m k p.slopes))
      slopes =
          step P _ _ tt (λ k ek. step P _ _ tt (λ s es. step P _ _ tt (λ a ea. step P _ _ tt (λ b eb.
          step P _ _ tt (λ c1 ec1. step P _ _ tt (λ c2 ec2. step P _ _ tt (λ c3 ec3. step P _ _ tt (λ c ec.
          let S = sloped m p h u u0 tp s es in
          let x = bends.law _ _ k ek u u0 tp.here tp.centre (inner m p h u u0 tp) in
          slopes_of m a b c (times a ea x.g_in S.a_in) (times b eb x.e_in S.b_in)
          (sum_in m rules _ _ c _ _ ec (times c1 ec1 x.g_in S.c_in) (times c3 ec3 (times c2 ec2 x.k_in S.a_in) S.b_in))
          (curve_slope x.e x.g x.k x.rise x.bend S.slope)))))))))

  -- what equals a lift has its law
  pub lift_law : (r : Result (Record K) Fault) → r ≡ given place (lift m image bend p) → Curved m f (image p.u) p r
  lift_law r e = subst (Curved m f (image p.u) p) (sym e) lift_kept
