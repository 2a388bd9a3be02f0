-- The product of true records is true.
use Rattle.std.proofs.Common.{◌≡◌, ℕ, Some, Option, Result, sym, subst}
use Rattle.exact.specs.Fraction.{Frac, ◌*F◌, ◌+F◌}
use Rattle.fault.specs.declared.fault.Fault.{Fault}
use Rattle.kind.specs.Model.{Model, Rules}
use Rattle.slope.proofs.Chains.{ordered_u, ordered_u0, sloped, slopes_of, step, told}
use Rattle.slope.specs.Rules.{given, product, product_slopes}
use Rattle.slope.specs.Truth.{Kept, Sloped?}
use Rattle.slope.specs.declared.record.Record.{Record}
use Rattle.slope.specs.declared.record.Slopes.{Slopes}
use Rattle.span.proofs.Enclosing.{product_in, sum_in}
use Rattle.span.proofs.Nested.{product_nested}
use Rattle.span.specs.Narrowest.{Held}
use Rattle.span.specs.declared.span.Span.{Span}
use Rattle.truth.proofs.Slopes.{product_slope}
use Rattle.span.specs.Spans as spans

module _ {K : Type 0} (m : Model K) (rules : Rules m) (place : ℕ) (p q : Record K) where
  pub product_kept : Kept m ◌*F◌ (spans.product m p.u q.u) p q (given place (product m p q))
  product_kept h u u0 v v0 tp tq = told m place (spans.product m p.u q.u) (spans.product m p.u0 q.u0) (λ _. product_slopes m p q) h (u *F v) (u0 *F v0)
      (λ w e. product_nested m rules _ _ _ _ w (ordered_u m p h u u0 tp) (ordered_u m q h v v0 tq) (ordered_u0 m p h u u0 tp) (ordered_u0 m q h v v0 tq) tp.nested tq.nested e)
      (λ w e. times w e tp.here tq.here) (λ w e. times w e tp.centre tq.centre) (λ w w0 e e0. slopes)
    where
      P : Option (Slopes K) → Type 0
      P = Sloped? m h (u *F v) (u0 *F v0)

      times : {s t : Span K} {a b : Frac} (w : Span K) → spans.product m s t ≡ Some w → Held m s a → Held m t b → Held m w (a *F b)
      times w e i j = product_in m rules _ _ w _ _ e i j

      plus : {s t : Span K} {a b : Frac} (w : Span K) → spans.sum m s t ≡ Some w → Held m s a → Held m t b → Held m w (a +F b)
      plus w e i j = sum_in m rules _ _ w _ _ e i j

      slopes : P (product_slopes m p q)
      slopes =
          step P _ _ tt (λ s es. step P _ _ tt (λ t et.
          step P _ _ tt (λ a1 ea1. step P _ _ tt (λ a2 ea2. step P _ _ tt (λ a ea.
          step P _ _ tt (λ b1 eb1. step P _ _ tt (λ b2 eb2. step P _ _ tt (λ b eb.
          step P _ _ tt (λ c1 ec1. step P _ _ tt (λ c2 ec2. step P _ _ tt (λ c12 ec12. step P _ _ tt (λ c3 ec3. step P _ _ tt (λ c ec.
          let S = sloped m p h u u0 tp s es in let T = sloped m q h v v0 tq t et in
          slopes_of m a b c
          (plus a ea (times a1 ea1 S.a_in tq.centre) (times a2 ea2 tp.here T.a_in))
          (plus b eb (times b1 eb1 S.b_in tq.centre) (times b2 eb2 tp.centre T.b_in))
          (plus c ec (plus c12 ec12 (times c1 ec1 S.c_in tq.centre) (times c2 ec2 tp.here T.c_in)) (times c3 ec3 S.a_in T.b_in))
          (product_slope S.slope T.slope))))))))))))))

  -- what equals a product has its law
  pub product_law : (r : Result (Record K) Fault) → r ≡ given place (product m p q) → Kept m ◌*F◌ (spans.product m p.u q.u) p q r
  product_law r e = subst (Kept m ◌*F◌ (spans.product m p.u q.u) p q) (sym e) product_kept
