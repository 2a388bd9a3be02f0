-- The quotient of true records is true.
use Rattle.std.proofs.Common.{◌≡◌, ℕ, Bool, true, false, cond, ◌&&◌, T, Some, None, Err, Option, Result, sym, refl, subst}
use Rattle.exact.proofs.Division.{divided}
use Rattle.exact.specs.Fraction.{Frac, ◌*F◌, ◌-F◌, ◌≈◌, inv_F}
use Rattle.fault.specs.declared.fault.Cause.TheVariants.{Divisor}
use Rattle.fault.specs.declared.fault.Fault.{Fault}
use Rattle.kind.specs.Model.{Model, Rules}
use Rattle.slope.proofs.Chains.{ordered_u, ordered_u0, sloped, slopes_of, step, told}
use Rattle.slope.specs.Rules.{given, quotient, quotient_slopes}
use Rattle.slope.specs.Truth.{Divided, Sloped?, Told}
use Rattle.slope.specs.declared.record.Record.{Record}
use Rattle.slope.specs.declared.record.Slopes.{Slopes}
use Rattle.span.proofs.Enclosing.{difference_in, product_in, quotient_away, quotient_in}
use Rattle.span.proofs.Nested.{quotient_nested}
use Rattle.span.specs.Narrowest.{Held}
use Rattle.span.specs.Spans.{from_zero, holds_zero, to_zero}
use Rattle.span.specs.declared.span.Span.{Span}
use Rattle.truth.proofs.Slopes.{quotient_slope}
use Rattle.span.specs.Spans as spans
use Rattle.slope.specs.Rules as refusing

module _ {K : Type 0} (m : Model K) (rules : Rules m) (place : ℕ) (p q : Record K) where
  -- a quotient that is there
  given_kept : Divided m (spans.quotient m p.u q.u) p q (given place (quotient m p q))
  given_kept h u u0 v v0 w w0 ew ew0 tp tq = told m place (spans.quotient m p.u q.u) (spans.quotient m p.u0 q.u0) (quotient_slopes m p q) h w w0
      (λ z e. quotient_nested m rules _ _ _ _ z (ordered_u m p h u u0 tp) (ordered_u m q h v v0 tq) (ordered_u0 m p h u u0 tp) (ordered_u0 m q h v v0 tq) tp.nested tq.nested e)
      (λ z e. over z e tp.here tq.here ew) (λ z e. over z e tp.centre tq.centre ew0) slopes
    where
      P : Option (Slopes K) → Type 0
      P = Sloped? m h w w0

      times : {s t : Span K} {a b : Frac} (x : Span K) → spans.product m s t ≡ Some x → Held m s a → Held m t b → Held m x (a *F b)
      times x e i j = product_in m rules _ _ x _ _ e i j

      minus : {s t : Span K} {a b : Frac} (x : Span K) → spans.difference m s t ≡ Some x → Held m s a → Held m t b → Held m x (a -F b)
      minus x e i j = difference_in m rules _ _ x _ _ e i j

      over : {s t : Span K} {a b y : Frac} (x : Span K) → spans.quotient m s t ≡ Some x → Held m s a → Held m t b → (y *F b) ≈ a → Held m x y
      over x e i j k = quotient_in m rules _ _ x _ _ _ e i j k

      slopes : (z z0 : Span K) → spans.quotient m p.u q.u ≡ Some z → spans.quotient m p.u0 q.u0 ≡ Some z0 → P (quotient_slopes m p q z0)
      slopes z z0 ez ez0 =
          step P _ _ tt (λ s es. step P _ _ tt (λ t et.
          step P _ _ tt (λ a1 ea1. step P _ _ tt (λ a2 ea2. step P _ _ tt (λ a ea.
          step P _ _ tt (λ b1 eb1. step P _ _ tt (λ b2 eb2. step P _ _ tt (λ b eb.
          step P _ _ tt (λ c1 ec1. step P _ _ tt (λ c2 ec2. step P _ _ tt (λ c3 ec3. step P _ _ tt (λ c4 ec4. step P _ _ tt (λ c ec.
          let S = sloped m p h u u0 tp s es in let T = sloped m q h v v0 tq t et in
          let nv = quotient_away m rules _ _ z u v ez tp.here tq.here in
          let nv0 = quotient_away m rules _ _ z0 u0 v0 ez0 tp.centre tq.centre in
          let i0 : Held m z0 w0 = over z0 ez0 tp.centre tq.centre ew0 in
          let da = divided (S.a -F w0 *F T.a) v nv in
          let db = divided (S.b -F w0 *F T.b) v0 nv0 in
          let yb = (S.b -F w0 *F T.b) *F inv_F v0 in
          let dc = divided (S.c -F w0 *F T.c -F yb *F T.a) v nv in
          let ib : Held m b yb = over b eb (minus b2 eb2 S.b_in (times b1 eb1 i0 T.b_in)) tq.centre db in
          slopes_of m a b c
          (over a ea (minus a2 ea2 S.a_in (times a1 ea1 i0 T.a_in)) tq.here da)
          ib
          (over c ec (minus c4 ec4 (minus c2 ec2 S.c_in (times c1 ec1 i0 T.c_in)) (times c3 ec3 ib T.a_in)) tq.here dc)
          (quotient_slope nv ew ew0 S.slope T.slope da db dc))))))))))))))

  -- where the divisor holds 0 the quotient is absent
  absent : (b b' : Bool) (x y : Option (Span K)) → b && b' ≡ true → cond b (cond b' None x) y ≡ None
  absent true true x y e = refl
  absent true false x y e = absurd (subst T (sym e) tt)
  absent false b' x y e = absurd (subst T (sym e) tt)

  pub quotient_kept : Divided m (spans.quotient m p.u q.u) p q (refusing.divided m place p q)
  quotient_kept h u u0 v v0 w w0 ew ew0 tp tq = go (holds_zero m q.u) refl
    where
      go : (b : Bool) → holds_zero m q.u ≡ b → Told m (spans.quotient m p.u q.u) h w w0 (cond b (Err (record { cause = Divisor; place = place })) (given place (quotient m p q)))
      go true e = absent (to_zero m q.u.lower) (from_zero m q.u.upper) _ _ e
      go false e = given_kept h u u0 v v0 w w0 ew ew0 tp tq

  -- what equals a quotient has its law
  pub quotient_law : (r : Result (Record K) Fault) → r ≡ refusing.divided m place p q → Divided m (spans.quotient m p.u q.u) p q r
  quotient_law r e = subst (Divided m (spans.quotient m p.u q.u) p q) (sym e) quotient_kept
