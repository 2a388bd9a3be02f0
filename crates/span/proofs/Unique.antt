-- A set has at most one narrowest span, and a smaller set has a narrower one.
use Rattle.std.proofs.Common.{◌≡◌, Some, None, Option, refl, ap, ap₂}
use Rattle.exact.proofs.Order.{≤F_antisym}
use Rattle.exact.specs.Fraction.{Frac}
use Rattle.kind.specs.Model.{Model, Rules}
use Rattle.span.specs.Narrowest.{Fitting, Inner, Narrowest}
use Rattle.span.specs.Spans.{span}
use Rattle.span.specs.declared.span.Span.{Span}

module _ {K : Type 0} (m : Model K) where
  pub one_fit : Rules m → (S : Frac → Type 0) (s t : Span K) → Fitting m S s → Fitting m S t → s ≡ t
  one_fit rules S s t n k =
      let p = n.least t k.holds in
      let q = k.least s n.holds in
      ap₂ (λ a b. span m a b) (rules.distinct _ _ (≤F_antisym q.low p.low)) (rules.distinct _ _ (≤F_antisym p.high q.high))

  pub unique : Rules m → (S : Frac → Type 0) (o p : Option (Span K)) → Narrowest m S o → Narrowest m S p → o ≡ p
  unique rules S None None n k = refl
  unique rules S None (Some t) n k = absurd (n.outside (k.inside _ n.member))
  unique rules S (Some s) None n k = absurd (k.outside (n.inside _ k.member))
  unique rules S (Some s) (Some t) n k = ap Some (one_fit rules S s t n k)

  -- a subset's span is there too, and lies within
  pub narrower : (S S' : Frac → Type 0) → ((x : Frac) → S' x → S x) → (o : Option (Span K)) (w : Span K) → Narrowest m S' o → Fitting m S w → Inner m o w
  narrower S S' f None w n k = absurd (n.outside (k.inside _ (f _ n.member)))
  narrower S S' f (Some v) w n k = record { span = v; there = refl; within = n.least w (λ x s. k.holds x (f x s)) }
