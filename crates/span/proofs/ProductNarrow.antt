-- The product: each end's fraction is a product of ends, and every product lies between the two.
use Rattle.exact.proofs.Fractions.{≈_refl, ≈_sym}
use Rattle.exact.specs.Fraction.{Frac, ◌*F◌}
use Rattle.exact.specs.Interval.{In}
use Rattle.kind.specs.Model.{Model, Rules}
use Rattle.span.proofs.Enclose.{enclose, lower_in, upper_in}
use Rattle.span.proofs.Least.{extent, greatest_is, in_≈, least_is, product_between}
use Rattle.span.specs.Laws.{Products}
use Rattle.span.specs.Narrowest.{Held, Narrowest, Ordered}
use Rattle.span.specs.Spans.{product}
use Rattle.span.specs.declared.span.Span.{Span}

module _ {K : Type 0} (m : Model K) (rules : Rules m) (s t : Span K) (hs : Ordered m s) (ht : Ordered m t) where
  abbrev P : Frac → Type 0
  P = Products m s t

  corner : (p q : Frac) → Held m s p → Held m t q → P (p *F q)
  corner p q i j = record { left = p; right = q; in_left = i; in_right = j; is = ≈_refl _ }

  first : P (m.value s.lower *F m.value t.lower)
  first = corner _ _ (lower_in m s hs) (lower_in m t ht)

  second : P (m.value s.lower *F m.value t.upper)
  second = corner _ _ (lower_in m s hs) (upper_in m t ht)

  third : P (m.value s.upper *F m.value t.lower)
  third = corner _ _ (upper_in m s hs) (lower_in m t ht)

  fourth : P (m.value s.upper *F m.value t.upper)
  fourth = corner _ _ (upper_in m s hs) (upper_in m t ht)

  between : (y : Frac) → P y → In y (extent (m.value s.lower *F m.value t.lower) (m.value s.lower *F m.value t.upper) (m.value s.upper *F m.value t.lower) (m.value s.upper *F m.value t.upper))
  between y k = in_≈ _ (≈_sym k.is) (product_between _ _ _ _ k.left k.right k.in_left k.in_right)

  pub product_narrow : Narrowest m P (product m s t)
  product_narrow = enclose m rules P _ _
      (record { member = least_is _ _ _ _ P first second third fourth; low = λ y k. (between y k).low })
      (record { member = greatest_is _ _ _ _ P first second third fourth; high = λ y k. (between y k).high })
