-- An operation that is there holds every exact result: what records need of spans. A span that holds anything is ordered, so
-- these hold of spoiled spans too.
use Rattle.std.proofs.Common.{◌≡◌, ℕ, ℤ, Some, None, Option, subst, arith}
use Rattle.exact.proofs.Extremes.{max_ind, max_left, max_right, min_ind, min_left, min_right}
use Rattle.exact.proofs.Fractions.{≈_refl, ≈_sym}
use Rattle.exact.proofs.Order.{≤F_of_≈, ≤F_trans}
use Rattle.exact.proofs.Signs.{0F, 1F}
use Rattle.exact.specs.Fraction.{Frac, Nonzero, ◌*F◌, ◌+F◌, ◌-F◌, ◌≈◌, ◌≤F◌, max_F, min_F, neg_F}
use Rattle.kind.specs.Model.{Model, Rules, count}
use Rattle.span.proofs.Enclose.{greater_ind, greater_left, greater_right, lesser_ind, lesser_left, lesser_right}
use Rattle.span.proofs.Least.{in_≈}
use Rattle.span.proofs.MagnitudeNarrow.{magnitude_narrow, square_narrow}
use Rattle.span.proofs.ProductNarrow.{product_narrow}
use Rattle.span.proofs.QuotientNarrow.{quotient_law}
use Rattle.span.proofs.SumNarrow.{counts_narrow, difference_narrow, opposite_held, sum_narrow}
use Rattle.span.specs.Narrowest.{Fitting, Held, Narrowest, Ordered, interval}
use Rattle.span.specs.Spans.{difference, greater, greater_mark, hull, lesser, lesser_mark, magnitude, negated, of_counts, one_span, product, quotient, square, sum, zero_span}
use Rattle.span.specs.declared.span.Span.{Span}

pub never : {X : Type 0} (o : Option X) (x : X) → o ≡ None → o ≡ Some x → ⊥
never o x p q = let z : ◌≡◌ {A = ℕ} 0 1 = cc in omega arith

module _ {K : Type 0} (m : Model K) where
  pub ordered : (s : Span K) (x : Frac) → Held m s x → Ordered m s
  ordered s x h = ≤F_trans h.low h.high

  -- what is there fits
  fits : (S : Frac → Type 0) (o : Option (Span K)) (p : Span K) → o ≡ Some p → Narrowest m S o → Fitting m S p
  fits S o p e n = subst (Narrowest m S) e n

  pub held-≈ : (s : Span K) {x y : Frac} → x ≈ y → Held m s x → Held m s y
  held-≈ s e h = in_≈ (interval m s) e h

  -- ---- nothing rounded
  pub hull_left : (s t : Span K) (x : Frac) → Held m s x → Held m (hull m s t) x
  hull_left s t x h = record { low = ≤F_trans (lesser_left m _ _) h.low; high = ≤F_trans h.high (greater_left m _ _) }

  pub hull_right : (s t : Span K) (x : Frac) → Held m t x → Held m (hull m s t) x
  hull_right s t x h = record { low = ≤F_trans (lesser_right m _ _) h.low; high = ≤F_trans h.high (greater_right m _ _) }

  pub greater_in : (s t : Span K) (a b : Frac) → Held m s a → Held m t b → Held m (greater m s t) (max_F a b)
  greater_in s t a b i j = record {
    low = greater_ind m s.lower t.lower (λ k. m.value k ≤F max_F a b) (≤F_trans i.low (max_left a b)) (≤F_trans j.low (max_right a b));
    high = max_ind a b (λ x. x ≤F m.value (greater_mark m s.upper t.upper)) (λ h. ≤F_trans i.high (greater_left m _ _)) (λ h. ≤F_trans j.high (greater_right m _ _));
  }

  pub lesser_in : (s t : Span K) (a b : Frac) → Held m s a → Held m t b → Held m (lesser m s t) (min_F a b)
  lesser_in s t a b i j = record {
    low = min_ind a b (λ x. m.value (lesser_mark m s.lower t.lower) ≤F x) (λ h. ≤F_trans (lesser_left m _ _) i.low) (λ h. ≤F_trans (lesser_right m _ _) j.low);
    high = lesser_ind m s.upper t.upper (λ k. min_F a b ≤F m.value k) (≤F_trans (min_left a b) i.high) (≤F_trans (min_right a b) j.high);
  }

  module _ (rules : Rules m) where
    pub zero_in : Held m (zero_span m) 0F
    zero_in = record { low = ≤F_of_≈ rules.nought_is; high = ≤F_of_≈ (≈_sym rules.nought_is) }

    pub one_in : Held m (one_span m) 1F
    one_in = record { low = ≤F_of_≈ rules.unit_is; high = ≤F_of_≈ (≈_sym rules.unit_is) }

    pub negated_in : (s : Span K) (x : Frac) → Held m s x → Held m (negated m s) (neg_F x)
    negated_in s x h = opposite_held m rules s x h

    -- ---- rounded outward
    pub counts_in : (l u : ℤ) (p : Span K) (x : Frac) → of_counts m l u ≡ Some p → count l ≤F x → x ≤F count u → Held m p x
    counts_in l u p x e h k = (fits _ _ p e (counts_narrow m rules l u (≤F_trans h k))).holds x (h, k)

    pub sum_in : (s t p : Span K) (a b : Frac) → sum m s t ≡ Some p → Held m s a → Held m t b → Held m p (a +F b)
    sum_in s t p a b e i j = (fits _ _ p e (sum_narrow m rules s t (ordered s a i) (ordered t b j))).holds (a +F b)
        (record { left = a; right = b; in_left = i; in_right = j; is = ≈_refl _ })

    pub difference_in : (s t p : Span K) (a b : Frac) → difference m s t ≡ Some p → Held m s a → Held m t b → Held m p (a -F b)
    difference_in s t p a b e i j = (fits _ _ p e (difference_narrow m rules s t (ordered s a i) (ordered t b j))).holds (a -F b)
        (record { left = a; right = b; in_left = i; in_right = j; is = ≈_refl _ })

    pub product_in : (s t p : Span K) (a b : Frac) → product m s t ≡ Some p → Held m s a → Held m t b → Held m p (a *F b)
    product_in s t p a b e i j = (fits _ _ p e (product_narrow m rules s t (ordered s a i) (ordered t b j))).holds (a *F b)
        (record { left = a; right = b; in_left = i; in_right = j; is = ≈_refl _ })

    pub square_in : (s p : Span K) (a : Frac) → square m s ≡ Some p → Held m s a → Held m p (a *F a)
    square_in s p a e i = (fits _ _ p e (square_narrow m rules s (ordered s a i))).holds (a *F a) (record { from = a; in_from = i; is = ≈_refl _ })

    pub magnitude_in : (s : Span K) (a : Frac) → Held m s a → Held m (magnitude m s) (max_F a (neg_F a))
    magnitude_in s a i = (magnitude_narrow m rules s (ordered s a i)).holds (max_F a (neg_F a)) (record { from = a; in_from = i; is = ≈_refl _ })

    -- a divisor by which a quotient is there does not hold 0
    pub quotient_away : (s t p : Span K) (a b : Frac) → quotient m s t ≡ Some p → Held m s a → Held m t b → Nonzero b
    quotient_away s t p a b e i j z = never (quotient m s t) p ((quotient_law m rules s t (ordered s a i) (ordered t b j)).zero (held-≈ t z j)) e

    pub quotient_in : (s t p : Span K) (a b x : Frac) → quotient m s t ≡ Some p → Held m s a → Held m t b → (x *F b) ≈ a → Held m p x
    quotient_in s t p a b x e i j q = (fits _ _ p e ((quotient_law m rules s t (ordered s a i) (ordered t b j)).other
        (λ z. never (quotient m s t) p ((quotient_law m rules s t (ordered s a i) (ordered t b j)).zero z) e))).holds x
        (record { left = a; right = b; in_left = i; in_right = j; is = q })
