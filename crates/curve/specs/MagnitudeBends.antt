-- The magnitude keeps the law of curves, row by row.
use Rattle.std.specs.Prelude.{◌≡◌, [], ◌∷◌, pos, negsuc, Some, None, Option, refl}
use Rattle.std.proofs.Math.Path.{subst}
use Rattle.exact.proofs.Fractions.{F_ring, neg_neg, ring_F, ≈_sym, ≈_trans}
use Rattle.exact.proofs.Order.{<≤, by_le, le_by, lt_not_le, neg_mono, nn_add, not_le_lt, ≤<, ≤F_of_≈, ≤F_refl, ≤F_trans}
use Rattle.exact.proofs.Ring.{◌⊕◌, combine, num, x0, ⊝◌}
use Rattle.exact.proofs.Signs.{0F, 1F, nn_one, −1F}
use Rattle.exact.specs.Fraction.{◌<F◌, ◌≈◌, ◌≤F◌, neg_F}
use Rattle.kind.specs.Model.{Model, Rules}
use Rattle.slope.proofs.Chains.{step}
use Rattle.slope.specs.Curves.{Bends, left_row, magnitude_shape, minus_one, turned}
use Rattle.slope.specs.declared.record.Shape.{Shape}
use Rattle.span.proofs.Enclose.{0≤, ≤0}
use Rattle.span.proofs.Enclosing.{difference_in, held-≈, magnitude_in, negated_in, one_in, quotient_in, sum_in, zero_in}
use Rattle.span.proofs.Nested.{magnitude_nested}
use Rattle.span.specs.Narrowest.{Held, Within, interval}
use Rattle.span.specs.declared.span.Span.{Span}
use Rattle.truth.proofs.Magnitude.{magnitude_across, magnitude_falling, magnitude_left, magnitude_mirror, magnitude_rising}
use Rattle.truth.specs.Curve.{CurveLaw, magnitude_F}
use Rattle.span.specs.Spans as spans

module _ {K : Type 0} (m : Model K) (rules : Rules m) where
  abbrev L : Span K → Span K → Shape K → Type 0
  L u u0 k = CurveLaw magnitude_F (interval m u) (interval m u0) (interval m k.e) (interval m k.g) (interval m k.k)

  abbrev L? : Span K → Span K → Option (Shape K) → Type 0
  L? u u0 None = Unit {0}
  L? u u0 (Some k) = L u u0 k

  one_is : m.value m.unit ≈ 1F
  one_is = rules.unit_is

  minus_one_is : m.value (minus_one m) ≈ −1F
  minus_one_is = ≈_trans (rules.opposite_is m.unit) (combine F_ring (m.value m.unit ∷ []) (⊝ x0) (num (negsuc 0)) (record { by = num (negsuc 0); lhs = x0; rhs = num (pos 1) } ∷ []) (one_is, tt) refl)

  in_minus_one : Held m (spans.point m (minus_one m)) −1F
  in_minus_one = record { low = ≤F_of_≈ minus_one_is; high = ≤F_of_≈ (≈_sym minus_one_is) }

  at_point : (a : K) → Held m (spans.point m a) (m.value a)
  at_point a = record { low = ≤F_refl _; high = ≤F_refl _ }

  -- ---- the spans −1 to 1, −1 to g and 0 to k
  order : −1F ≤F 1F
  order = le_by [] (num (negsuc 0)) (num (pos 1)) (num (pos 1) ⊕ num (pos 1)) refl (nn_add nn_one nn_one)

  low_across : Held m (spans.span m (minus_one m) m.unit) −1F
  low_across = record { low = ≤F_of_≈ minus_one_is; high = ≤F_trans order (≤F_of_≈ (≈_sym one_is)) }

  high_across : Held m (spans.span m (minus_one m) m.unit) 1F
  high_across = record { low = ≤F_trans (≤F_of_≈ minus_one_is) order; high = ≤F_of_≈ (≈_sym one_is) }

  -- ---- the row for U0 below 0
  left_ok : (u u0 : Span K) → 0F <F m.value u.upper → m.value u0.upper <F 0F → L? u u0 (left_row m u.upper u0.upper)
  left_ok u u0 hq hs =
      step P _ _ tt (λ n en. step P _ _ tt (λ d ed. step P _ _ tt (λ g eg. step P _ _ tt (λ t et. step P _ _ tt (λ k ek.
      magnitude_left (interval m u) (interval m u0) (interval m (spans.point m (minus_one m))) (interval m (spans.span m (minus_one m) g.upper)) (interval m (spans.span m m.nought k.upper)) (record {
        q_above = hq;
        s_below = hs;
        e_is = in_minus_one;
        g_low = ≤F_of_≈ minus_one_is;
        g_high = λ x ex. (quotient_in m rules n d g _ _ x eg (sum_in m rules _ _ n _ _ en (at_point u.upper) (at_point u0.upper)) (difference_in m rules _ _ d _ _ ed (at_point u.upper) (at_point u0.upper)) ex).high;
        k_low = ≤F_of_≈ rules.nought_is;
        k_high = λ x ex. (quotient_in m rules _ t k _ _ x ek (one_in m rules) (sum_in m rules _ _ t _ _ et negative negative) ex).high;
      }))))))
    where
      P : Option (Shape K) → Type 0
      P = L? u u0

      negative : Held m (spans.point m (m.opposite u0.upper)) (neg_F (m.value u0.upper))
      negative = held-≈ m _ (rules.opposite_is _) (at_point _)

  -- ---- the mirror image
  turn_ok : (u u0 : Span K) (o : Option (Shape K)) → L? (spans.negated m u) (spans.negated m u0) o → L? u u0 (turned m o)
  turn_ok u u0 None l = tt
  turn_ok u u0 (Some k) l = magnitude_mirror (interval m u) (interval m u0) _ _ _ (interval m (spans.negated m u)) (interval m (spans.negated m u0)) (interval m k.e) (interval m k.g)
      (negated_in m rules u) (negated_in m rules u0) (negated_in m rules k.e) (negated_in m rules k.g) l

  -- a mark above 0 has its negative below 0, and so the other way round
  under : (a : K) → m.value m.nought <F m.value a → m.value (m.opposite a) <F 0F
  under a h = ≤< (≤F_of_≈ (rules.opposite_is a)) (not_le_lt (λ k. lt_not_le (≤< (≤F_of_≈ (≈_sym rules.nought_is)) h) (≤F_trans (≤F_of_≈ (≈_sym (neg_neg _))) (≤F_trans (neg_mono k) (≤F_of_≈ neg_zero)))))
    where
      neg_zero : neg_F 0F ≈ 0F
      neg_zero = ring_F [] (⊝ num (pos 0)) (num (pos 0)) refl

  over : (a : K) → m.value a <F m.value m.nought → 0F <F m.value (m.opposite a)
  over a h = <≤ (not_le_lt (λ k. lt_not_le (<≤ h (≤F_of_≈ rules.nought_is)) (≤F_trans (≤F_of_≈ (≈_sym neg_zero)) (≤F_trans (neg_mono k) (≤F_of_≈ (neg_neg _)))))) (≤F_of_≈ (≈_sym (rules.opposite_is a)))
    where
      neg_zero : neg_F 0F ≈ 0F
      neg_zero = ring_F [] (⊝ num (pos 0)) (num (pos 0)) refl

  rows : (u u0 : Span K) → L? u u0 (magnitude_shape m u u0)
  rows u u0 = by_le _ _ (L? u u0) _ _
      (λ h. magnitude_falling (interval m u) (interval m u0) _ _ _ (≤0 m rules h) in_minus_one in_minus_one (zero_in m rules))
      (λ hq. by_le _ _ (L? u u0) _ _
      (λ h. magnitude_rising (interval m u) (interval m u0) _ _ _ (0≤ m rules h) (one_in m rules) (one_in m rules) (zero_in m rules))
      (λ hp. by_le _ _ (L? u u0) _ _
      (λ hs. by_le _ _ (L? u u0) _ _
      (λ hr. magnitude_across (interval m u) (interval m u0) _ _ _ low_across high_across low_across high_across (zero_in m rules))
      (λ hr. turn_ok u u0 _ (left_ok (spans.negated m u) (spans.negated m u0) (over u.lower hp) (under u0.lower hr))))
      (λ hs. left_ok u u0 (≤< (≤F_of_≈ (≈_sym rules.nought_is)) hq) (<≤ hs (≤F_of_≈ rules.nought_is)))))

  pub magnitude_bends : Bends m magnitude_F (λ s. Some (spans.magnitude m s)) (magnitude_shape m)
  unfolding magnitude_F
  magnitude_bends = record {
    values = λ s t x e h. subst (λ w. Held m w (magnitude_F x)) (some_is _ _ e) (magnitude_in m rules s x h);
    nested = λ s s' w hs hs' p e. record { span = _; there = refl; within = subst (Within m (spans.magnitude m s')) (some_is _ _ e) (magnitude_nested m rules s s' w hs hs' p) };
    law = λ u u0 k ek. subst (L? u u0) ek (rows u u0);
  }
    where
      some_is : (x y : Span K) → Some x ≡ Some y → x ≡ y
      some_is x y e = cc
