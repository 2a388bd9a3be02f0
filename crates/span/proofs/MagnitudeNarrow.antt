-- Magnitude and square.
use Rattle.std.proofs.Common.{[], ◌∷◌, pos, refl, ⊎_elim}
use Rattle.exact.proofs.Extremes.{max_ind, max_is_left, max_is_right, max_left, max_right}
use Rattle.exact.proofs.Fractions.{*-cong, ring_F, ≈_refl, ≈_sym, ≈_trans}
use Rattle.exact.proofs.Order.{by_le, le_of_lt, neg_mono, ≤F_of_≈, ≤F_refl, ≤F_total, ≤F_trans}
use Rattle.exact.proofs.Ring.{◌⊗◌, num, x0, ⊝◌}
use Rattle.exact.proofs.Signs.{0F, both_up, corner_high, corner_low}
use Rattle.exact.specs.Fraction.{Frac, ◌*F◌, ◌≈◌, ◌≤F◌, max_F, neg_F}
use Rattle.kind.specs.Model.{Model, Rules}
use Rattle.span.proofs.Enclose.{0≤, Greatest, Least, enclose, exact_fits, greater_ind, greater_left, greater_right, lower_in, upper_in, ≤0}
use Rattle.span.specs.Laws.{Magnitudes, Squares}
use Rattle.span.specs.Narrowest.{Fitting, Held, Narrowest, Ordered}
use Rattle.span.specs.Spans.{magnitude, square}
use Rattle.span.specs.declared.span.Span.{Span}

abbrev mag : Frac → Frac
mag a = max_F a (neg_F a)

neg_0 : neg_F 0F ≈ 0F
neg_0 = ring_F [] (⊝ (num (pos 0))) (num (pos 0)) refl

neg_of_pos : {a : Frac} → 0F ≤F a → neg_F a ≤F 0F
neg_of_pos h = ≤F_trans (neg_mono h) (≤F_of_≈ neg_0)

pos_of_neg : {a : Frac} → a ≤F 0F → 0F ≤F neg_F a
pos_of_neg h = ≤F_trans (≤F_of_≈ (≈_sym neg_0)) (neg_mono h)

mag_pos : (a : Frac) → 0F ≤F a → mag a ≈ a
mag_pos a h = max_is_left (≤F_trans (neg_of_pos h) h)

mag_neg : (a : Frac) → a ≤F 0F → mag a ≈ neg_F a
mag_neg a h = max_is_right (≤F_trans h (pos_of_neg h))

mag_from_0 : (a : Frac) → 0F ≤F mag a
mag_from_0 a = ⊎_elim (λ h. ≤F_trans h (max_left a (neg_F a))) (λ h. ≤F_trans (pos_of_neg h) (max_right a (neg_F a))) (≤F_total 0F a)

mag_high : (a h : Frac) → a ≤F h → neg_F a ≤F h → mag a ≤F h
mag_high a h p q = max_ind a (neg_F a) (λ x. x ≤F h) (λ k. p) (λ k. q)

mag_square : (a : Frac) → (mag a *F mag a) ≈ (a *F a)
mag_square a = max_ind a (neg_F a) (λ x. (x *F x) ≈ (a *F a)) (λ k. ≈_refl _) (λ k. ring_F (a ∷ []) (⊝ x0 ⊗ ⊝ x0) (x0 ⊗ x0) refl)

module _ {K : Type 0} (m : Model K) (rules : Rules m) (s : Span K) (hs : Ordered m s) where
  pub record Ends (w : Span K) : Type 0 where
    pub least : Least (Magnitudes m s) (m.value w.lower)
    pub greatest : Greatest (Magnitudes m s) (m.value w.upper)

  magnitude_ends : Ends (magnitude m s)
  magnitude_ends = by_le _ _ Ends _ _
      (λ h. let z = 0≤ m rules h in record {
        least = record {
          member = record { from = _; in_from = lower_in m s hs; is = ≈_sym (mag_pos _ z) };
          low = λ y k. ≤F_trans k.in_from.low (≤F_trans (max_left _ _) (≤F_of_≈ (≈_sym k.is)));
        };
        greatest = record {
          member = record { from = _; in_from = upper_in m s hs; is = ≈_sym (mag_pos _ (≤F_trans z hs)) };
          high = λ y k. ≤F_trans (≤F_of_≈ k.is) (≤F_trans (≤F_of_≈ (mag_pos _ (≤F_trans z k.in_from.low))) k.in_from.high);
        };
      })
      (λ g. by_le _ _ Ends _ _
      (λ h. let z = ≤0 m rules h in record {
        least = record {
          member = record { from = _; in_from = upper_in m s hs; is = ≈_trans (rules.opposite_is _) (≈_sym (mag_neg _ z)) };
          low = λ y k. ≤F_trans (≤F_of_≈ (rules.opposite_is _)) (≤F_trans (neg_mono k.in_from.high) (≤F_trans (max_right _ _) (≤F_of_≈ (≈_sym k.is))));
        };
        greatest = record {
          member = record { from = _; in_from = lower_in m s hs; is = ≈_trans (rules.opposite_is _) (≈_sym (mag_neg _ (≤F_trans hs z))) };
          high = λ y k. ≤F_trans (≤F_of_≈ (≈_trans k.is (mag_neg _ (≤F_trans k.in_from.high z)))) (≤F_trans (neg_mono k.in_from.low) (≤F_of_≈ (≈_sym (rules.opposite_is _))));
        };
      })
      (λ h. let n = ≤0 m rules (le_of_lt g) in let p = 0≤ m rules (le_of_lt h) in record {
        least = record {
          member = record { from = 0F; in_from = record { low = n; high = p }; is = ≈_trans rules.nought_is (≈_sym (mag_pos 0F (≤F_refl 0F))) };
          low = λ y k. ≤F_trans (≤F_of_≈ rules.nought_is) (≤F_trans (mag_from_0 k.from) (≤F_of_≈ (≈_sym k.is)));
        };
        greatest = record {
          member = greater_ind m (m.opposite s.lower) s.upper (λ k. Magnitudes m s (m.value k))
              (record { from = _; in_from = lower_in m s hs; is = ≈_trans (rules.opposite_is _) (≈_sym (mag_neg _ n)) })
              (record { from = _; in_from = upper_in m s hs; is = ≈_sym (mag_pos _ p) });
          high = λ y k. ≤F_trans (≤F_of_≈ k.is) (mag_high _ _
              (≤F_trans k.in_from.high (greater_right m (m.opposite s.lower) s.upper))
              (≤F_trans (neg_mono k.in_from.low) (≤F_trans (≤F_of_≈ (≈_sym (rules.opposite_is _))) (greater_left m (m.opposite s.lower) s.upper))));
        };
      }))

  pub magnitude_narrow : Fitting m (Magnitudes m s) (magnitude m s)
  magnitude_narrow = exact_fits m rules (Magnitudes m s) (magnitude m s) magnitude_ends.least magnitude_ends.greatest

  -- a magnitude's square is a square
  square_of : (x : Frac) → Magnitudes m s x → Squares m s (x *F x)
  square_of x k = record { from = k.from; in_from = k.in_from; is = ≈_trans (*-cong k.is k.is) (mag_square k.from) }

  own : (a : Frac) → Held m s a → Magnitudes m s (mag a)
  own a h = record { from = a; in_from = h; is = ≈_refl _ }

  pub square_narrow : Narrowest m (Squares m s) (square m s)
  square_narrow = enclose m rules (Squares m s) _ _
      (record {
        member = square_of _ magnitude_ends.least.member;
        low = λ y k. let l = magnitude_ends.least.low _ (own _ k.in_from) in
            ≤F_trans (corner_low (mag k.from) (mag k.from) _ _ (both_up (mag_from_0 k.from) l) (both_up from_0 l)) (≤F_of_≈ (≈_trans (mag_square k.from) (≈_sym k.is)));
      })
      (record {
        member = square_of _ magnitude_ends.greatest.member;
        high = λ y k. let g = magnitude_ends.greatest.high _ (own _ k.in_from) in
            ≤F_trans (≤F_of_≈ (≈_trans k.is (≈_sym (mag_square k.from)))) (corner_high (mag k.from) (mag k.from) _ _ (both_up (mag_from_0 k.from) g) (both_up (≤F_trans (mag_from_0 k.from) g) g));
      })
    where
      from_0 : 0F ≤F m.value (magnitude m s).lower
      from_0 = ≤F_trans (mag_from_0 _) (≤F_of_≈ (≈_sym magnitude_ends.least.member.is))
