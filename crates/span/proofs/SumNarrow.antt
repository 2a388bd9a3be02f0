-- Sums, differences, hulls, meets and ranges of counts.
use Rattle.std.proofs.Common.{◌≡◌, [], ◌∷◌, ℤ, refl, ap₂}
use Rattle.exact.proofs.Fractions.{F_add_comm, neg_neg, ring_F, ≈_refl, ≈_sym, ≈_trans}
use Rattle.exact.proofs.Order.{+F_mono, neg_mono, ≤F_of_≈, ≤F_refl, ≤F_trans}
use Rattle.exact.proofs.Ring.{◌⊕◌, ◌⊖◌, x0, x1, ⊝◌}
use Rattle.exact.specs.Fraction.{Frac, ◌≤F◌, neg_F}
use Rattle.kind.proofs.Orders.{above_cong, below_cong}
use Rattle.kind.specs.Model.{Model, Rules, count}
use Rattle.span.proofs.Enclose.{enclose, exact_fits, greater_ind, greater_left, greater_right, hull_fits, lesser_ind, lesser_left, lesser_right, lower_in, same, upper_in}
use Rattle.span.specs.Laws.{Counts, Differences, Either, MeetLaw, Sums}
use Rattle.span.specs.Narrowest.{Fitting, Held, Narrowest, Ordered}
use Rattle.span.specs.Spans.{difference, ends, hull, meet, negated, of_counts, sum}
use Rattle.span.specs.declared.span.Span.{Span}

module _ {K : Type 0} (m : Model K) where
  module _ (rules : Rules m) (s t : Span K) (hs : Ordered m s) (ht : Ordered m t) where
    pub sum_narrow : Narrowest m (Sums m s t) (sum m s t)
    sum_narrow = enclose m rules (Sums m s t) _ _
        (record {
          member = record { left = _; right = _; in_left = lower_in m s hs; in_right = lower_in m t ht; is = ≈_refl _ };
          low = λ y p. ≤F_trans (+F_mono p.in_left.low p.in_right.low) (≤F_of_≈ (≈_sym p.is));
        })
        (record {
          member = record { left = _; right = _; in_left = upper_in m s hs; in_right = upper_in m t ht; is = ≈_refl _ };
          high = λ y p. ≤F_trans (≤F_of_≈ p.is) (+F_mono p.in_left.high p.in_right.high);
        })

  module _ (rules : Rules m) where
    -- the spans of a sum may be exchanged
    pub sum_turned : (s t : Span K) → sum m s t ≡ sum m t s
    sum_turned s t = ap₂ (ends m) (below_cong m rules (F_add_comm _ _)) (above_cong m rules (F_add_comm _ _))

    -- the opposite span holds the opposites
    pub opposite_held : (s : Span K) (x : Frac) → Held m s x → Held m (negated m s) (neg_F x)
    opposite_held s x h = record {
      low = ≤F_trans (≤F_of_≈ (rules.opposite_is s.upper)) (neg_mono h.high);
      high = ≤F_trans (neg_mono h.low) (≤F_of_≈ (≈_sym (rules.opposite_is s.lower)));
    }

    pub held_opposite : (s : Span K) (x : Frac) → Held m (negated m s) x → Held m s (neg_F x)
    held_opposite s x h = record {
      low = ≤F_trans (≤F_of_≈ (≈_sym (neg_neg _))) (neg_mono (≤F_trans h.high (≤F_of_≈ (rules.opposite_is s.lower))));
      high = ≤F_trans (neg_mono (≤F_trans (≤F_of_≈ (≈_sym (rules.opposite_is s.upper))) h.low)) (≤F_of_≈ (neg_neg _));
    }

    pub opposite_ordered : (s : Span K) → Ordered m s → Ordered m (negated m s)
    opposite_ordered s h = ≤F_trans (opposite_held s _ (lower_in m s h)).low (opposite_held s _ (lower_in m s h)).high

    pub difference_narrow : (s t : Span K) → Ordered m s → Ordered m t → Narrowest m (Differences m s t) (difference m s t)
    difference_narrow s t hs ht = same m (Differences m s t) (Sums m s (negated m t))
        (λ x p. record {
          left = p.left;
          right = neg_F p.right;
          in_left = p.in_left;
          in_right = held_opposite t _ p.in_right;
          is = ≈_trans p.is (ring_F (p.left ∷ p.right ∷ []) (x0 ⊕ x1) (x0 ⊖ (⊝ x1)) refl);
        })
        (λ x p. record { left = p.left; right = neg_F p.right; in_left = p.in_left; in_right = opposite_held t _ p.in_right; is = p.is })
        _ (sum_narrow rules s (negated m t) hs (opposite_ordered t ht))

    own_fits : (s : Span K) → Ordered m s → Fitting m (Held m s) s
    own_fits s h = exact_fits m rules (Held m s) s (record { member = lower_in m s h; low = λ y k. k.low }) (record { member = upper_in m s h; high = λ y k. k.high })

    pub hull_narrow : (s t : Span K) → Ordered m s → Ordered m t → Fitting m (Either m s t) (hull m s t)
    hull_narrow s t hs ht = hull_fits m (Held m s) (Held m t) s t (own_fits s hs) (own_fits t ht)

  pub meet_law : (s t : Span K) → MeetLaw m s t (meet m s t)
  meet_law s t = record {
    into = λ x i j. record { low = greater_ind m s.lower t.lower (λ k. m.value k ≤F x) i.low j.low; high = lesser_ind m s.upper t.upper (λ k. x ≤F m.value k) i.high j.high };
    out = λ x i. (
      record { low = ≤F_trans (greater_left m s.lower t.lower) i.low; high = ≤F_trans i.high (lesser_left m s.upper t.upper) },
      record { low = ≤F_trans (greater_right m s.lower t.lower) i.low; high = ≤F_trans i.high (lesser_right m s.upper t.upper) },
    );
  }

  pub counts_narrow : Rules m → (lower upper : ℤ) → count lower ≤F count upper → Narrowest m (Counts m lower upper) (of_counts m lower upper)
  counts_narrow rules lower upper h = enclose m rules (Counts m lower upper) _ _
      (record { member = (≤F_refl _, h); low = λ y k. k.0 })
      (record { member = (h, ≤F_refl _); high = λ y k. k.1 })
