-- Each operation is the only one with its law, and keeps what lies within.
use Rattle.std.proofs.Common.{◌≡◌, ◌⊎◌, Option, sym, ◌∙◌, inl, inr, ap₂, ⊎_elim}
use Rattle.exact.proofs.Fractions.{≈_sym}
use Rattle.exact.proofs.Order.{lt_not_le, lt_or_le, neg_mono, ≤F_antisym, ≤F_of_≈, ≤F_refl, ≤F_trans}
use Rattle.exact.proofs.Signs.{0F}
use Rattle.exact.specs.Fraction.{Frac}
use Rattle.kind.specs.Model.{Model, Rules}
use Rattle.span.proofs.Enclose.{lower_in, upper_in}
use Rattle.span.proofs.MagnitudeNarrow.{magnitude_narrow, square_narrow}
use Rattle.span.proofs.Nested as nesting
use Rattle.span.proofs.ProductNarrow.{product_narrow}
use Rattle.span.proofs.QuotientNarrow.{quotient_law}
use Rattle.span.proofs.SumNarrow.{counts_narrow, difference_narrow, held_opposite, hull_narrow, meet_law, opposite_held, sum_narrow}
use Rattle.span.proofs.Unique.{one_fit, unique}
use Rattle.span.specs.Laws.{By, MeetLaw}
use Rattle.span.specs.Narrowest.{Held, Ordered, Within}
use Rattle.span.specs.Nested.{Nested}
use Rattle.span.specs.Only.{Only}
use Rattle.span.specs.Spans.{meet, negated, quotient, span}
use Rattle.span.specs.declared.span.Span.{Span}

module _ {K : Type 0} (m : Model K) (rules : Rules m) where
  -- 0 lies in a span or it does not
  zero_or_not : (t : Span K) → Held m t 0F ⊎ (Held m t 0F → ⊥)
  zero_or_not t = ⊎_elim (λ h. inr (λ z. lt_not_le h z.low))
      (λ h. ⊎_elim (λ g. inr (λ z. lt_not_le g z.high)) (λ g. inl (record { low = h; high = g })) (lt_or_le (m.value t.upper) 0F))
      (lt_or_le 0F (m.value t.lower))

  one_quotient : (s t : Span K) (r : Option (Span K)) → Ordered m s → Ordered m t → By m s t r → r ≡ quotient m s t
  one_quotient s t r hs ht b = let q = quotient_law m rules s t hs ht in
      ⊎_elim (λ z. b.zero z ∙ sym (q.zero z)) (λ n. unique m rules _ r _ (b.other n) (q.other n)) (zero_or_not t)

  -- of spans that hold the same
  alike : (s t : Span K) → Ordered m s → Ordered m t → ((x : Frac) → Held m s x → Held m t x) → ((x : Frac) → Held m t x → Held m s x) → s ≡ t
  alike s t hs ht f g =
      let a = f _ (lower_in m s hs) in let b = f _ (upper_in m s hs) in
      let c = g _ (lower_in m t ht) in let d = g _ (upper_in m t ht) in
      ap₂ (λ u v. span m u v) (rules.distinct _ _ (≤F_antisym c.low a.low)) (rules.distinct _ _ (≤F_antisym b.high d.high))

  one_meet : (s t r : Span K) → Ordered m r → Ordered m (meet m s t) → MeetLaw m s t r → r ≡ meet m s t
  one_meet s t r hr hm l = let k = meet_law m s t in
      alike r (meet m s t) hr hm (λ x h. let p = l.out x h in k.into x p.0 p.1) (λ x h. let p = k.out x h in l.into x p.0 p.1)

  pub only : Only m
  only = record {
    sum = λ s t r hs ht n. unique m rules _ r _ n (sum_narrow m rules s t hs ht);
    difference = λ s t r hs ht n. unique m rules _ r _ n (difference_narrow m rules s t hs ht);
    product = λ s t r hs ht n. unique m rules _ r _ n (product_narrow m rules s t hs ht);
    quotient = one_quotient;
    square = λ s r hs n. unique m rules _ r _ n (square_narrow m rules s hs);
    magnitude = λ s r hs n. one_fit m rules _ r _ n (magnitude_narrow m rules s hs);
    hull = λ s t r hs ht n. one_fit m rules _ r _ n (hull_narrow m rules s t hs ht);
    of_counts = λ lower upper r h n. unique m rules _ r _ n (counts_narrow m rules lower upper h);
    meet = one_meet;
  }

  opposites_within : (s s' : Span K) → Within m s' s → Within m (negated m s') (negated m s)
  opposites_within s s' w = record {
    low = ≤F_trans (≤F_of_≈ (rules.opposite_is s.upper)) (≤F_trans (neg_mono w.high) (≤F_of_≈ (≈_sym (rules.opposite_is s'.upper))));
    high = ≤F_trans (≤F_of_≈ (rules.opposite_is s'.lower)) (≤F_trans (neg_mono w.low) (≤F_of_≈ (≈_sym (rules.opposite_is s.lower))));
  }

  pub nested : Nested m
  nested = record {
    held = nesting.within_held m;
    point = λ v x h. ≤F_antisym h.high h.low;
    own = λ v. record { low = ≤F_refl _; high = ≤F_refl _ };
    negated = held_opposite m rules;
    opposite = opposite_held m rules;
    negated_within = opposites_within;
    sum = λ s t s' t' w hs ht hs' ht' p q e. nesting.sum_nested m rules s t s' t' w hs ht hs' ht' p q e;
    difference = λ s t s' t' w hs ht hs' ht' p q e. nesting.difference_nested m rules s t s' t' w hs ht hs' ht' p q e;
    product = λ s t s' t' w hs ht hs' ht' p q e. nesting.product_nested m rules s t s' t' w hs ht hs' ht' p q e;
    quotient = λ s t s' t' w hs ht hs' ht' p q e. nesting.quotient_nested m rules s t s' t' w hs ht hs' ht' p q e;
    square = λ s s' w hs hs' p e. nesting.square_nested m rules s s' w hs hs' p e;
    magnitude = λ s s' hs hs' p. nesting.magnitude_nested m rules s s' s hs hs' p;
    greater = nesting.greater_nested m;
    lesser = nesting.lesser_nested m;
    hull = nesting.hull_nested m;
    meet = nesting.meet_nested m;
    of_counts = λ l u l' u' s s' e e' a o z. nesting.counts_nested m rules l u l' u' s s' e e' a o z;
  }
