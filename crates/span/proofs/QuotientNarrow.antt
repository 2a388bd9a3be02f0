-- The quotient is the product with the inverses, which run from one over the divisor's upper end to one over its lower end.
use Rattle.std.proofs.Common.{◌≡◌, [], ◌∷◌, None, sym, refl, subst}
use borrow.Author.Differences.{down, up}
use Rattle.exact.proofs.Division.{divided, inv_down, inv_falls, inv_up, inverse_some, solved}
use Rattle.exact.proofs.Fractions.{ring_F, ≈_sym}
use Rattle.exact.proofs.Order.{<≤, NN, by_le, le_of_lt, lt_not_le, nn_mul, nn-≈, ≤<, ≤F_of_≈, ≤F_trans}
use Rattle.exact.proofs.Ring.{◌⊗◌, x0, x1, ⊝◌}
use Rattle.exact.proofs.Signs.{0F, both_down, both_up, corner_high, corner_low, nn_of, nn_of_neg, pp_nonzero, pp_of}
use Rattle.exact.specs.Fraction.{Frac, Nonzero, ◌*F◌, ◌<F◌, ◌≈◌, ◌≤F◌, inv_F, inverse}
use Rattle.exact.specs.Optional.{◌>>=◌}
use Rattle.kind.specs.Model.{Model, Rules}
use Rattle.span.proofs.Enclose.{0≤, Greatest, Least, enclose, lower_in, upper_in, ≤0}
use Rattle.span.specs.Laws.{By, Quotients}
use Rattle.span.specs.Narrowest.{Held, Narrowest, Ordered}
use Rattle.span.specs.Spans.{ends, quotient, quotient_down, quotient_up, ratios}
use Rattle.span.specs.declared.span.Span.{Span}

module _ {K : Type 0} (m : Model K) (rules : Rules m) (s t : Span K) (hs : Ordered m s) (ht : Ordered m t) where
  abbrev Q : Frac → Type 0
  Q = Quotients m s t

  -- a / b is the least quotient, c / d the greatest
  record Low (a b : K) : Type 0 where
    pub some : Nonzero (m.value b)
    pub least : Least Q (m.value a *F inv_F (m.value b))

  record High (c d : K) : Type 0 where
    pub some : Nonzero (m.value d)
    pub greatest : Greatest Q (m.value c *F inv_F (m.value d))

  ratios_narrow : (a b c d : K) → Low a b → High c d → Narrowest m Q (ratios m a b c d)
  ratios_narrow a b c d l g =
      subst (λ o. Narrowest m Q (ends m (o >>= (λ i. m.below (m.value a *F i))) (inverse (m.value d) >>= (λ i. m.above (m.value c *F i))))) (sym (inverse_some _ l.some))
      (subst (λ o. Narrowest m Q (ends m (m.below (m.value a *F inv_F (m.value b))) (o >>= (λ i. m.above (m.value c *F i))))) (sym (inverse_some _ g.some))
      (enclose m rules Q _ _ l.least g.greatest))

  turn : (x y : Frac) → (x *F y) ≈ (y *F x)
  turn x y = ring_F (x ∷ y ∷ []) (x0 ⊗ x1) (x1 ⊗ x0) refl

  module _ (away : (b : Frac) → Held m t b → Nonzero b) where
    low_at : (a b : K) → Held m s (m.value a) → Held m t (m.value b) → ((x y : Frac) → Held m s x → Held m t y → (inv_F (m.value b) *F m.value a) ≤F (inv_F y *F x)) → Low a b
    low_at a b ha hb f = record {
      some = away _ hb;
      least = record {
        member = record { left = _; right = _; in_left = ha; in_right = hb; is = divided _ _ (away _ hb) };
        low = λ y k. ≤F_trans (≤F_of_≈ (turn _ _)) (≤F_trans (f k.left k.right k.in_left k.in_right) (≤F_of_≈ (≈_sym (solved y _ _ (away _ k.in_right) k.is))));
      };
    }

    high_at : (a b : K) → Held m s (m.value a) → Held m t (m.value b) → ((x y : Frac) → Held m s x → Held m t y → (inv_F y *F x) ≤F (inv_F (m.value b) *F m.value a)) → High a b
    high_at a b ha hb f = record {
      some = away _ hb;
      greatest = record {
        member = record { left = _; right = _; in_left = ha; in_right = hb; is = divided _ _ (away _ hb) };
        high = λ y k. ≤F_trans (≤F_of_≈ (solved y _ _ (away _ k.in_right) k.is)) (≤F_trans (f k.left k.right k.in_left k.in_right) (≤F_of_≈ (turn _ _)));
      };
    }

  -- inverses of divisors of one sign
  module _ (away : (b : Frac) → Held m t b → Nonzero b) (alike : (x y : Frac) → Held m t x → Held m t y → NN (inv_F x *F inv_F y)) where
    last : (b : Frac) → Held m t b → inv_F (m.value t.upper) ≤F inv_F b
    last b h = inv_falls b _ (away b h) (away _ (upper_in m t ht)) (alike b _ h (upper_in m t ht)) h.high

    first : (b : Frac) → Held m t b → inv_F b ≤F inv_F (m.value t.lower)
    first b h = inv_falls _ b (away _ (lower_in m t ht)) (away b h) (alike _ b (lower_in m t ht) h) h.low

    up_narrow : ((b : Frac) → Held m t b → 0F ≤F inv_F b) → Narrowest m Q (quotient_up m s t)
    up_narrow up = ratios_narrow _ _ _ _
        (by_le _ _ (Low s.lower) t.upper t.lower
        (λ h. low_at away _ _ (lower_in m s hs) (upper_in m t ht) (λ x y i j. corner_low (inv_F y) x _ _ (both_up (up y j) i.low) (both_up (0≤ m rules h) (last y j))))
        (λ h. low_at away _ _ (lower_in m s hs) (lower_in m t ht) (λ x y i j. corner_low (inv_F y) x _ _ (both_up (up y j) i.low) (both_down (≤0 m rules (le_of_lt h)) (first y j)))))
        (by_le _ _ (High s.upper) t.upper t.lower
        (λ h. high_at away _ _ (upper_in m s hs) (upper_in m t ht) (λ x y i j. corner_high (inv_F y) x _ _ (both_up (up y j) i.high) (both_down (≤0 m rules h) (last y j))))
        (λ h. high_at away _ _ (upper_in m s hs) (lower_in m t ht) (λ x y i j. corner_high (inv_F y) x _ _ (both_up (up y j) i.high) (both_up (0≤ m rules (le_of_lt h)) (first y j)))))

    down_narrow : ((b : Frac) → Held m t b → inv_F b ≤F 0F) → Narrowest m Q (quotient_down m s t)
    down_narrow down = ratios_narrow _ _ _ _
        (by_le _ _ (Low s.upper) t.lower t.upper
        (λ h. low_at away _ _ (upper_in m s hs) (lower_in m t ht) (λ x y i j. corner_low (inv_F y) x _ _ (both_down (down y j) i.high) (both_down (≤0 m rules h) (first y j))))
        (λ h. low_at away _ _ (upper_in m s hs) (upper_in m t ht) (λ x y i j. corner_low (inv_F y) x _ _ (both_down (down y j) i.high) (both_up (0≤ m rules (le_of_lt h)) (last y j)))))
        (by_le _ _ (High s.lower) t.lower t.upper
        (λ h. high_at away _ _ (lower_in m s hs) (lower_in m t ht) (λ x y i j. corner_high (inv_F y) x _ _ (both_down (down y j) i.low) (both_up (0≤ m rules h) (first y j))))
        (λ h. high_at away _ _ (lower_in m s hs) (upper_in m t ht) (λ x y i j. corner_high (inv_F y) x _ _ (both_down (down y j) i.low) (both_down (≤0 m rules (le_of_lt h)) (last y j)))))

  above_zero : 0F <F m.value t.lower → Narrowest m Q (quotient_up m s t)
  above_zero z = up_narrow (λ b h. pp_nonzero (pp_of (at b h))) (λ x y h k. nn_mul (nn_of (inv_up x (at x h))) (nn_of (inv_up y (at y k)))) (λ b h. inv_up b (at b h))
    where
      at : (b : Frac) → Held m t b → 0F <F b
      at b h = <≤ z h.low

  below_zero : m.value t.upper <F 0F → Narrowest m Q (quotient_down m s t)
  below_zero z = down_narrow (λ b h. below_nonzero b (at b h)) (λ x y h k. two_down (inv_down x (at x h)) (inv_down y (at y k))) (λ b h. inv_down b (at b h))
    where
      at : (b : Frac) → Held m t b → b <F 0F
      at b h = ≤< h.high z

      below_nonzero : (b : Frac) → b <F 0F → Nonzero b
      below_nonzero b h e = lt_not_le h (≤F_of_≈ (≈_sym e))

      two_down : {x y : Frac} → x ≤F 0F → y ≤F 0F → NN (x *F y)
      two_down {x} {y} h k = nn-≈ (ring_F (x ∷ y ∷ []) (⊝ x0 ⊗ ⊝ x1) (x0 ⊗ x1) refl) (nn_mul (nn_of_neg h) (nn_of_neg k))

  pub quotient_law : By m s t (quotient m s t)
  quotient_law = record {
    zero = λ z. by_le _ _ (λ r. r ≡ None) _ _
        (λ h. by_le _ _ (λ r. r ≡ None) _ _ (λ g. refl) (λ g. absurd (lt_not_le g (≤F_trans (≤F_of_≈ rules.nought_is) z.high))))
        (λ h. absurd (lt_not_le h (≤F_trans z.low (≤F_of_≈ (≈_sym rules.nought_is)))));
    other = λ n. by_le _ _ (Narrowest m Q) _ _
        (λ h. by_le _ _ (Narrowest m Q) _ _
        (λ g. absurd (n (record { low = ≤0 m rules h; high = 0≤ m rules g })))
        (λ g. below_zero (<≤ g (≤F_of_≈ rules.nought_is))))
        (λ h. above_zero (≤< (≤F_of_≈ (≈_sym rules.nought_is)) h));
  }
