-- The least and the greatest of four fractions. Of four products of ends they bound every product of what lies between the ends.
use Rattle.std.proofs.Common.{◌≡◌, [], ◌∷◌, refl, ap₂, ⊎_elim}
use Rattle.exact.proofs.Extremes.{max_ind, max_left, max_right, min_ind, min_left, min_right}
use Rattle.exact.proofs.Fractions.{F_mul_comm, ≈_sym}
use Rattle.exact.proofs.Order.{NN, le_by, ≤F_antisym, ≤F_of_≈, ≤F_total, ≤F_trans}
use Rattle.exact.proofs.Ring.{◌⊖◌, ◌⊗◌, x0, x1, x2}
use Rattle.exact.proofs.Signs.{0F, both_down, both_up}
use Rattle.exact.specs.Fraction.{Frac, ◌*F◌, ◌-F◌, ◌≈◌, ◌≤F◌, max_F, min_F}
use Rattle.exact.specs.Interval.{In, Interval}
use Rattle.kind.proofs.Orders.{above_cong, below_cong}
use Rattle.kind.specs.Model.{Model, Rules, greatest_product, least_product}
use Rattle.span.specs.Spans.{ends, product}
use Rattle.span.specs.declared.span.Span.{Span}

-- ---- of four
module _ (p q r s : Frac) where
  -- from the least to the greatest
  abbrev pub extent : Interval
  extent = record { lo = min_F (min_F p q) (min_F r s); hi = max_F (max_F p q) (max_F r s) }

  -- each is one of the four
  pub least_is : (P : Frac → Type 0) → P p → P q → P r → P s → P (min_F (min_F p q) (min_F r s))
  least_is P a b c d = min_ind _ _ P (λ h. min_ind p q P (λ k. a) (λ k. b)) (λ h. min_ind r s P (λ k. c) (λ k. d))

  pub greatest_is : (P : Frac → Type 0) → P p → P q → P r → P s → P (max_F (max_F p q) (max_F r s))
  greatest_is P a b c d = max_ind _ _ P (λ h. max_ind p q P (λ k. a) (λ k. b)) (λ h. max_ind r s P (λ k. c) (λ k. d))

  -- each of the four lies between
  pub first_in : In p extent
  first_in = record { low = ≤F_trans (min_left _ _) (min_left p q); high = ≤F_trans (max_left p q) (max_left _ _) }

  pub second_in : In q extent
  second_in = record { low = ≤F_trans (min_left _ _) (min_right p q); high = ≤F_trans (max_right p q) (max_left _ _) }

  pub third_in : In r extent
  third_in = record { low = ≤F_trans (min_right _ _) (min_left r s); high = ≤F_trans (max_left r s) (max_right _ _) }

  pub fourth_in : In s extent
  fourth_in = record { low = ≤F_trans (min_right _ _) (min_right r s); high = ≤F_trans (max_right r s) (max_right _ _) }

-- ---- products
pub in_≈ : {x y : Frac} (I : Interval) → x ≈ y → In x I → In y I
in_≈ I e h = record { low = ≤F_trans h.low (≤F_of_≈ e); high = ≤F_trans (≤F_of_≈ (≈_sym e)) h.high }

rise : (x y z : Frac) → NN (x *F (z -F y)) → (x *F y) ≤F (x *F z)
rise x y z h = le_by (x ∷ y ∷ z ∷ []) (x0 ⊗ x1) (x0 ⊗ x2) (x0 ⊗ (x2 ⊖ x1)) refl h

-- x × z lies where x × c and x × d do, for z from c to d
by_right : (I : Interval) (x c d z : Frac) → In z (record { lo = c; hi = d }) → In (x *F c) I → In (x *F d) I → In (x *F z) I
by_right I x c d z h i j = ⊎_elim
    (λ n. record { low = ≤F_trans i.low (rise x c z (both_up n h.low)); high = ≤F_trans (rise x z d (both_up n h.high)) j.high })
    (λ n. record { low = ≤F_trans j.low (rise x d z (both_down n h.high)); high = ≤F_trans (rise x z c (both_down n h.low)) i.high })
    (≤F_total 0F x)

by_left : (I : Interval) (a b x z : Frac) → In x (record { lo = a; hi = b }) → In (a *F z) I → In (b *F z) I → In (x *F z) I
by_left I a b x z h i j = in_≈ I (F_mul_comm z x) (by_right I z a b x h (in_≈ I (F_mul_comm a z) i) (in_≈ I (F_mul_comm b z) j))

-- for x from a to b and z from c to d
pub product_between : (a b c d x z : Frac) → In x (record { lo = a; hi = b }) → In z (record { lo = c; hi = d }) → In (x *F z) (extent (a *F c) (a *F d) (b *F c) (b *F d))
product_between a b c d x z h k = by_right _ x c d z k
    (by_left _ a b x c h (first_in _ _ _ _) (third_in _ _ _ _))
    (by_left _ a b x d h (second_in _ _ _ _) (fourth_in _ _ _ _))

-- ---- of marks
module _ {K : Type 0} (m : Model K) where
  module _ (a b c d : K) where
    abbrev four : Interval
    four = extent (m.value a *F m.value c) (m.value a *F m.value d) (m.value b *F m.value c) (m.value b *F m.value d)

    -- the least and the greatest of the products the other way round lie between these
    turned_low : least_product m a b c d ≤F least_product m c d a b
    turned_low = (least_is _ _ _ _ (λ x. In x four)
        (in_≈ four (F_mul_comm _ _) (first_in _ _ _ _)) (in_≈ four (F_mul_comm _ _) (third_in _ _ _ _))
        (in_≈ four (F_mul_comm _ _) (second_in _ _ _ _)) (in_≈ four (F_mul_comm _ _) (fourth_in _ _ _ _))).low

    turned_high : greatest_product m c d a b ≤F greatest_product m a b c d
    turned_high = (greatest_is _ _ _ _ (λ x. In x four)
        (in_≈ four (F_mul_comm _ _) (first_in _ _ _ _)) (in_≈ four (F_mul_comm _ _) (third_in _ _ _ _))
        (in_≈ four (F_mul_comm _ _) (second_in _ _ _ _)) (in_≈ four (F_mul_comm _ _) (fourth_in _ _ _ _))).high

  -- the factors of a product of spans may be exchanged
  pub product_turned : Rules m → (s t : Span K) → product m s t ≡ product m t s
  product_turned rules s t = ap₂ (ends m)
      (below_cong m rules (≤F_antisym (turned_low s.lower s.upper t.lower t.upper) (turned_low t.lower t.upper s.lower s.upper)))
      (above_cong m rules (≤F_antisym (turned_high t.lower t.upper s.lower s.upper) (turned_high s.lower s.upper t.lower t.upper)))
