-- Monotony: spans that lie within others have results that are there too, and lie within theirs.
use Rattle.std.proofs.Common.{◌≡◌, ℤ, Some, Option, subst}
use Rattle.exact.proofs.Order.{≤F_refl, ≤F_trans}
use Rattle.exact.proofs.Signs.{0F}
use Rattle.exact.specs.Fraction.{Frac, ◌≤F◌}
use Rattle.kind.specs.Model.{Model, Rules, count}
use Rattle.span.proofs.Enclose.{greater_ind, greater_left, greater_right, lesser_ind, lesser_left, lesser_right}
use Rattle.span.proofs.Enclosing.{counts_in, never}
use Rattle.span.proofs.MagnitudeNarrow.{magnitude_narrow, square_narrow}
use Rattle.span.proofs.ProductNarrow.{product_narrow}
use Rattle.span.proofs.QuotientNarrow.{quotient_law}
use Rattle.span.proofs.SumNarrow.{counts_narrow, difference_narrow, sum_narrow}
use Rattle.span.proofs.Unique.{narrower}
use Rattle.span.specs.Laws.{Counts, One, Two}
use Rattle.span.specs.Narrowest.{Held, Inner, Narrowest, Ordered, Within}
use Rattle.span.specs.Spans.{difference, greater, greater_mark, hull, lesser, lesser_mark, magnitude, meet, of_counts, product, quotient, square, sum}
use Rattle.span.specs.declared.span.Span.{Span}

module _ {K : Type 0} (m : Model K) where
  pub within_held : (s t : Span K) → Within m s t → (x : Frac) → Held m s x → Held m t x
  within_held s t w x h = record { low = ≤F_trans w.low h.low; high = ≤F_trans h.high w.high }

  pub within_refl : (s : Span K) → Within m s s
  within_refl s = record { low = ≤F_refl _; high = ≤F_refl _ }

  two : (R : Frac → Frac → Frac → Type 0) (s t s' t' : Span K) → Within m s' s → Within m t' t → (x : Frac) → Two m R s' t' x → Two m R s t x
  two R s t s' t' p q x k = record { left = k.left; right = k.right; in_left = within_held s' s p _ k.in_left; in_right = within_held t' t q _ k.in_right; is = k.is }

  one : (R : Frac → Frac → Type 0) (s s' : Span K) → Within m s' s → (x : Frac) → One m R s' x → One m R s x
  one R s s' p x k = record { from = k.from; in_from = within_held s' s p _ k.in_from; is = k.is }

  -- of the narrowest spans over a set and over a part of it
  part : (S S' : Frac → Type 0) (o o' : Option (Span K)) (w : Span K) → ((x : Frac) → S' x → S x) → o ≡ Some w → Narrowest m S o → Narrowest m S' o' → Inner m o' w
  part S S' o o' w f e n n' = narrower m S S' f o' w n' (subst (Narrowest m S) e n)

  module _ (rules : Rules m) (s t s' t' w : Span K) (hs : Ordered m s) (ht : Ordered m t) (hs' : Ordered m s') (ht' : Ordered m t') (p : Within m s' s) (q : Within m t' t) where
    pub sum_nested : sum m s t ≡ Some w → Inner m (sum m s' t') w
    sum_nested e = part _ _ _ _ w (two _ s t s' t' p q) e (sum_narrow m rules s t hs ht) (sum_narrow m rules s' t' hs' ht')

    pub difference_nested : difference m s t ≡ Some w → Inner m (difference m s' t') w
    difference_nested e = part _ _ _ _ w (two _ s t s' t' p q) e (difference_narrow m rules s t hs ht) (difference_narrow m rules s' t' hs' ht')

    pub product_nested : product m s t ≡ Some w → Inner m (product m s' t') w
    product_nested e = part _ _ _ _ w (two _ s t s' t' p q) e (product_narrow m rules s t hs ht) (product_narrow m rules s' t' hs' ht')

    pub quotient_nested : quotient m s t ≡ Some w → Inner m (quotient m s' t') w
    quotient_nested e = part _ _ _ _ w (two _ s t s' t' p q) e
        ((quotient_law m rules s t hs ht).other away) ((quotient_law m rules s' t' hs' ht').other (λ z. away (within_held t' t q _ z)))
      where
        away : Held m t 0F → ⊥
        away z = never (quotient m s t) w ((quotient_law m rules s t hs ht).zero z) e

  module _ (rules : Rules m) (s s' w : Span K) (hs : Ordered m s) (hs' : Ordered m s') (p : Within m s' s) where
    pub square_nested : square m s ≡ Some w → Inner m (square m s') w
    square_nested e = part _ _ _ _ w (one _ s s' p) e (square_narrow m rules s hs) (square_narrow m rules s' hs')

    pub magnitude_nested : Within m (magnitude m s') (magnitude m s)
    magnitude_nested = (magnitude_narrow m rules s' hs').least (magnitude m s) (λ x k. (magnitude_narrow m rules s hs).holds x (one _ s s' p x k))

  module _ (rules : Rules m) (l u l' u' : ℤ) (s s' : Span K) where
    pub counts_nested : of_counts m l u ≡ Some s → of_counts m l' u' ≡ Some s' → count l ≤F count l' → count l' ≤F count u' → count u' ≤F count u → Within m s' s
    counts_nested e e' a o z = (subst (Narrowest m (Counts m l' u')) e' (counts_narrow m rules l' u' o)).least s (λ x i. counts_in m rules l u s x e (≤F_trans a i.0) (≤F_trans i.1 z))

  -- ---- nothing rounded
  greater_mono : (a b a' b' : K) → m.value a ≤F m.value a' → m.value b ≤F m.value b' → m.value (greater_mark m a b) ≤F m.value (greater_mark m a' b')
  greater_mono a b a' b' p q = greater_ind m a b (λ k. m.value k ≤F m.value (greater_mark m a' b')) (≤F_trans p (greater_left m a' b')) (≤F_trans q (greater_right m a' b'))

  lesser_mono : (a b a' b' : K) → m.value a ≤F m.value a' → m.value b ≤F m.value b' → m.value (lesser_mark m a b) ≤F m.value (lesser_mark m a' b')
  lesser_mono a b a' b' p q = lesser_ind m a' b' (λ k. m.value (lesser_mark m a b) ≤F m.value k) (≤F_trans (lesser_left m a b) p) (≤F_trans (lesser_right m a b) q)

  pub greater_nested : (s t s' t' : Span K) → Within m s' s → Within m t' t → Within m (greater m s' t') (greater m s t)
  greater_nested s t s' t' p q = record { low = greater_mono _ _ _ _ p.low q.low; high = greater_mono _ _ _ _ p.high q.high }

  pub lesser_nested : (s t s' t' : Span K) → Within m s' s → Within m t' t → Within m (lesser m s' t') (lesser m s t)
  lesser_nested s t s' t' p q = record { low = lesser_mono _ _ _ _ p.low q.low; high = lesser_mono _ _ _ _ p.high q.high }

  pub hull_nested : (s t s' t' : Span K) → Within m s' s → Within m t' t → Within m (hull m s' t') (hull m s t)
  hull_nested s t s' t' p q = record { low = lesser_mono _ _ _ _ p.low q.low; high = greater_mono _ _ _ _ p.high q.high }

  -- a hull holds each side
  pub left_in_hull : (s t s' : Span K) → Within m s' s → Within m s' (hull m s t)
  left_in_hull s t s' p = record { low = ≤F_trans (lesser_left m _ _) p.low; high = ≤F_trans p.high (greater_left m _ _) }

  pub right_in_hull : (s t t' : Span K) → Within m t' t → Within m t' (hull m s t)
  right_in_hull s t t' q = record { low = ≤F_trans (lesser_right m _ _) q.low; high = ≤F_trans q.high (greater_right m _ _) }

  pub meet_nested : (s t s' t' : Span K) → Within m s' s → Within m t' t → Within m (meet m s' t') (meet m s t)
  meet_nested s t s' t' p q = record { low = greater_mono _ _ _ _ p.low q.low; high = lesser_mono _ _ _ _ p.high q.high }
