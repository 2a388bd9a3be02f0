-- The span [0]: what is found to be it is it, it leaves a sum as it was, and any product with it is it, of spans in any order.
use Rattle.std.proofs.Common.{◌≡◌, true, Some, Option, sym, ◌∙◌, ap₂, subst}
use Rattle.std.proofs.lemmas.Bool.{and_parts}
use Rattle.exact.proofs.Fractions.{*-cong, +-cong, F_add_comm, F_mul_comm, F_neg_is, F_zero_add, F_zero_mul, ≈_refl, ≈_sym, ≈_trans}
use Rattle.exact.proofs.Order.{le_F_yes, ≤F_antisym}
use Rattle.exact.specs.Fraction.{Frac, ◌*F◌, ◌+F◌, ◌≈◌}
use Rattle.kind.proofs.Orders.{above_mark, below_mark}
use Rattle.kind.specs.Model.{Model, Rules}
use Rattle.span.proofs.Least.{greatest_is, least_is, product_turned}
use Rattle.span.specs.Spans.{difference, ends, is_nought, is_zero, product, span, sum, zero_span}
use Rattle.span.specs.declared.span.Span.{Span}

module _ {K : Type 0} (m : Model K) (rules : Rules m) where
  is_nought_is : (a : K) → is_nought m a ≡ true → a ≡ m.nought
  is_nought_is a e = let p = and_parts _ _ e in rules.distinct _ _ (≤F_antisym (le_F_yes _ _ p.0) (le_F_yes _ _ p.1))

  pub is_zero_is : (s : Span K) → is_zero m s ≡ true → s ≡ zero_span m
  is_zero_is s e = let p = and_parts _ _ e in ap₂ (λ a b. span m a b) (is_nought_is s.lower p.0) (is_nought_is s.upper p.1)

  -- ---- marks
  nought_times : (x : Frac) → (m.value m.nought *F x) ≈ m.value m.nought
  nought_times x = ≈_trans (*-cong rules.nought_is (≈_refl x)) (≈_trans (F_zero_mul x) (≈_sym rules.nought_is))

  times_nought : (x : Frac) → (x *F m.value m.nought) ≈ m.value m.nought
  times_nought x = ≈_trans (F_mul_comm _ _) (nought_times x)

  nought_plus : (x : Frac) → (m.value m.nought +F x) ≈ x
  nought_plus x = ≈_trans (+-cong rules.nought_is (≈_refl x)) (F_zero_add x)

  plus_nought : (x : Frac) → (x +F m.value m.nought) ≈ x
  plus_nought x = ≈_trans (F_add_comm _ _) (nought_plus x)

  opposite_nought : m.opposite m.nought ≡ m.nought
  opposite_nought = rules.distinct _ _ (≈_trans (rules.opposite_is m.nought) (≈_trans (F_neg_is _) (≈_trans (F_mul_comm _ _) (nought_times _))))

  ends_of : (o p : Option K) (a b : K) → o ≡ Some a → p ≡ Some b → ends m o p ≡ Some (span m a b)
  ends_of o p a b e f = ap₂ (ends m) e f

  -- ---- sums
  pub sum_zero : (s : Span K) → sum m s (zero_span m) ≡ Some s
  sum_zero s = ends_of _ _ s.lower s.upper (below_mark m rules s.lower (plus_nought _)) (above_mark m rules s.upper (plus_nought _))

  pub zero_sum : (s : Span K) → sum m (zero_span m) s ≡ Some s
  zero_sum s = ends_of _ _ s.lower s.upper (below_mark m rules s.lower (nought_plus _)) (above_mark m rules s.upper (nought_plus _))

  pub difference_zero : (s : Span K) → difference m s (zero_span m) ≡ Some s
  difference_zero s = subst (λ a. sum m s (span m a a) ≡ Some s) (sym opposite_nought) (sum_zero s)

  -- ---- products
  -- all four products are 0
  pub product_zero : (s : Span K) → product m s (zero_span m) ≡ Some (zero_span m)
  product_zero s = ends_of _ _ m.nought m.nought
      (below_mark m rules m.nought (least_is _ _ _ _ (λ x. x ≈ m.value m.nought) (times_nought _) (times_nought _) (times_nought _) (times_nought _)))
      (above_mark m rules m.nought (greatest_is _ _ _ _ (λ x. x ≈ m.value m.nought) (times_nought _) (times_nought _) (times_nought _) (times_nought _)))

  pub zero_product : (s : Span K) → product m (zero_span m) s ≡ Some (zero_span m)
  zero_product s = product_turned m rules (zero_span m) s ∙ product_zero s
