-- The span [1]: what is found to be it is it, and the product with it, on either side, is the span with its ends in order.
use Rattle.std.proofs.Common.{◌≡◌, true, Some, refl, ◌∙◌, ap, ap₂}
use Rattle.std.proofs.lemmas.Bool.{and_parts}
use Rattle.exact.proofs.Fractions.{*-cong, F_mul_comm, F_one_mul, ≈_refl, ≈_sym, ≈_trans}
use Rattle.exact.proofs.Order.{le_F_true, le_F_yes, ≤F_antisym, ≤F_of_≈, ≤F_refl, ≤F_trans}
use Rattle.exact.specs.Fraction.{Frac, ◌*F◌, ◌≈◌, ◌≤F◌}
use Rattle.kind.proofs.Orders.{above_mark, below_mark}
use Rattle.kind.specs.Model.{Model, Rules, greatest_product, least_product}
use Rattle.span.proofs.Enclose.{greater_ind, greater_left, greater_right, lesser_ind, lesser_left, lesser_right}
use Rattle.span.proofs.Least.{first_in, greatest_is, least_is, product_turned, third_in}
use Rattle.span.specs.Narrowest.{Ordered}
use Rattle.span.specs.Spans.{ends, greater_mark, is_one, lesser_mark, one_span, product, sorted, span}
use Rattle.span.specs.declared.span.Span.{Span}

module _ {K : Type 0} (m : Model K) (rules : Rules m) where
  pub is_one_is : (s : Span K) → is_one m s ≡ true → s ≡ one_span m
  is_one_is s e =
      let p = and_parts _ _ e in let q = and_parts _ _ p.0 in let r = and_parts _ _ q.0 in
      ap₂ (λ a b. span m a b)
      (rules.distinct _ _ (≤F_antisym (le_F_yes _ _ q.1) (le_F_yes _ _ r.0)))
      (rules.distinct _ _ (≤F_antisym (le_F_yes _ _ r.1) (le_F_yes _ _ p.1)))

  -- ---- marks
  times_unit : (x : Frac) → (x *F m.value m.unit) ≈ x
  times_unit x = ≈_trans (F_mul_comm _ _) (≈_trans (*-cong rules.unit_is (≈_refl x)) (F_one_mul x))

  module _ (a b : K) where
    least_by_unit : least_product m a b m.unit m.unit ≈ m.value (lesser_mark m a b)
    least_by_unit = ≤F_antisym
        (lesser_ind m a b (λ k. least_product m a b m.unit m.unit ≤F m.value k)
        (≤F_trans (first_in _ _ _ _).low (≤F_of_≈ (times_unit _))) (≤F_trans (third_in _ _ _ _).low (≤F_of_≈ (times_unit _))))
        (least_is _ _ _ _ (λ x. m.value (lesser_mark m a b) ≤F x) left left right right)
      where
        left : m.value (lesser_mark m a b) ≤F (m.value a *F m.value m.unit)
        left = ≤F_trans (lesser_left m a b) (≤F_of_≈ (≈_sym (times_unit _)))

        right : m.value (lesser_mark m a b) ≤F (m.value b *F m.value m.unit)
        right = ≤F_trans (lesser_right m a b) (≤F_of_≈ (≈_sym (times_unit _)))

    greatest_by_unit : greatest_product m a b m.unit m.unit ≈ m.value (greater_mark m a b)
    greatest_by_unit = ≤F_antisym
        (greatest_is _ _ _ _ (λ x. x ≤F m.value (greater_mark m a b)) left left right right)
        (greater_ind m a b (λ k. m.value k ≤F greatest_product m a b m.unit m.unit)
        (≤F_trans (≤F_of_≈ (≈_sym (times_unit _))) (first_in _ _ _ _).high) (≤F_trans (≤F_of_≈ (≈_sym (times_unit _))) (third_in _ _ _ _).high))
      where
        left : (m.value a *F m.value m.unit) ≤F m.value (greater_mark m a b)
        left = ≤F_trans (≤F_of_≈ (times_unit _)) (greater_left m a b)

        right : (m.value b *F m.value m.unit) ≤F m.value (greater_mark m a b)
        right = ≤F_trans (≤F_of_≈ (times_unit _)) (greater_right m a b)

  -- ---- products
  pub product_one : (s : Span K) → product m s (one_span m) ≡ Some (sorted m s)
  product_one s = ap₂ (ends m) (below_mark m rules _ (least_by_unit s.lower s.upper)) (above_mark m rules _ (greatest_by_unit s.lower s.upper))

  pub one_product : (s : Span K) → product m (one_span m) s ≡ Some (sorted m s)
  one_product s = product_turned m rules (one_span m) s ∙ product_one s

  -- ---- what is in order stays as it is
  in_order : (s : Span K) → Ordered m s → sorted m s ≡ s
  in_order s h = rw (le_F_true _ _ h) refl

  pub one_one : product m (one_span m) (one_span m) ≡ Some (one_span m)
  one_one = product_one (one_span m) ∙ ap Some (in_order (one_span m) (≤F_refl _))
