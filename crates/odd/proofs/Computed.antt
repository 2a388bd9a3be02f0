-- What the code of the odd kind computes is rounding.
use Rattle.std.specs.Prelude.{◌≡◌, zero, suc, ◌^◌, ◌<◌, ◌≤◌, ℤ, pos, negsuc, ◌+ℤ◌, ◌*ℤ◌, neg_ℤ, ◌≤ℤ◌, ◌<ℤ◌, Bool, true, false, cond, Some, None, Option, int_le, int_lt, unsigned_abs, refl}
use Rattle.std.proofs.Common.{◌∙◌, ap, ap₂, subst, sym, arith, w64, to_z, of_z, lit<, lit≤}
use lib.Signed.{mag}
use Rattle.std.proofs.lemmas.Int.{ints, to_z-of_z}
use Rattle.std.specs.Int.{int_div_euclid, int_max, int_min}
use Rattle.std.specs.Option.{option_zip}
use Rattle.exact.proofs.Floors.{floor_greatest, floor_low}
use Rattle.exact.proofs.Integers.{leZ_times, ≤ℤ_cancel, ≤ℤ_trans}
use Rattle.exact.specs.Floor.{ceiling, floor}
use Rattle.exact.specs.Fraction.{Frac, ◌*F◌, inv_F, le_F, max_F, min_F, neg_F, over_top}
use Rattle.exact.specs.Optional.{◌>>=◌}
use Rattle.kind.proofs.GridOps.{below, product_above_is, product_below_is, sum_above_is, sum_below_is}
use Rattle.kind.proofs.GridRules.{above_of, ratio_none_over, ratio_none_under, ratio_some}
use Rattle.kind.specs.Grid.{grid_above, grid_below, grid_value, inside?, units_over}
use Rattle.kind.specs.Model.{at_most, count, greatest_above, least_below, product_above, product_below, quotient_above, quotient_below, sum_above, sum_below}
use Rattle.odd.specs.Grid.{negative, sign_grid, sign_model, sign_of, whole}
use Rattle.odd.specs.declared.sign.Sign.{Sign}
use Rattle.odd.specs.declared.sign.Sign.TheVariants.{Minus, Nought, Plus}
use Rattle.odd.specs.Signs.{Marked, marked, sign_lawful}

pub small : (a : Sign) → unsigned_abs (whole a) ≤ 1
small Minus = lit≤ tt
small Nought = lit≤ tt
small Plus = lit≤ tt

-- ---- whole numbers
whole_below : (n : ℤ) (h : 0 < 1) → sign_of n ≡ grid_below sign_grid (units_over sign_grid n 1 h)
unfolding sign_of grid_below inside? floor units_over le_F neg_F
whole_below (pos zero) h = refl
whole_below (pos (suc zero)) h = refl
whole_below (pos (suc (suc n))) h = ratio_none_over sign_grid sign_lawful (pos (suc (suc n))) 1 h (omega (arith, ints))
whole_below (negsuc zero) h = refl
whole_below (negsuc (suc n)) h = ratio_none_under sign_grid sign_lawful (negsuc (suc n)) 1 h (omega (arith, ints))

whole_above : (n : ℤ) (h : 0 < 1) → sign_of n ≡ grid_above sign_grid (units_over sign_grid n 1 h)
unfolding sign_of grid_above grid_below inside? floor units_over le_F neg_F
whole_above (pos zero) h = refl
whole_above (pos (suc zero)) h = refl
whole_above (pos (suc (suc n))) h = above_of sign_grid sign_lawful (pos (suc (suc n))) _ 1 h _ refl (whole_below (negsuc (suc n)) h)
whole_above (negsuc zero) h = refl
whole_above (negsuc (suc n)) h = above_of sign_grid sign_lawful (negsuc (suc n)) _ 1 h _ refl (whole_below (pos (suc (suc n))) h)

pub sum_is_below : (a b : Sign) → sign_of (whole a +ℤ whole b) ≡ sum_below sign_model a b
sum_is_below a b = whole_below _ (lit< tt) ∙ sum_below_is sign_grid sign_lawful a b (lit< tt)

pub sum_is_above : (a b : Sign) → sign_of (whole a +ℤ whole b) ≡ sum_above sign_model a b
sum_is_above a b = whole_above _ (lit< tt) ∙ sum_above_is sign_grid sign_lawful a b (lit< tt)

pub product_is_below : (a b : Sign) → sign_of (whole a *ℤ whole b) ≡ product_below sign_model a b
product_is_below a b = whole_below _ (lit< tt) ∙ product_below_is sign_grid sign_lawful a b

pub product_is_above : (a b : Sign) → sign_of (whole a *ℤ whole b) ≡ product_above sign_model a b
product_is_above a b = whole_above _ (lit< tt) ∙ product_above_is sign_grid sign_lawful a b

-- ---- the least and the greatest of products
over : ℤ → Frac
over z = units_over sign_grid z 1 (lit< tt)

module _ (x y : ℤ) where
  in_order_over : le_F (over x) (over y) ≡ int_le x y
  unfolding over le_F units_over
  in_order_over = leZ_times x y 1 (lit< tt)

  -- the test of the code is the other way round
  chosen : (u v : ℤ) (s t : Bool) → int_le x y ≡ s → int_lt y x ≡ t → cond s (over u) (over v) ≡ over (cond t v u)
  chosen u v true true p q = absurd (omega (arith, ints))
  chosen u v true false p q = refl
  chosen u v false true p q = refl
  chosen u v false false p q = absurd (omega (arith, ints))

  min_over : min_F (over x) (over y) ≡ over (int_min x y)
  unfolding min_F
  min_over = chosen x y _ _ (sym in_order_over) refl

  max_over : max_F (over x) (over y) ≡ over (int_max x y)
  unfolding max_F
  max_over = chosen y x _ _ (sym in_order_over) refl

module _ (a b c d : Sign) where
  pub least_is : sign_of (int_min (int_min (whole a *ℤ whole c) (whole a *ℤ whole d))
      (int_min (whole b *ℤ whole c) (whole b *ℤ whole d))) ≡ least_below sign_model a b c d
  unfolding over units_over ◌*F◌
  least_is = whole_below _ (lit< tt) ∙ ap (grid_below sign_grid) (sym (ap₂ min_F (min_over _ _) (min_over _ _) ∙ min_over _ _))

  pub greatest_is : sign_of (int_max (int_max (whole a *ℤ whole c) (whole a *ℤ whole d))
      (int_max (whole b *ℤ whole c) (whole b *ℤ whole d))) ≡ greatest_above sign_model a b c d
  unfolding over units_over ◌*F◌
  greatest_is = whole_above _ (lit< tt) ∙ ap (grid_above sign_grid) (sym (ap₂ max_F (max_over _ _) (max_over _ _) ∙ max_over _ _))

pub zipped : (p q : Option Sign) → ◌≡◌ {A = Option (Sign × Sign)} (option_zip p q) (p >>= (λ l. q >>= (λ u. Some (l, u))))
zipped None q = refl
zipped (Some l) None = refl
zipped (Some l) (Some u) = refl

-- ---- quotients by each mark
pub quotient_minus_below : (a : Sign) → Some (negative a) ≡ quotient_below sign_model a Minus
unfolding sign_of grid_below inside? floor le_F neg_F ◌*F◌ inv_F over_top
quotient_minus_below Minus = refl
quotient_minus_below Nought = refl
quotient_minus_below Plus = refl

pub quotient_minus_above : (a : Sign) → Some (negative a) ≡ quotient_above sign_model a Minus
unfolding sign_of grid_above grid_below inside? floor le_F neg_F ◌*F◌ inv_F over_top
quotient_minus_above Minus = refl
quotient_minus_above Nought = refl
quotient_minus_above Plus = refl

pub quotient_plus_below : (a : Sign) → Some a ≡ quotient_below sign_model a Plus
unfolding sign_of grid_below inside? floor le_F neg_F ◌*F◌ inv_F over_top
quotient_plus_below Minus = refl
quotient_plus_below Nought = refl
quotient_plus_below Plus = refl

pub quotient_plus_above : (a : Sign) → Some a ≡ quotient_above sign_model a Plus
unfolding sign_of grid_above grid_below inside? floor le_F neg_F ◌*F◌ inv_F over_top
quotient_plus_above Minus = refl
quotient_plus_above Nought = refl
quotient_plus_above Plus = refl

-- ---- order and counts
pub in_order : (a b : Sign) → at_most sign_model a b ≡ int_le (whole a) (whole b)
unfolding le_F
in_order Minus Minus = refl
in_order Minus Nought = refl
in_order Minus Plus = refl
in_order Nought Minus = refl
in_order Nought Nought = refl
in_order Nought Plus = refl
in_order Plus Minus = refl
in_order Plus Nought = refl
in_order Plus Plus = refl

-- what the code computes, at the numbers that are meant
pub at_sign : (r : Option Sign) (z n : ℤ) → r ≡ sign_of z → z ≡ n → r ≡ sign_of n
at_sign r z n p e = p ∙ ap sign_of e

pub plain : (r z : ℤ) → r ≡ z → mag r < 2 ^ 63 → to_z w64 (of_z w64 r) ≡ z
plain r z e h = to_z-of_z w64 r (omega (arith, ints)) ∙ e

pub at_above : (r : Option Sign) (z n : ℤ) → r ≡ grid_below sign_grid (count z) → z ≡ neg_ℤ n → (r >>= (λ s. Some (negative s))) ≡ grid_above sign_grid (count n)
unfolding grid_above neg_F
at_above r z n p e = ap (λ (o : Option Sign). o >>= (λ s. Some (negative s))) (p ∙ ap (λ (y : ℤ). grid_below sign_grid (count y)) e)

pub floor_is : (a : Sign) → whole a *ℤ pos 65536 ≡ floor 65536 (grid_value sign_grid a)
unfolding floor
floor_is Minus = refl
floor_is Nought = refl
floor_is Plus = refl

pub ceiling_is : (a : Sign) → whole a *ℤ pos 65536 ≡ ceiling 65536 (grid_value sign_grid a)
unfolding ceiling floor neg_F
ceiling_is Minus = refl
ceiling_is Nought = refl
ceiling_is Plus = refl

-- n/65,536 from −1 to 1, and beyond
at_count : (n : ℤ) (h : 0 < 65536) → grid_below sign_grid (units_over sign_grid n 65536 h) ≡ grid_below sign_grid (count n)
unfolding units_over
at_count n h = below sign_grid sign_lawful _ _ (record { cross = refl })

pub count_inside : (n : ℤ) → neg_ℤ (pos 65536) ≤ℤ n → n ≤ℤ pos 65536 → sign_of (int_div_euclid n (pos 65536)) ≡ grid_below sign_grid (count n)
count_inside n p q = s.found ∙ ratio_some sign_grid sign_lawful n 65536 (lit< tt) s.mark
    (subst (λ (z : ℤ). (z *ℤ pos 65536) ≤ℤ n) (sym s.is) (floor_low n 65536 (lit< tt))) (omega (arith, ints))
    (λ a h. subst (λ (z : ℤ). whole a ≤ℤ z) (sym s.is) (floor_greatest n 65536 (lit< tt) (whole a) h)) ∙ at_count n (lit< tt)
  where
    s : Marked (int_div_euclid n (pos 65536))
    s = marked _ (floor_greatest n 65536 (lit< tt) (neg_ℤ (pos 1)) (omega (arith, ints)))
        (≤ℤ_cancel (int_div_euclid n (pos 65536)) (pos 1) 65536 (lit< tt) (≤ℤ_trans (floor_low n 65536 (lit< tt)) (omega (arith, ints))))

pub count_over : (n : ℤ) → pos 65536 <ℤ n → None ≡ grid_below sign_grid (count n)
count_over n p = ratio_none_over sign_grid sign_lawful n 65536 (lit< tt) (omega (arith, ints)) ∙ at_count n (lit< tt)

pub count_under : (n : ℤ) → n <ℤ neg_ℤ (pos 65536) → None ≡ grid_below sign_grid (count n)
count_under n p = ratio_none_under sign_grid sign_lawful n 65536 (lit< tt) (omega (arith, ints)) ∙ at_count n (lit< tt)

pub count_beyond : (n : ℤ) → 65536 < unsigned_abs n → None ≡ grid_below sign_grid (count n)
count_beyond (pos a) p = count_over (pos a) (omega (arith, ints))
count_beyond (negsuc a) p = count_under (negsuc a) (omega (arith, ints))
