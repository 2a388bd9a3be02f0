-- The operations of a grid as ratios of whole numbers of units. `round` stands for either direction.
use Rattle.std.proofs.Common.{◌≡◌, ℕ, zero, suc, ◌<◌, [], ◌∷◌, ℤ, pos, ◌+ℤ◌, ◌*ℤ◌, neg_ℤ, Option, sym, refl, ap, ◌∙◌, arith}
use Rattle.exact.specs.Optional.{◌>>=◌}
use Rattle.exact.specs.Fraction.{Frac, ◌+F◌, ◌*F◌, inv_F, over_top, unless_nought, inverse, ◌≈◌}
use Rattle.exact.proofs.Ring.{num, x0, x1, x2, ◌⊗◌, ◌⊕◌, ⊝◌}
use Rattle.exact.proofs.Integers.{ring}
use Rattle.kind.specs.Model.{sum_below, sum_above, product_below, product_above, quotient_below, quotient_above}
use Rattle.kind.specs.Grid.{Grid, Lawful, grid_value, grid_below, grid_above, grid_model, units_over}
use Rattle.kind.proofs.Orders.{below_cong, above_cong}
use Rattle.kind.proofs.GridRules.{grid_rules}

module _ {K : Type 0} (g : Grid K) where
  sum_ratio : (a b : K) (h : 0 < 1) → units_over g (g.size a +ℤ g.size b) 1 h ≈ (grid_value g a +F grid_value g b)
  unfolding ◌+F◌ units_over
  sum_ratio a b h = record { cross = ring (g.size a ∷ g.size b ∷ pos g.unit ∷ []) ((x0 ⊕ x1) ⊗ (x2 ⊗ x2)) ((x0 ⊗ x2 ⊕ x1 ⊗ x2) ⊗ (num (pos 1) ⊗ x2)) refl }

  product_ratio : (a b : K) → units_over g (g.size a *ℤ g.size b) g.unit g.some_unit ≈ (grid_value g a *F grid_value g b)
  unfolding ◌*F◌ units_over
  product_ratio a b = record { cross = refl }

  -- a quotient by d units, and by −d units
  module _ (round : Frac → Option K) (cong : (x y : Frac) → x ≈ y → round x ≡ round y) (a : K) where
    quotient_pos : (d : ℕ) (h : 0 < d) → round (units_over g (g.size a *ℤ pos g.unit) d h) ≡ (unless_nought (pos d) (over_top (pos d) g.unit) >>= (λ i. round (grid_value g a *F i)))
    unfolding ◌*F◌ over_top units_over
    quotient_pos zero h = absurd (omega arith)
    quotient_pos (suc d) h = cong _ _ (record { cross = ring (g.size a ∷ pos g.unit ∷ pos (suc d) ∷ []) ((x0 ⊗ x1) ⊗ (x1 ⊗ x2)) ((x0 ⊗ x1) ⊗ (x2 ⊗ x1)) refl })

    quotient_neg : (d : ℕ) (h : 0 < d) → round (units_over g (neg_ℤ (g.size a) *ℤ pos g.unit) d h) ≡ (unless_nought (neg_ℤ (pos d)) (over_top (neg_ℤ (pos d)) g.unit) >>= (λ i. round (grid_value g a *F i)))
    unfolding ◌*F◌ over_top units_over
    quotient_neg zero h = absurd (omega arith)
    quotient_neg (suc d) h = cong _ _ (record { cross = ring (g.size a ∷ pos g.unit ∷ pos (suc d) ∷ []) ((⊝ x0 ⊗ x1) ⊗ (x1 ⊗ x2)) ((x0 ⊗ ⊝ x1) ⊗ (x2 ⊗ x1)) refl })

    quotient_of : ℤ → Option K
    quotient_of z = unless_nought z (over_top z g.unit) >>= (λ i. round (grid_value g a *F i))

    by_pos : (b : K) (d : ℕ) (h : 0 < d) → g.size b ≡ pos d → round (units_over g (g.size a *ℤ pos g.unit) d h) ≡ (inverse (grid_value g b) >>= (λ i. round (grid_value g a *F i)))
    unfolding inv_F quotient_of
    by_pos b d h e = quotient_pos d h ∙ ap quotient_of (sym e)

    by_neg : (b : K) (d : ℕ) (h : 0 < d) → g.size b ≡ neg_ℤ (pos d) → round (units_over g (neg_ℤ (g.size a) *ℤ pos g.unit) d h) ≡ (inverse (grid_value g b) >>= (λ i. round (grid_value g a *F i)))
    unfolding inv_F quotient_of
    by_neg b d h e = quotient_neg d h ∙ ap quotient_of (sym e)

  module _ (l : Lawful g) where
    pub below : (x y : Frac) → x ≈ y → grid_below g x ≡ grid_below g y
    below x y e = below_cong (grid_model g) (grid_rules g l) e

    pub above : (x y : Frac) → x ≈ y → grid_above g x ≡ grid_above g y
    above x y e = above_cong (grid_model g) (grid_rules g l) e

    pub sum_below_is : (a b : K) (h : 0 < 1) → grid_below g (units_over g (g.size a +ℤ g.size b) 1 h) ≡ sum_below (grid_model g) a b
    sum_below_is a b h = below _ _ (sum_ratio a b h)

    pub sum_above_is : (a b : K) (h : 0 < 1) → grid_above g (units_over g (g.size a +ℤ g.size b) 1 h) ≡ sum_above (grid_model g) a b
    sum_above_is a b h = above _ _ (sum_ratio a b h)

    pub product_below_is : (a b : K) → grid_below g (units_over g (g.size a *ℤ g.size b) g.unit g.some_unit) ≡ product_below (grid_model g) a b
    product_below_is a b = below _ _ (product_ratio a b)

    pub product_above_is : (a b : K) → grid_above g (units_over g (g.size a *ℤ g.size b) g.unit g.some_unit) ≡ product_above (grid_model g) a b
    product_above_is a b = above _ _ (product_ratio a b)

    pub quotient_below_pos : (a b : K) (d : ℕ) (h : 0 < d) → g.size b ≡ pos d → grid_below g (units_over g (g.size a *ℤ pos g.unit) d h) ≡ quotient_below (grid_model g) a b
    quotient_below_pos a b d h e = by_pos (grid_below g) below a b d h e

    pub quotient_below_neg : (a b : K) (d : ℕ) (h : 0 < d) → g.size b ≡ neg_ℤ (pos d) → grid_below g (units_over g (neg_ℤ (g.size a) *ℤ pos g.unit) d h) ≡ quotient_below (grid_model g) a b
    quotient_below_neg a b d h e = by_neg (grid_below g) below a b d h e

    pub quotient_above_pos : (a b : K) (d : ℕ) (h : 0 < d) → g.size b ≡ pos d → grid_above g (units_over g (g.size a *ℤ pos g.unit) d h) ≡ quotient_above (grid_model g) a b
    quotient_above_pos a b d h e = by_pos (grid_above g) above a b d h e

    pub quotient_above_neg : (a b : K) (d : ℕ) (h : 0 < d) → g.size b ≡ neg_ℤ (pos d) → grid_above g (units_over g (neg_ℤ (g.size a) *ℤ pos g.unit) d h) ≡ quotient_above (grid_model g) a b
    quotient_above_neg a b d h e = by_neg (grid_above g) above a b d h e
