-- The law of the square.
use mathlib.Core.List.{[], ◌∷◌}
use mathlib.Core.Path.{refl}
use lib.IntN.{pos}
use Rattle.exact.proofs.Fractions.{ring_F}
use Rattle.exact.proofs.Ring.{◌⊕◌, ◌⊖◌, ◌⊗◌, num, x0, x1}
use Rattle.exact.proofs.Signs.{1F}
use Rattle.exact.specs.Fraction.{Frac, ◌+F◌, whole}
use Rattle.exact.specs.Interval.{In, Interval}
use Rattle.truth.specs.Curve.{CurveLaw, square_F}

pub square_law : (U U0 E G K : Interval) → ((a b : Frac) → In a U0 → In b U0 → In (a +F b) E) → ((a b : Frac) → In a U → In b U0 → In (a +F b) G) → In 1F K → CurveLaw square_F U U0 E G K
unfolding square_F
square_law U U0 E G K dE dG iK u u0 i i0 j = record {
  e = u0 +F u0;
  g = u +F u0;
  k = whole (pos 1);
  e_in = dE u0 u0 i0 i0;
  g_in = dG u u0 i i0;
  k_in = iK;
  rise = ring_F (u ∷ u0 ∷ []) (x0 ⊗ x0 ⊖ x1 ⊗ x1) ((x0 ⊕ x1) ⊗ (x0 ⊖ x1)) refl;
  bend = ring_F (u ∷ u0 ∷ []) (x0 ⊕ x1) (x1 ⊕ x1 ⊕ num (pos 1) ⊗ (x0 ⊖ x1)) refl;
}
