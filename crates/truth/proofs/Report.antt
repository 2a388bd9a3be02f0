-- The forms of a report as identities.
use mathlib.Core.List.{[], ◌∷◌}
use mathlib.Core.Path.{refl}
use lib.IntN.{pos}
use Rattle.exact.proofs.Fractions.{F_ring, ≈_sym}
use Rattle.exact.proofs.Ring.{◌⊕◌, ◌⊖◌, ◌⊗◌, combine, num, x0, x1, x2, x3, x4}
use Rattle.exact.specs.Fraction.{Frac, ◌*F◌, ◌+F◌, ◌≈◌}
use Rattle.truth.specs.Truth.{Slope}

pub first_form : {h u u0 a b c : Frac} → Slope h u u0 a b c → (u0 +F a *F h) ≈ u
first_form {h} {u} {u0} {a} s = ≈_sym (combine F_ring (u ∷ u0 ∷ a ∷ h ∷ []) x0 (x1 ⊕ x2 ⊗ x3)
    (record { by = num (pos 1); lhs = x0 ⊖ x1; rhs = x2 ⊗ x3 } ∷ []) (s.first, tt) refl)

pub second_form : {h u u0 a b c : Frac} → Slope h u u0 a b c → (u0 +F (b *F h +F c *F (h *F h))) ≈ u
second_form {h} {u} {u0} {a} {b} {c} s = ≈_sym (combine F_ring (u ∷ u0 ∷ b ∷ c ∷ h ∷ []) x0 (x1 ⊕ (x2 ⊗ x4 ⊕ x3 ⊗ (x4 ⊗ x4)))
    (record { by = num (pos 1); lhs = x0 ⊖ x1; rhs = x2 ⊗ x4 ⊕ x3 ⊗ x4 ⊗ x4 } ∷ []) (s.second, tt) refl)
