-- One over a fraction that is not 0.
use Rattle.std.proofs.Common.{◌≡◌, ℕ, zero, suc, ◌<◌, ◌≢◌, [], ◌∷◌, ℤ, pos, negsuc, ◌*ℤ◌, ◌<ℤ◌, Some, refl, arith}
use borrow.Author.Differences.{ints}
use Rattle.exact.specs.Fraction.{Frac, ratio, whole, ◌*F◌, ◌≈◌, ◌≤F◌, ◌<F◌, Nonzero, inv_F, over_top, unless_nought, inverse}
use Rattle.exact.proofs.Ring.{num, ◌⊖◌, ◌⊗◌, ⊝◌, combine, x0, x1, x2, x3}
use Rattle.exact.proofs.Integers.{ring}
use Rattle.exact.proofs.Fractions.{F_ring}
use Rattle.exact.proofs.Order.{NN, le→nn, nn→le, nn_mul, nn-≈}
use Rattle.exact.proofs.Signs.{0F}

nonzero_top : {x : Frac} → Nonzero x → x.top ≢ pos 0
unfolding whole
nonzero_top {x} n e = n (record { cross = omega (arith, ints) })

over_ok : (t : ℤ) (d : ℕ) (h : 0 < d) → t ≢ pos 0 → (ratio t d h *F over_top t d) ≈ whole (pos 1)
unfolding ◌*F◌ over_top whole
over_ok (pos zero) d h k = absurd (k refl)
over_ok (pos (suc n)) d h k = record { cross = ring (pos (suc n) ∷ pos d ∷ []) (x0 ⊗ x1 ⊗ num (pos 1)) (num (pos 1) ⊗ (x1 ⊗ x0)) refl }
over_ok (negsuc n) d h k = record { cross = ring (negsuc n ∷ pos d ∷ []) (x0 ⊗ ⊝ x1 ⊗ num (pos 1)) (num (pos 1) ⊗ (x1 ⊗ ⊝ x0)) refl }

-- the inverse is there, or x is 0
there : (t : ℤ) (y : Frac) → t ≢ pos 0 → unless_nought t y ≡ Some y
there (pos zero) y n = absurd (n refl)
there (pos (suc k)) y n = refl
there (negsuc k) y n = refl

pub inverse_some : (x : Frac) → Nonzero x → inverse x ≡ Some (inv_F x)
inverse_some x n = there x.top (inv_F x) (nonzero_top n)

pub inv_ok : (v : Frac) → Nonzero v → (v *F inv_F v) ≈ whole (pos 1)
unfolding inv_F
inv_ok v n = over_ok v.top v.bot v.positive (nonzero_top n)

-- a factor that is not 0 is taken away
pub cancel_F : (v : Frac) {x y : Frac} → Nonzero v → (v *F x) ≈ (v *F y) → x ≈ y
cancel_F v {x} {y} n e = combine F_ring (v ∷ x ∷ y ∷ inv_F v ∷ []) x1 x2
    (record { by = x3; lhs = x0 ⊗ x1; rhs = x0 ⊗ x2 }
    ∷ record { by = x2 ⊖ x1; lhs = x0 ⊗ x3; rhs = num (pos 1) } ∷ []) (e, (inv_ok v n, tt)) refl

-- y / v
pub divided : (y v : Frac) → Nonzero v → ((y *F inv_F v) *F v) ≈ y
divided y v n = combine F_ring (y ∷ v ∷ inv_F v ∷ []) (x0 ⊗ x2 ⊗ x1) x0
    (record { by = x0; lhs = x1 ⊗ x2; rhs = num (pos 1) } ∷ []) (inv_ok v n, tt) refl

-- x × b = a says that x = (1 / b) × a
pub solved : (x a b : Frac) → Nonzero b → (x *F b) ≈ a → x ≈ (inv_F b *F a)
solved x a b n e = combine F_ring (x ∷ a ∷ b ∷ inv_F b ∷ []) x0 (x3 ⊗ x1)
    (record { by = ⊝ x0; lhs = x2 ⊗ x3; rhs = num (pos 1) }
    ∷ record { by = x3; lhs = x0 ⊗ x2; rhs = x1 } ∷ []) (inv_ok b n, (e, tt)) refl

-- ---- signs of inverses
up_top : (t : ℤ) (d : ℕ) → pos 0 <ℤ t → 0F ≤F over_top t d
unfolding over_top whole
up_top (pos zero) d k = absurd (omega (arith, ints))
up_top (pos (suc n)) d k = record { cross = omega (arith, ints) }
up_top (negsuc n) d k = absurd (omega (arith, ints))

pub inv_up : (x : Frac) → 0F <F x → 0F ≤F inv_F x
unfolding inv_F whole
inv_up x h = up_top x.top x.bot (let k : (pos 0 *ℤ pos x.bot) <ℤ (x.top *ℤ pos 1) = h.cross in omega (arith, ints))

down_top : (t : ℤ) (d : ℕ) → t <ℤ pos 0 → over_top t d ≤F 0F
unfolding over_top whole
down_top (pos n) d k = absurd (omega (arith, ints))
down_top (negsuc n) d k = record { cross = omega (arith, ints) }

pub inv_down : (x : Frac) → x <F 0F → inv_F x ≤F 0F
unfolding inv_F whole
inv_down x h = down_top x.top x.bot (let k : (x.top *ℤ pos 1) <ℤ (pos 0 *ℤ pos x.bot) = h.cross in omega (arith, ints))

-- inverses of one sign fall as the fractions rise
pub inv_falls : (x y : Frac) → Nonzero x → Nonzero y → NN (inv_F x *F inv_F y) → x ≤F y → inv_F y ≤F inv_F x
inv_falls x y p q n h = nn→le (nn-≈
    (combine F_ring (x ∷ y ∷ inv_F x ∷ inv_F y ∷ []) ((x1 ⊖ x0) ⊗ (x2 ⊗ x3)) (x2 ⊖ x3)
    (record { by = ⊝ x3; lhs = x0 ⊗ x2; rhs = num (pos 1) }
    ∷ record { by = x2; lhs = x1 ⊗ x3; rhs = num (pos 1) } ∷ [])
    (inv_ok x p, (inv_ok y q, tt)) refl)
    (nn_mul (le→nn h) n))
