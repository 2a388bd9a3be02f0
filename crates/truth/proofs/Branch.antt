-- The branch, decided by the span of its first operand or not.
use mathlib.Core.Bool.{Bool, cond, false, true}
use mathlib.Core.Path.{◌≡◌, refl, subst, sym}
use native.Mathlib.Omega.{arith}
use borrow.Author.Differences.{ints}
use lib.Dec.{T}
use lib.IntN.{◌*ℤ◌, pos}
use lib.Signed.{le_z, le_z_yes}
use Rattle.exact.proofs.Fractions.{≈_refl}
use Rattle.exact.proofs.Order.{lt_not_le, ≤F_trans}
use Rattle.exact.proofs.Signs.{0F}
use Rattle.exact.specs.Fraction.{Frac, ◌<F◌, ◌≈◌, ◌≤F◌, le_F}
use Rattle.exact.specs.Interval.{In, Interval}
use Rattle.truth.specs.Curve.{branch_F}

pub branch_ind : (s q r : Frac) (P : Frac → Type 0) → (s <F 0F → P q) → (0F ≤F s → P r) → P (branch_F s q r)
unfolding branch_F le_F
branch_ind s q r P f g = go (le_F 0F s) refl
  where
    go : (t : Bool) → le_F 0F s ≡ t → P (cond t r q)
    go true e = g (record { cross = le_z_yes (subst T (sym e) tt) })
    go false e = f (let k : le_z ((0F).top *ℤ pos s.bot) (s.top *ℤ pos (0F).bot) ≡ false = e in record { cross = omega (arith, ints) })

pub branch_under : {s : Frac} {S : Interval} (q r : Frac) → S.hi <F 0F → In s S → branch_F s q r ≈ q
branch_under {s} q r h i = branch_ind s q r (λ m. m ≈ q) (λ k. ≈_refl q) (λ k. absurd (lt_not_le h (≤F_trans k i.high)))

pub branch_over : {s : Frac} {S : Interval} (q r : Frac) → 0F ≤F S.lo → In s S → branch_F s q r ≈ r
branch_over {s} q r h i = branch_ind s q r (λ m. m ≈ r) (λ k. absurd (lt_not_le k (≤F_trans h i.low))) (λ k. ≈_refl r)
