-- Whole numbers: the solver over ℤ, and the order under a positive factor.
use Rattle.std.proofs.Common.{◌≡◌, ℕ, ◌+◌, ◌*◌, ◌<◌, Bool, true, false, List, [], ◌∷◌, ℤ, pos, negsuc, ◌+ℤ◌, ◌*ℤ◌, neg_ℤ, ◌≤ℤ◌, sym, refl, ap, ◌∙◌, ap₂, mul-le-mul_right, le_of_mul-le-mul_right, arith}
use native.Mathlib.Nat.{eq_of_mul-eq-mul_right}
use lib.IntN.{*ℤ_comm, +ℤ_comm, +ℤ_assoc, +ℤ_idl, zero-*ℤ}
use lib.Signed.{le_z}
use borrow.Author.Differences.{ints, up, down, sum_is_lem, product_is, same_in, at_most_in, le_out}
use Rattle.exact.proofs.Ring.{CRing, Expr, norm, ev, solve, ◌⊗◌, ⊝◌, x0, x1}

pub *ℤ-+ℤ : (a b c : ℤ) → a *ℤ (b +ℤ c) ≡ a *ℤ b +ℤ a *ℤ c
*ℤ-+ℤ a b c = omega (arith, ints, ap (λ n. up a * n) (sum_is_lem b c), ap (λ n. down a * n) (sum_is_lem b c))

pub *ℤ_assoc : (a b c : ℤ) → (a *ℤ b) *ℤ c ≡ a *ℤ (b *ℤ c)
*ℤ_assoc a b c = omega (arith, ints, ap (λ n. n * up c) (product_is a b).0, ap (λ n. n * down c) (product_is a b).0, ap (λ n. n * up c) (product_is a b).1, ap (λ n. n * down c) (product_is a b).1, ap (λ n. up a * n) (product_is b c).0, ap (λ n. down a * n) (product_is b c).0, ap (λ n. up a * n) (product_is b c).1, ap (λ n. down a * n) (product_is b c).1)

pub negℤ_is : (a : ℤ) → neg_ℤ a ≡ negsuc 0 *ℤ a
negℤ_is a = omega (arith, ints)

pub one-*ℤ : (a : ℤ) → pos 1 *ℤ a ≡ a
one-*ℤ a = omega (arith, ints)

abbrev pub ℤ_ring : CRing
ℤ_ring = record {
  C = ℤ;
  Eq = λ a b. a ≡ b;
  add = ◌+ℤ◌;
  mul = ◌*ℤ◌;
  neg = neg_ℤ;
  inj = λ k. k;
  rfl = λ a. refl;
  sm = λ p. sym p;
  tr = λ p q. p ∙ q;
  add_cong = λ p q. ap₂ ◌+ℤ◌ p q;
  mul_cong = λ p q. ap₂ ◌*ℤ◌ p q;
  add_assoc = +ℤ_assoc;
  add_comm = +ℤ_comm;
  zero_add = +ℤ_idl;
  mul_assoc = *ℤ_assoc;
  mul_comm = *ℤ_comm;
  one_mul = one-*ℤ;
  zero_mul = zero-*ℤ;
  mul_add = *ℤ-+ℤ;
  neg_is = negℤ_is;
  inj_add = λ a b. refl;
  inj_mul = λ a b. refl;
}

-- an identity of ℤ
pub ring : (ρ : List ℤ) (a b : Expr) → norm a ≡ norm b → ev ℤ_ring ρ a ≡ ev ℤ_ring ρ b
ring ρ a b e = solve ℤ_ring ρ a b e

pub neg-*ℤ : (a b : ℤ) → neg_ℤ a *ℤ b ≡ neg_ℤ (a *ℤ b)
neg-*ℤ a b = ring (a ∷ b ∷ []) (⊝ x0 ⊗ x1) (⊝ (x0 ⊗ x1)) refl

-- ---- a positive factor
pub cancel : (x y : ℤ) (d : ℕ) → 0 < d → x *ℤ pos d ≡ y *ℤ pos d → x ≡ y
cancel x y d h e = same_in x y (eq_of_mul-eq-mul_right d h (up x + down y) (up y + down x) (omega (arith, ints)))

pub ≤ℤ_cancel : (x y : ℤ) (d : ℕ) → 0 < d → (x *ℤ pos d) ≤ℤ (y *ℤ pos d) → x ≤ℤ y
≤ℤ_cancel x y d h e = at_most_in x y (le_of_mul-le-mul_right {m = up x + down y} {n = up y + down x} {k = d} (omega (arith, ints)) h)

pub ≤ℤ_times : (x y : ℤ) (d : ℕ) → x ≤ℤ y → (x *ℤ pos d) ≤ℤ (y *ℤ pos d)
≤ℤ_times x y d e = omega (arith, ints, mul-le-mul_right d (le_out x y e))

-- the test is the same after it
pub leZ_times : (a b : ℤ) (d : ℕ) → 0 < d → le_z (a *ℤ pos d) (b *ℤ pos d) ≡ le_z a b
leZ_times a b d h = go (le_z a b) refl
  where
    go : (t : Bool) → le_z a b ≡ t → le_z (a *ℤ pos d) (b *ℤ pos d) ≡ t
    go true e = let r = ≤ℤ_times a b d (omega (arith, ints)) in sym (omega (arith, ints))
    go false e = go2 (le_z (a *ℤ pos d) (b *ℤ pos d)) refl
      where
        go2 : (t : Bool) → le_z (a *ℤ pos d) (b *ℤ pos d) ≡ t → t ≡ false
        go2 false f = refl
        go2 true f = let r = ≤ℤ_cancel a b d h (omega (arith, ints)) in absurd (omega (arith, ints))

pub ≤ℤ_trans : {a b c : ℤ} → a ≤ℤ b → b ≤ℤ c → a ≤ℤ c
≤ℤ_trans {a} {b} {c} p q = omega (arith, ints)

-- products of numbers that are not negative, and of positive ones
pub nn_times : (a b : ℤ) → pos 0 ≤ℤ a → pos 0 ≤ℤ b → pos 0 ≤ℤ (a *ℤ b)
nn_times (pos a) (pos b) h k = omega (arith, ints)
nn_times (pos a) (negsuc b) h k = omega (arith, ints)
nn_times (negsuc a) b h k = omega (arith, ints)
