-- The floor over any denominator: the one proof of rounding.
use Rattle.std.proofs.Common.{◌≡◌, ℕ, ◌+◌, ◌<◌, [], ◌∷◌, ℤ, pos, negsuc, ◌+ℤ◌, ◌*ℤ◌, neg_ℤ, ◌≤ℤ◌, ◌<ℤ◌, refl, lt_of_mul-lt-mul_right, arith}
use borrow.Author.Differences.{ints, up, down}
use Rattle.std.specs.Int.{int_div_euclid}
use Rattle.exact.specs.Fraction.{Frac, neg_F}
use Rattle.exact.specs.Floor.{Floor, Ceiling, floor, ceiling}
use Rattle.exact.proofs.Ring.{num, ◌⊕◌, ◌⊗◌, x0, x1}
use Rattle.exact.proofs.Integers.{ring}
use Rattle.exact.proofs.Order.{neg_mono, neg_right}

pub floor_low : (m : ℤ) (d : ℕ) → 0 < d → (int_div_euclid m (pos d) *ℤ pos d) ≤ℤ m
floor_low (pos a) d h = omega (arith, ints)
floor_low (negsuc a) d h = omega (arith, ints)

pub floor_next : (m : ℤ) (d : ℕ) → 0 < d → m <ℤ (int_div_euclid m (pos d) *ℤ pos d +ℤ pos d)
floor_next (pos a) d h = omega (arith, ints)
floor_next (negsuc a) d h = omega (arith, ints)

<ℤ_cancel : (x y : ℤ) (d : ℕ) → (x *ℤ pos d) <ℤ (y *ℤ pos d) → x <ℤ y
<ℤ_cancel x y d e = let k : up x + down y < up y + down x = lt_of_mul-lt-mul_right d {m = up x + down y} {n = up y + down x} (omega (arith, ints)) in omega (arith, ints)

next_times : (k : ℤ) (d : ℕ) → (k +ℤ pos 1) *ℤ pos d ≡ k *ℤ pos d +ℤ pos d
next_times k d = ring (k ∷ pos d ∷ []) ((x0 ⊕ num (pos 1)) ⊗ x1) (x0 ⊗ x1 ⊕ x1) refl

pub floor_greatest : (m : ℤ) (d : ℕ) → 0 < d → (j : ℤ) → (j *ℤ pos d) ≤ℤ m → j ≤ℤ int_div_euclid m (pos d)
floor_greatest m d h j e = let n = floor_next m d h in let r = next_times (int_div_euclid m (pos d)) d in
    let k = <ℤ_cancel j (int_div_euclid m (pos d) +ℤ pos 1) d (omega (arith, ints)) in omega (arith, ints)

-- the floor is the one number between
pub floor_between : (m k : ℤ) (d : ℕ) → 0 < d → (k *ℤ pos d) ≤ℤ m → m <ℤ ((k +ℤ pos 1) *ℤ pos d) → int_div_euclid m (pos d) ≡ k
floor_between m k d h p q =
    let a = floor_greatest m d h k p in
    let b = <ℤ_cancel (int_div_euclid m (pos d)) (k +ℤ pos 1) d (let r = floor_low m d h in omega (arith, ints)) in
    omega (arith, ints)

pub floor_exact : (k : ℤ) (d : ℕ) → 0 < d → int_div_euclid (k *ℤ pos d) (pos d) ≡ k
floor_exact k d h = floor_between (k *ℤ pos d) k d h (omega (arith, ints)) (rw (next_times k d) (omega (arith, ints)))

-- ---- the same of fractions
pub floor_is : (g : ℕ) (h : 0 < g) (x : Frac) → Floor g h x (floor g x)
unfolding floor
floor_is g h x = record {
  low = record { cross = floor_low (x.top *ℤ pos g) x.bot x.positive };
  greatest = λ j e. floor_greatest (x.top *ℤ pos g) x.bot x.positive j e.cross;
}

-- the mirror image
pub ceiling_is : (g : ℕ) (h : 0 < g) (x : Frac) → Ceiling g h x (ceiling g x)
unfolding ceiling neg_F
ceiling_is g h x = record {
  high = neg_right f.low;
  least = λ j e. let k = f.greatest (neg_ℤ j) (neg_mono e) in omega (arith, ints);
}
  where
    f : Floor g h (neg_F x) (floor g (neg_F x))
    f = floor_is g h (neg_F x)
