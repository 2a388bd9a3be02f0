-- The scale from the count of leading zeros, and what shifts compute.
use Rattle.std.proofs.Common.{◌≡◌, ℕ, zero, suc, ◌+◌, ◌-◌, ◌*◌, ◌/◌, ◌%◌, ◌^◌, ◌<◌, ◌≤◌, ℤ, pos, negsuc, nat_abs, refl, ap, ◌∙◌, lt_of_le_of_lt, arith, pow_mono, pow-add, pow-suc, bit_and, bit_or, w32, w64, SFits, to_z, of_z}
use borrow.Author.Differences.{ints}
use lib.Count.{leading_length, count_leading_zeros}
use lib.Signed.{mag_shr, shr_z}
use Rattle.std.proofs.lemmas.Int.{by_lt_z, to_z-of_z, to_z_pos, int_wrap_fits, wrapping_mul-bits}
use Rattle.std.proofs.lemmas.Nat.{and_mask}
use Rattle.std.specs.Int.{Width, int_div_euclid}
use Rattle.std.specs.Int.Bits.{or_add_and}
use Rattle.sliding.specs.Cut.{Scale, shifted}
use Rattle.sliding.specs.Slides.{shifted_bound}

-- with its lowest 24 bits set, a number that has more keeps its length
filled : (a : ℕ) → bit_or a 16777215 ≡ a / 16777216 * 16777216 + 16777215
filled a = let e = or_add_and a 16777215 in let m : bit_and a 16777215 ≡ a % 16777216 = and_mask a 24 in omega arith

pub scale_bound : (a : ℕ) → a < 2 ^ 63 → count_leading_zeros 64 (bit_or a 16777215) ≤ 40
scale_bound a h =
    let f = filled a in
    let l = leading_length 64 (bit_or a 16777215) (omega arith) in
    by_lt_z (pos l.0) (pos 24)
    (λ q. let p = pow_mono {i = l.0} {j = 23} (omega (arith, ints)) in absurd (omega (arith, l.2)))
    (λ q. omega (arith, ints, l.1))

even : (s : ℕ) → 0 < s → (h : ℕ) × (2 ^ s ≡ 2 * h)
even zero w = absurd (omega arith)
even (suc u) w = (2 ^ u, let e = pow-suc 2 u in omega arith)

pub scale_is : (k : ℤ) (a s : ℕ) → a ≡ nat_abs k → a < 2 ^ 63 → s ≡ 40 - count_leading_zeros 64 (bit_or a 16777215) → Scale k s
scale_is k a s e h g =
    let f = filled a in
    let l = leading_length 64 (bit_or a 16777215) (omega arith) in
    at l.0 (let b = scale_bound a h in omega (arith, l.1)) l.2 l.3
  where
    at : (m : ℕ) → m ≡ 24 + s → bit_or a 16777215 < 2 ^ m → 2 ^ m ≤ 2 * bit_or a 16777215 + 1 → Scale k s
    at m i u v =
        let f = filled a in
        let p : 2 ^ m ≡ 16777216 * 2 ^ s = ap (λ (n : ℕ). 2 ^ n) i ∙ pow-add 2 24 s in
        record { under = omega arith; full = λ w. let d = even s w in omega (arith, d.1) }

pub shr_floor : (k : ℤ) (d : ℕ) → shr_z k d ≡ int_div_euclid k (pos d)
shr_floor (pos a) d = refl
shr_floor (negsuc a) d = refl

-- what a shift to the left computes
pub plain_shl : (m : ℤ) (s : ℕ) → SFits w64 m → s ≤ 62 → nat_abs (shifted m s) < 2 ^ 63 → to_z w64 ((of_z w64 m * 2 ^ s) % 2 ^ 64) ≡ shifted m s
plain_shl m s f q b =
    let a : 2 ^ s ≤ 2 ^ 62 = pow_mono q in
    let g : to_z w64 (2 ^ s) ≡ pos (2 ^ s) = to_z_pos w64 (2 ^ s) (omega arith) in
    let h : SFits w64 (shifted m s) = omega (arith, ints) in
    wrapping_mul-bits w64 (of_z w64 m) (2 ^ s) (omega (arith, ints)) (omega arith) ∙ rw (to_z-of_z w64 m f, g) (int_wrap_fits w64 (shifted m s) h)

-- what a shift to the right computes
pub plain_shr : (w : Width) (k : ℤ) (r : ℕ) → SFits w k → to_z w (of_z w (shr_z (to_z w (of_z w k)) (2 ^ r))) ≡ int_div_euclid k (pos (2 ^ r))
plain_shr w k r f = rw (to_z-of_z w k f) (to_z-of_z w (shr_z k (2 ^ r)) (record { sfits = lt_of_le_of_lt (mag_shr k (2 ^ r)) f.sfits }) ∙ shr_floor k (2 ^ r))

-- a number up to T has at most 32 bits beyond 24
pub scale_short : {k : ℤ} {s : ℕ} → Scale k s → nat_abs k ≤ 72057589742960640 → s ≤ 32
scale_short {k} {s} r b = by_lt_z (pos 32) (pos s)
    (λ h. let p : 2 ^ 33 ≤ 2 ^ s = pow_mono {i = 33} {j = s} (omega (arith, ints)) in let f = r.full (omega (arith, ints)) in absurd (omega arith))
    (λ h. omega (arith, ints))

-- of a mantissa
pub plain_part : (x m : ℤ) (s : ℕ) → x ≡ to_z w32 (of_z w32 m) → nat_abs m ≤ 16777215 → s ≤ 38 → to_z w64 ((of_z w64 x * 2 ^ s) % 2 ^ 64) ≡ shifted m s
plain_part x m s e p q =
    let f : x ≡ m = omega (arith, ints) in
    let b = shifted_bound m s 38 16777215 p q in
    rw f (plain_shl m s (omega (arith, ints)) (omega arith) (omega arith))
