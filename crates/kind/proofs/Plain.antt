-- What the code of a kind computes in 64 bits, as plain numbers.
use Rattle.std.proofs.Common.{◌≡◌, ℕ, suc, ◌-◌, ◌*◌, ◌^◌, ◌<◌, ◌≤◌, ℤ, pos, negsuc, ◌*ℤ◌, nat_abs, mul-le-mul, arith, w32, w64, SFits, to_z, of_z}
use borrow.Author.Differences.{ints}
use Rattle.std.proofs.lemmas.Int.{to_z-of_z, to_z_pos}
use Rattle.std.specs.Int.{int_div_euclid}

pub plain_floor : (n r : ℤ) (d : ℕ) → SFits w64 n → d < 2 ^ 63 → r ≡ int_div_euclid (to_z w64 (of_z w64 n)) (to_z w64 d) → r ≡ int_div_euclid n (pos d)
plain_floor n r d f h e = simp (to_z-of_z, to_z_pos) at e

-- a product of bounded numbers
pub product_bound : (a b : ℤ) (x y : ℕ) → nat_abs a ≤ x → nat_abs b ≤ y → nat_abs (a *ℤ b) ≤ x * y
product_bound (pos a) (pos b) x y p q = mul-le-mul p q
product_bound (pos a) (negsuc b) x y p q = let e : nat_abs (pos a *ℤ negsuc b) ≡ a * suc b = omega (arith, ints) in rw e (mul-le-mul p q)
product_bound (negsuc a) (pos b) x y p q = let e : nat_abs (negsuc a *ℤ pos b) ≡ suc a * b = omega (arith, ints) in rw e (mul-le-mul p q)
product_bound (negsuc a) (negsuc b) x y p q = mul-le-mul p q

pub plain32 : (a : ℤ) → nat_abs a < 2 ^ 31 → to_z w32 (of_z w32 a) ≡ a
plain32 a h = omega (arith, ints)

pub plain_wide : (a : ℤ) → nat_abs a < 2 ^ 31 → to_z w64 (of_z w64 (to_z w32 (of_z w32 a))) ≡ a
plain_wide a h = omega (arith, ints)

pub plain_product : (a b : ℤ) → nat_abs a < 2 ^ 31 → nat_abs b < 2 ^ 31 → to_z w64 (of_z w64 (to_z w64 (of_z w64 (to_z w32 (of_z w32 a))) *ℤ to_z w64 (of_z w64 (to_z w32 (of_z w32 b))))) ≡ a *ℤ b
plain_product a b p q = let k = product_bound a b (2 ^ 31 - 1) (2 ^ 31 - 1) (omega arith) (omega arith) in
    rw (plain_wide a p, plain_wide b q) (to_z-of_z w64 (a *ℤ b) (omega (arith, ints)))
