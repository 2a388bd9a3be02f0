-- What the masks leave of a number.
use Rattle.std.proofs.Common.{◌≡◌, ℕ, zero, suc, ◌+◌, ◌-◌, ◌*◌, ◌/◌, ◌^◌, ◌<◌, ◌≤◌, List, [], ◌∷◌, get_or, bit_and, ℤ, pos, negsuc, neg_ℤ, nat_abs, refl, sym, ap, ◌∙◌, arith, pow_mono, pow_pos, pow-add, le_of_mul-le-mul_right, w64, SFits, to_z, of_z}
use borrow.Author.Differences.{ints}
use Rattle.std.proofs.lemmas.Int.{to_z-of_z, to_z_pos}
use Rattle.std.proofs.lemmas.Nat.{shr_high}
use Rattle.std.proofs.lemmas.Nat.Bits.{and_high_mask}
use Rattle.sliding.specs.Cut.{cut}

-- ---- −2^s from a greatest s down to 0
abbrev from : ℕ → List ℤ
from zero = neg_ℤ (pos (2 ^ 0)) ∷ []
from (suc n) = neg_ℤ (pos (2 ^ suc n)) ∷ from n

abbrev pub masks : List ℤ
masks = from 40

from_at : (n s : ℕ) → s ≤ n → get_or (from n) (n - s) (pos 0) ≡ neg_ℤ (pos (2 ^ s))
from_at n s h = go n (n - s) (omega arith) ∙ ap (λ (j : ℕ). neg_ℤ (pos (2 ^ j))) (omega arith)
  where
    go : (n i : ℕ) → i ≤ n → get_or (from n) i (pos 0) ≡ neg_ℤ (pos (2 ^ (n - i)))
    go zero zero l = refl
    go zero (suc i) l = absurd (omega arith)
    go (suc n) zero l = ap (λ (j : ℕ). neg_ℤ (pos (2 ^ j))) (omega arith)
    go (suc n) (suc i) l = go n i (omega arith) ∙ ap (λ (j : ℕ). neg_ℤ (pos (2 ^ j))) (omega arith)

-- ---- a mask clears the lowest s bits
cleared : (x s : ℕ) → s ≤ 62 → x < 2 ^ 64 → bit_and x (of_z w64 (neg_ℤ (pos (2 ^ s)))) ≡ x / 2 ^ s * 2 ^ s
cleared x s q h = ap (bit_and x) (let o = pow_pos s in let m : 2 ^ s ≤ 2 ^ 62 = pow_mono q in omega (arith, ints))
    ∙ and_high_mask 64 s (omega arith) x h

-- h p − 1 − a cut to a multiple of p, where q is how often p goes into a
cut_from : (a p h q x : ℕ) → 2 ^ 64 ≡ h * p → a < suc q * p → h ≡ x + suc q → 2 ^ 64 - suc a ≡ x * p + (suc q * p - suc a)
cut_from a p h q x e l f = let g : h * p ≡ (x + suc q) * p = ap (λ (j : ℕ). j * p) f in omega arith

module _ (a s : ℕ) (q : s ≤ 62) (b : suc (a / 2 ^ s) * 2 ^ s < 2 ^ 63) where
  abbrev x : ℕ
  x = 2 ^ (64 - s) - suc (a / 2 ^ s)

  whole : 2 ^ 64 ≡ 2 ^ (64 - s) * 2 ^ s
  whole = let v : 64 ≡ (64 - s) + s = omega arith in ap (λ (j : ℕ). 2 ^ j) v ∙ pow-add 2 (64 - s) s

  above : 2 ^ (64 - s) ≡ x + suc (a / 2 ^ s)
  above = let w = whole in
      let l = le_of_mul-le-mul_right {m = suc (a / 2 ^ s)} {n = 2 ^ (64 - s)} {k = 2 ^ s} (omega arith) (pow_pos s) in omega arith

  next : a < suc (a / 2 ^ s) * 2 ^ s
  next = let o = pow_pos s in omega arith

  counted : (2 ^ 64 - suc a) / 2 ^ s ≡ x
  counted = let o = pow_pos s in
      ap (λ (j : ℕ). j / 2 ^ s) (cut_from a (2 ^ s) (2 ^ (64 - s)) (a / 2 ^ s) x whole next above) ∙ shr_high x s _ (omega arith)

  all : x * 2 ^ s + suc (a / 2 ^ s) * 2 ^ s ≡ 2 ^ 64
  all = sym (whole ∙ ap (λ (j : ℕ). j * 2 ^ s) above ∙ omega arith)

  negative : to_z w64 ((2 ^ 64 - suc a) / 2 ^ s * 2 ^ s) ≡ neg_ℤ (pos (suc (a / 2 ^ s) * 2 ^ s))
  negative = ap (λ (j : ℕ). to_z w64 (j * 2 ^ s)) counted ∙ minus (x * 2 ^ s) (suc (a / 2 ^ s) * 2 ^ s) all (let n = next in omega arith) b
    where
      minus : (u v : ℕ) → u + v ≡ 2 ^ 64 → 0 < v → v < 2 ^ 63 → to_z w64 u ≡ neg_ℤ (pos v)
      minus u v e o l = let f : u ≡ of_z w64 (neg_ℤ (pos v)) = omega (arith, ints) in
          ap (to_z w64) f ∙ to_z-of_z w64 (neg_ℤ (pos v)) (omega (arith, ints))

abs_minus : (n : ℕ) → nat_abs (neg_ℤ (pos n)) ≡ n
abs_minus n = omega (arith, ints)

cleared_cut : (k : ℤ) (s : ℕ) → SFits w64 k → s ≤ 62 → nat_abs (cut k s) < 2 ^ 63 → to_z w64 (of_z w64 k / 2 ^ s * 2 ^ s) ≡ cut k s
cleared_cut (pos a) s f q b = to_z_pos w64 (a / 2 ^ s * 2 ^ s) b
cleared_cut (negsuc a) s f q b = negative a s q (rw abs_minus at b)

pub masked : (k : ℤ) (s : ℕ) → SFits w64 k → s < 33 → nat_abs (cut k s) < 2 ^ 63
    → to_z w64 (bit_and (of_z w64 k) (of_z w64 (get_or masks (40 - s) (pos 0)))) ≡ cut k s
masked k s f q b =
    ap (λ (m : ℤ). to_z w64 (bit_and (of_z w64 k) (of_z w64 m))) (from_at 40 s (omega arith))
    ∙ ap (to_z w64) (cleared (of_z w64 k) s (omega arith) (omega (arith, ints)))
    ∙ cleared_cut k s f (omega arith) b
