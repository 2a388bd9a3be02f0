-- Marks and the numbers between them: each m × 2^s of 24 bits is a mark, a number is cut to a mark, and no mark lies between the two.
use Rattle.std.specs.Prelude.{◌≡◌, ℕ, zero, suc, ◌+◌, ◌-◌, ◌*◌, ◌^◌, ◌<◌, ◌≤◌, [], ◌∷◌, ℤ, pos, ◌*ℤ◌, neg_ℤ, ◌≤ℤ◌, ◌<ℤ◌, unsigned_abs, refl}
use Rattle.std.proofs.Common.{◌∙◌, ap, subst, sym, pow-suc, arith, pow-add, pow_mono, pow_pos}
use borrow.Author.Differences.{ints}
use Rattle.std.proofs.lemmas.Int.{by_lt_z}
use Rattle.std.specs.Int.{int_div_euclid}
use Rattle.exact.proofs.Floors.{floor_exact, floor_greatest, floor_low}
use Rattle.exact.proofs.Integers.{ring, ≤ℤ_times}
use Rattle.exact.proofs.Ring.{◌⊗◌, num, x0, x1, x2, ⊝◌}
use Rattle.kind.proofs.Plain.{product_bound}
use Rattle.sliding.specs.Cut.{Scale, cut, shifted}
use Rattle.sliding.specs.Form.{OnGrid}

pub shifted_suc : (m : ℤ) (s : ℕ) → shifted m (suc s) ≡ shifted (m *ℤ pos 2) s
shifted_suc m s = ap (λ (n : ℕ). m *ℤ pos n) (pow-suc 2 s) ∙ ring (m ∷ pos (2 ^ s) ∷ []) (x0 ⊗ (x1 ⊗ num (pos 2))) (x0 ⊗ num (pos 2) ⊗ x1) refl

pub shifted_add : (m : ℤ) (s t : ℕ) → shifted m (s + t) ≡ shifted (shifted m s) t
shifted_add m s t = ap (λ (n : ℕ). m *ℤ pos n) (pow-add 2 s t) ∙ ring (m ∷ pos (2 ^ s) ∷ pos (2 ^ t) ∷ []) (x0 ⊗ (x1 ⊗ x2)) (x0 ⊗ x1 ⊗ x2) refl

pub shifted_bound : (m : ℤ) (s t b : ℕ) → unsigned_abs m ≤ b → s ≤ t → unsigned_abs (shifted m s) ≤ b * 2 ^ t
shifted_bound m s t b p q = product_bound m (pos (2 ^ s)) b (2 ^ t) p (pow_mono q)

pub shifted_neg : (m : ℤ) (s : ℕ) → shifted (neg_ℤ m) s ≡ neg_ℤ (shifted m s)
shifted_neg m s = ring (m ∷ pos (2 ^ s) ∷ []) (⊝ x0 ⊗ x1) (⊝ (x0 ⊗ x1)) refl

-- a multiple of 2^s is what it is cut to
pub cut_shifted : (m : ℤ) (s : ℕ) → cut (shifted m s) s ≡ shifted m s
cut_shifted m s = ap (λ (z : ℤ). shifted z s) (floor_exact m (2 ^ s) (pow_pos s))

-- ---- m × 2^s of 24 bits is a mark
pub on_shifted : (m : ℤ) (s : ℕ) → unsigned_abs m ≤ 16777215 → s ≤ 32 → OnGrid (shifted m s)
on_shifted m s p q = (
  shifted_bound m s 32 16777215 p q,
  λ t h. clear t (by_lt_z (pos t) (pos s) (λ l. omega (arith, ints)) (λ l. absurd (long t h (omega (arith, ints))))),
)
  where
    long : (t : ℕ) → 16777216 * 2 ^ t ≤ unsigned_abs (shifted m s) → s ≤ t → ⊥
    long t h l = let b = shifted_bound m s t 16777215 p l in let o = pow_pos t in omega arith

    clear : (t : ℕ) → t < s → cut (shifted m s) (suc t) ≡ shifted m s
    clear t l =
        let e : shifted m s ≡ shifted (shifted m (s - suc t)) (suc t) = ap (shifted m) (omega arith) ∙ shifted_add m (s - suc t) (suc t) in
        ap (λ (z : ℤ). cut z (suc t)) e ∙ cut_shifted (shifted m (s - suc t)) (suc t) ∙ sym e

pub abs_negative : (m : ℤ) → unsigned_abs (neg_ℤ m) ≡ unsigned_abs m
abs_negative m = omega (arith, ints)

pub on_negative : (k : ℤ) → OnGrid k → OnGrid (neg_ℤ k)
on_negative k h = let e = abs_negative k in (omega arith, λ s p. clear (suc s) (h.1 s (omega arith)))
  where
    clear : (s : ℕ) → cut k s ≡ k → cut (neg_ℤ k) s ≡ neg_ℤ k
    clear s f =
        let j = int_div_euclid k (pos (2 ^ s)) in
        let e : neg_ℤ k ≡ shifted (neg_ℤ j) s = ap neg_ℤ (sym f) ∙ sym (shifted_neg j s) in
        ap (λ (z : ℤ). cut z s) e ∙ cut_shifted (neg_ℤ j) s ∙ sym e

-- ---- a number is cut to a mark
pub floor_range : (k : ℤ) (s : ℕ) → unsigned_abs k < 16777216 * 2 ^ s
    → (neg_ℤ (pos 16777216) ≤ℤ int_div_euclid k (pos (2 ^ s))) × (int_div_euclid k (pos (2 ^ s)) ≤ℤ pos 16777215)
floor_range k s u = (
  floor_greatest k (2 ^ s) (pow_pos s) (neg_ℤ (pos 16777216)) (omega (arith, ints)),
  by_lt_z (pos 16777215) (int_div_euclid k (pos (2 ^ s)))
      (λ h.
      let a = ≤ℤ_times (pos 16777216) (int_div_euclid k (pos (2 ^ s))) (2 ^ s) (omega (arith, ints)) in
      let b = floor_low k (2 ^ s) (pow_pos s) in absurd (omega (arith, ints)))
      (λ h. h),
)

pub on_cut : (k : ℤ) (s : ℕ) → unsigned_abs k ≤ 72057589742960640 → unsigned_abs k < 16777216 * 2 ^ s → s ≤ 32 → OnGrid (cut k s)
on_cut k s b u l = let r = floor_range k s u in by_lt_z (int_div_euclid k (pos (2 ^ s))) (neg_ℤ (pos 16777215))
    (λ h. wide (omega (arith, ints)) (by_lt_z (pos s) (pos 32) (λ i. omega (arith, ints)) (λ i. absurd (low (omega (arith, ints)) h))))
    (λ h. on_shifted (int_div_euclid k (pos (2 ^ s))) s (omega (arith, ints)) l)
  where
    -- −2^24 × 2^s is −2^23 × 2^(s + 1)
    wide : int_div_euclid k (pos (2 ^ s)) ≡ neg_ℤ (pos 16777216) → s < 32 → OnGrid (cut k s)
    wide e i = subst OnGrid (shifted_suc (neg_ℤ (pos 8388608)) s ∙ ap (λ (z : ℤ). shifted z s) (sym e))
        (on_shifted (neg_ℤ (pos 8388608)) (suc s) (omega arith) (omega arith))

    low : s ≡ 32 → int_div_euclid k (pos (2 ^ s)) <ℤ neg_ℤ (pos 16777215) → ⊥
    low e h = let f = floor_greatest k (2 ^ s) (pow_pos s) (neg_ℤ (pos 16777215)) (rw e (omega (arith, ints))) in omega (arith, ints)

-- ---- no mark lies between a number and what it is cut to
pub cut_low : (k : ℤ) (s : ℕ) → cut k s ≤ℤ k
cut_low k s = floor_low k (2 ^ s) (pow_pos s)

-- a multiple of 2^s
under_cut : (k j : ℤ) (s : ℕ) → shifted j s ≤ℤ k → shifted j s ≤ℤ cut k s
under_cut k j s p = ≤ℤ_times j (int_div_euclid k (pos (2 ^ s))) (2 ^ s) (floor_greatest k (2 ^ s) (pow_pos s) j p)

pub cut_most : (k : ℤ) (s : ℕ) → Scale k s → (z : ℤ) → OnGrid z → z ≤ℤ k → z ≤ℤ cut k s
cut_most k zero r z g p = let e : shifted z 0 ≡ z = omega (arith, ints) in subst (λ (y : ℤ). y ≤ℤ cut k 0) e (under_cut k z 0 (omega (arith, ints)))
cut_most k (suc t) r z g p = by_lt_z (pos (unsigned_abs z)) (pos (16777216 * 2 ^ t)) (λ h. small (omega (arith, ints))) (λ h. large (omega (arith, ints)))
  where
    large : 16777216 * 2 ^ t ≤ unsigned_abs z → z ≤ℤ cut k (suc t)
    large h = let e = g.1 t h in subst (λ (y : ℤ). y ≤ℤ cut k (suc t)) e
        (under_cut k (int_div_euclid z (pos (2 ^ suc t))) (suc t) (subst (λ (y : ℤ). y ≤ℤ k) (sym e) p))

    small : unsigned_abs z < 16777216 * 2 ^ t → z ≤ℤ cut k (suc t)
    small h =
        let f = r.full (omega arith) in let e = pow-suc 2 t in
        by_lt_z k (pos 0)
        (λ n. absurd (omega (arith, ints)))
        (λ n. let w = under_cut k (pos 8388608) (suc t) (omega (arith, ints)) in omega (arith, ints))
