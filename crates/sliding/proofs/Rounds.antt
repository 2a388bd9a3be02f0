-- What the code of rounding gives.
use Rattle.std.proofs.Common.{◌≡◌, ℕ, zero, suc, ◌+◌, ◌-◌, ◌/◌, ◌*◌, ◌%◌, ◌^◌, ◌<◌, ◌≤◌, ℤ, pos, negsuc, ◌*ℤ◌, neg_ℤ, nat_abs, ◌≤ℤ◌, Some, None, sym, refl, ap, ◌∙◌, subst, [], ◌∷◌, bit_and, get_or, arith, pow_pos, pow-suc, pow-add, div-le_self, mul-le-mul_right, lit<, w64, SFits, to_z, of_z}
use borrow.Author.Differences.{ints}
use Rattle.std.proofs.Math.Nat.{mul-div_cancel, mul_right_comm}
use Rattle.std.proofs.lemmas.Int.{by_lt_z, to_z-of_z, unsigned_abs-mul}
use Rattle.std.specs.Int.{int_div_euclid}
use Rattle.exact.proofs.Floors.{floor_greatest, floor_low}
use Rattle.exact.proofs.Integers.{neg-*ℤ, ring, ≤ℤ_cancel, ≤ℤ_times, ≤ℤ_trans}
use Rattle.exact.proofs.Ring.{◌⊗◌, x0, x1, x2}
use Rattle.kind.proofs.GridRules.{ratio_none_over, ratio_none_under, ratio_some}
use Rattle.kind.specs.Grid.{grid_below, units_over}
use Rattle.sliding.proofs.Masks.{masked, masks}
use Rattle.sliding.proofs.Scales.{plain_shl, scale_short}
use Rattle.sliding.specs.Cut.{Held, Scale, cut, shifted}
use Rattle.sliding.specs.Form.{OnGrid}
use Rattle.sliding.specs.Grid.{sliding_grid}
use Rattle.sliding.specs.Rules.{found, sliding_lawful}
use Rattle.sliding.specs.Slides.{cut_low, cut_most, on_cut, shifted_bound}
use Rattle.sliding.specs.Whole as whole
use Rattle.sliding.specs.declared.mark.Sliding.{Sliding}

-- ---- no mark for what is beyond T
pub ratio_none : (n : ℤ) (d : ℕ) (h : 0 < d) → 72057589742960640 * d < nat_abs n → None ≡ grid_below sliding_grid (units_over sliding_grid n d h)
ratio_none (pos a) d h l = ratio_none_over sliding_grid sliding_lawful (pos a) d h (omega (arith, ints))
ratio_none (negsuc a) d h l = ratio_none_under sliding_grid sliding_lawful (negsuc a) d h (omega (arith, ints))

-- ---- a whole number of units
pub whole_some : (a : Sliding) (k : ℤ) (s : ℕ) → Scale k s → nat_abs k ≤ 72057589742960640 → a.units ≡ cut k s → Some a ≡ whole.below k
whole_some a k s r b e = ratio_some sliding_grid sliding_lawful k 1 (lit< tt) a
    (let l = cut_low k s in omega (arith, ints))
    (omega (arith, ints))
    (λ z p. subst (λ (y : ℤ). z.units ≤ℤ y) (sym e) (cut_most k s r z.units z.on_grid (omega (arith, ints))))

-- what the code computes, at the scale s of k
module _ (k : ℤ) (s : ℕ) (f : SFits w64 k) (b : nat_abs k ≤ 72057589742960640) (r : Scale (to_z w64 (of_z w64 k)) s) where
  right : Scale k s
  right = subst (λ (z : ℤ). Scale z s) (to_z-of_z w64 k f) r

  short : s ≤ 32
  short = scale_short right b

  pub scale_there : s < 33
  scale_there = let l = short in omega arith

  pub mask_there : 40 - s < 41
  mask_there = omega arith

  on : OnGrid (cut k s)
  on = on_cut k s b right.under short

  abbrev kept : ℤ
  kept = to_z w64 (bit_and (of_z w64 k) (of_z w64 (get_or masks (40 - s) (pos 0))))

  is_cut : kept ≡ cut k s
  is_cut = let o = on.0 in masked k s f scale_there (omega arith)

  pub is_mark : OnGrid kept
  is_mark = subst OnGrid (sym is_cut) on

  pub is_below : (a : Sliding) → a.units ≡ kept → Some a ≡ whole.below k
  is_below a e = whole_some a k s right b (e ∙ is_cut)

pub floor_small : (n : ℤ) (d : ℕ) → 0 < d → (m : ℕ) → nat_abs n ≤ m * d → nat_abs (int_div_euclid n (pos d)) ≤ m
floor_small n d h m b =
    let e = neg-*ℤ (pos m) (pos d) in
    let p = floor_greatest n d h (neg_ℤ (pos m)) (omega (arith, ints)) in
    let q = ≤ℤ_cancel (int_div_euclid n (pos d)) (pos m) d h (≤ℤ_trans (floor_low n d h) (omega (arith, ints))) in
    omega (arith, ints)

-- ---- a ratio, by a whole number k with the same marks below it
module _ (n : ℤ) (d : ℕ) (h : 0 < d) (b : nat_abs n ≤ 72057589742960640 * d) where
  by_whole : (k : ℤ) → nat_abs k ≤ 72057589742960640 → (k *ℤ pos d) ≤ℤ n → ((a : Sliding) → (a.units *ℤ pos d) ≤ℤ n → a.units ≤ℤ k)
      → whole.below k ≡ grid_below sliding_grid (units_over sliding_grid n d h)
  by_whole k c low most = let f = found k c in
      sym (whole_some f.mark k f.scale f.right c f.units)
      ∙ ratio_some sliding_grid sliding_lawful n d h f.mark
      (≤ℤ_trans (≤ℤ_times f.mark.units k d (subst (λ (z : ℤ). z ≤ℤ k) (sym f.units) (cut_low k f.scale))) low)
      (omega (arith, ints))
      (λ a p. subst (λ (z : ℤ). a.units ≤ℤ z) (sym f.units) (cut_most k f.scale f.right a.units a.on_grid (most a p)))

  -- its floor
  pub by_floor : whole.below (int_div_euclid n (pos d)) ≡ grid_below sliding_grid (units_over sliding_grid n d h)
  by_floor = by_whole (int_div_euclid n (pos d)) (floor_small n d h 72057589742960640 b) (floor_low n d h) (λ a p. floor_greatest n d h a.units p)

-- ---- n 2^t / d: where t is not 0, n / d has more than 24 bits, and what its floor leaves out is cut in any case
swap : (a b c : ℤ) → (a *ℤ b) *ℤ c ≡ (a *ℤ c) *ℤ b
swap a b c = ring (a ∷ b ∷ c ∷ []) (x0 ⊗ x1 ⊗ x2) (x0 ⊗ x2 ⊗ x1) refl

module _ (n : ℤ) (d : ℕ) (h : 0 < d) where
  abbrev q : ℤ
  q = int_div_euclid n (pos d)

  shifted_low : (t : ℕ) → (shifted q t *ℤ pos d) ≤ℤ shifted n t
  shifted_low t = subst (λ (y : ℤ). y ≤ℤ shifted n t) (swap q (pos d) (pos (2 ^ t))) (≤ℤ_times (q *ℤ pos d) n (2 ^ t) (floor_low n d h))

  -- a multiple of 2^t
  multiple : (t : ℕ) (j : ℤ) → (shifted j t *ℤ pos d) ≤ℤ shifted n t → shifted j t ≤ℤ shifted q t
  multiple t j p = ≤ℤ_times j q (2 ^ t) (floor_greatest n d h j (≤ℤ_cancel (j *ℤ pos d) n (2 ^ t) (pow_pos t)
      (subst (λ (y : ℤ). y ≤ℤ shifted n t) (swap j (pos (2 ^ t)) (pos d)) p)))

  shifted_most : (t : ℕ) → (0 < t → 16777216 * d ≤ nat_abs n) → (a : Sliding) → (a.units *ℤ pos d) ≤ℤ shifted n t → a.units ≤ℤ shifted q t
  shifted_most zero w a p = let e : shifted a.units 0 ≡ a.units = omega (arith, ints) in
      subst (λ (y : ℤ). y ≤ℤ shifted q 0) e (multiple 0 a.units (subst (λ (y : ℤ). (y *ℤ pos d) ≤ℤ shifted n 0) (sym e) p))
  shifted_most (suc u) w a p = by_lt_z (pos (nat_abs a.units)) (pos (16777216 * 2 ^ u)) (λ l. small (omega (arith, ints))) (λ l. large (omega (arith, ints)))
    where
      large : 16777216 * 2 ^ u ≤ nat_abs a.units → a.units ≤ℤ shifted q (suc u)
      large l = let e = a.on_grid.1 u l in
          subst (λ (y : ℤ). y ≤ℤ shifted q (suc u)) e (multiple (suc u) (int_div_euclid a.units (pos (2 ^ suc u)))
          (subst (λ (y : ℤ). (y *ℤ pos d) ≤ℤ shifted n (suc u)) (sym e) p))

      small : nat_abs a.units < 16777216 * 2 ^ u → a.units ≤ℤ shifted q (suc u)
      small l = let v = w (omega arith) in let f = pow-suc 2 u in by_lt_z n (pos 0)
          (λ m.
          let x = ≤ℤ_times n (neg_ℤ (pos 16777216) *ℤ pos d) (2 ^ suc u) (omega (arith, ints)) in
          let y = ≤ℤ_cancel a.units (shifted (neg_ℤ (pos 16777216)) (suc u)) d h (≤ℤ_trans p
          (subst (λ (y : ℤ). shifted n (suc u) ≤ℤ y) (swap (neg_ℤ (pos 16777216)) (pos d) (pos (2 ^ suc u))) x)) in
          absurd (omega (arith, ints)))
          (λ m. let x = ≤ℤ_times (pos 16777216) q (2 ^ suc u) (floor_greatest n d h (pos 16777216) (omega (arith, ints))) in omega (arith, ints))

top_shifted : (t : ℕ) → t ≤ 32 → 72057589742960640 / 2 ^ t * 2 ^ t ≡ 72057589742960640
top_shifted t l =
    let f : 32 ≡ (32 - t) + t = omega arith in
    let e : 72057589742960640 ≡ (16777215 * 2 ^ (32 - t)) * 2 ^ t = (let g = ap (λ (k : ℕ). 2 ^ k) f ∙ pow-add 2 (32 - t) t in omega arith) in
    ap (λ (k : ℕ). k / 2 ^ t * 2 ^ t) e ∙ ap (λ (k : ℕ). k * 2 ^ t) (mul-div_cancel (16777215 * 2 ^ (32 - t)) (pow_pos t)) ∙ sym e

module _ (n : ℤ) (d t m : ℕ) (h : Held n d t) (e : m ≡ 72057589742960640 / 2 ^ t) where
  top : 72057589742960640 * d ≡ m * d * 2 ^ t
  top = ap (λ (k : ℕ). k * d) (sym (ap (λ (k : ℕ). k * 2 ^ t) e ∙ top_shifted t h.short)) ∙ mul_right_comm m (2 ^ t) d

  size : nat_abs (shifted n t) ≡ nat_abs n * 2 ^ t
  size = unsigned_abs-mul n (pos (2 ^ t))

  pub ratio_beyond : m * d < nat_abs n → None ≡ grid_below sliding_grid (units_over sliding_grid (shifted n t) d h.positive)
  ratio_beyond l = ratio_none (shifted n t) d h.positive
      (let w = mul-le-mul_right (2 ^ t) l in let o = pow_pos t in let f = top in let g = size in omega arith)

  module _ (l : nat_abs n ≤ m * d) where
    abbrev k : ℤ
    k = int_div_euclid n (pos d)

    k_small : nat_abs k ≤ m
    k_small = floor_small n d h.positive m l

    shifted_small : nat_abs (shifted k t) ≤ 72057589742960640
    shifted_small = let b = shifted_bound k t t m k_small (omega arith) in let f = ap (λ (y : ℕ). y * 2 ^ t) e ∙ top_shifted t h.short in omega arith

    within : whole.below (shifted k t) ≡ grid_below sliding_grid (units_over sliding_grid (shifted n t) d h.positive)
    within = by_whole (shifted n t) d h.positive (let w = mul-le-mul_right (2 ^ t) l in let f = top in let g = size in omega arith)
        (shifted k t) shifted_small (shifted_low n d h.positive t) (shifted_most n d h.positive t h.wide)

    -- by what the code computes
    pub ratio_within : (x : ℤ) → x ≡ k
        → whole.below (to_z w64 ((of_z w64 x * 2 ^ t) % 2 ^ 64)) ≡ grid_below sliding_grid (units_over sliding_grid (shifted n t) d h.positive)
    ratio_within x g =
        let b = k_small in let c = shifted_small in let i = h.short in
        let j : m ≤ 72057589742960640 = (let f = div-le_self 72057589742960640 (2 ^ t) in omega arith) in
        ap (λ (z : ℤ). whole.below (to_z w64 ((of_z w64 z * 2 ^ t) % 2 ^ 64))) g
        ∙ ap (λ (z : ℤ). whole.below z) (plain_shl k t (omega (arith, ints)) (omega arith) (omega arith))
        ∙ within
