-- The operations of the sliding kind.
use Rattle.std.proofs.Common.{◌≡◌, ℕ, zero, suc, ◌+◌, ◌-◌, ◌*◌, ◌%◌, ◌^◌, ◌<◌, ◌≤◌, [], ◌∷◌, ℤ, pos, ◌+ℤ◌, ◌-ℤ◌, ◌*ℤ◌, neg_ℤ, nat_abs, ◌<ℤ◌, Some, None, Option, sym, refl, ap, ◌∙◌, subst, subst₂, shl_exact, mul-pos, arith, lit<, pow_pos, pow-add, w32, w64, SFits, to_z, of_z}
use borrow.Author.Differences.{ints}
use lib.Signed.{le_z, shr_z}
use Rattle.std.proofs.lemmas.Int.{to_z-of_z, unsigned_abs-mul}
use Rattle.std.specs.Int.{int_div_euclid}
use Rattle.exact.proofs.Floors.{floor_between, floor_low, floor_next}
use Rattle.exact.proofs.Integers.{leZ_times, ring}
use Rattle.exact.proofs.Ring.{◌⊗◌, num, x0, x1, x2, x3, ⊝◌}
use Rattle.exact.specs.Floor.{ceiling, floor}
use Rattle.exact.specs.Fraction.{Frac, ◌*F◌, ◌≈◌, le_F, neg_F, ratio}
use Rattle.exact.specs.Optional.{◌>>=◌}
use Rattle.kind.proofs.GridOps.{above, below, quotient_below_neg, quotient_below_pos, sum_above_is, sum_below_is}
use Rattle.kind.specs.Grid.{grid_above, grid_below, grid_value, mirrored, units_over}
use Rattle.kind.specs.Model.{count, count_above, count_below, quotient_below, sum_above, sum_below}
use Rattle.sliding.proofs.Scales.{plain_part, plain_shr}
use Rattle.sliding.proofs.Stored.{of_stored}
use Rattle.sliding.specs.Cut.{Stands, shifted}
use Rattle.sliding.specs.Form.{Normal}
use Rattle.sliding.specs.Grid.{sliding_grid, sliding_model, stored_as}
use Rattle.sliding.specs.Rules.{sliding_lawful}
use Rattle.sliding.specs.Slides.{shifted_add, shifted_bound}
use Rattle.sliding.specs.Whole as whole
use Rattle.sliding.specs.declared.mark.Sliding.{Sliding}

-- ---- sums and counts
module _ (z : ℤ) (a b : Sliding) (e : z ≡ a.units +ℤ b.units) where
  pub is_sum_below : whole.below z ≡ sum_below sliding_model a b
  is_sum_below = ap (λ (y : ℤ). whole.below y) e ∙ sum_below_is sliding_grid sliding_lawful a b (lit< tt)

  pub is_sum_above : whole.above z ≡ sum_above sliding_model a b
  is_sum_above = ap (λ (y : ℤ). whole.above y) e ∙ sum_above_is sliding_grid sliding_lawful a b (lit< tt)

module _ (z n : ℤ) (e : z ≡ n *ℤ pos 256) where
  at_count : units_over sliding_grid z 1 (lit< tt) ≈ count n
  unfolding units_over
  at_count = record { cross = omega (arith, ints) }

  pub is_count_below : whole.below z ≡ count_below sliding_model n
  is_count_below = below sliding_grid sliding_lawful _ _ at_count

  pub is_count_above : whole.above z ≡ count_above sliding_model n
  is_count_above = above sliding_grid sliding_lawful _ _ at_count

-- ---- quotients
-- a power of two in ratio
ratio_of : (x y z : ℕ) → x ≡ y + z → pos (2 ^ x) ≡ pos (2 ^ y) *ℤ pos (2 ^ z)
ratio_of x y z e = ap (λ (n : ℕ). pos (2 ^ n)) e ∙ ap pos (pow-add 2 y z)

pub quotient_coarse : (m n : ℤ) (a by s d : ℕ) → n ≡ m → nat_abs m ≤ 16777215 → 0 < by → a + 24 < s → d ≡ by * 2 ^ (s - a - 24)
    → Stands (shifted m a *ℤ pos 16777216) (by * 2 ^ s) n d 0
quotient_coarse m n a by s d g p q h e = let o = pow_pos (s - a - 24) in let w = mul-pos q o in record {
  held = record { positive = omega arith; bound = subst (λ (z : ℤ). nat_abs z ≤ 2 ^ 62) (sym g) (omega arith); wide = λ z. omega arith; short = omega arith };
  cross = ap (λ (z : ℤ). shifted z 0 *ℤ pos (by * 2 ^ s)) g
      ∙ ap (λ (z : ℤ). (m *ℤ pos 1) *ℤ (pos by *ℤ z))
      (ratio_of s (a + 24) (s - a - 24) (omega arith) ∙ ap (λ (z : ℤ). z *ℤ pos (2 ^ (s - a - 24))) (ratio_of (a + 24) a 24 refl))
      ∙ ring (m ∷ pos by ∷ pos (2 ^ a) ∷ pos (2 ^ (s - a - 24)) ∷ [])
      (x0 ⊗ num (pos 1) ⊗ (x1 ⊗ (x2 ⊗ num (pos 16777216) ⊗ x3))) (x0 ⊗ x2 ⊗ num (pos 16777216) ⊗ (x1 ⊗ x3)) refl
      ∙ ap (λ (k : ℕ). (shifted m a *ℤ pos 16777216) *ℤ pos k) (sym e);
}

quotient_cross : (m : ℤ) (a by s j : ℕ) → j + s ≡ a + 24 → shifted m j *ℤ pos (by * 2 ^ s) ≡ (shifted m a *ℤ pos 16777216) *ℤ pos by
quotient_cross m a by s j e =
    ring (m ∷ pos by ∷ pos (2 ^ j) ∷ pos (2 ^ s) ∷ []) (x0 ⊗ x2 ⊗ (x1 ⊗ x3)) (x0 ⊗ (x2 ⊗ x3) ⊗ x1) refl
    ∙ ap (λ (z : ℤ). (m *ℤ z) *ℤ pos by) (sym (ratio_of (a + 24) j s (sym e)) ∙ ratio_of (a + 24) a 24 refl)
    ∙ ring (m ∷ pos by ∷ pos (2 ^ a) ∷ []) (x0 ⊗ (x2 ⊗ num (pos 16777216)) ⊗ x1) (x0 ⊗ x2 ⊗ num (pos 16777216) ⊗ x1) refl

pub quotient_lifted : (m n : ℤ) (a by s d t u : ℕ) → n ≡ shifted m u → u + t + s ≡ a + 24 → d ≡ by → Normal m a → 0 < by → by ≤ 16777215 → s ≤ 32
    → s ≤ a + 24 → t ≡ a + 24 - s - 38 → Stands (shifted m a *ℤ pos 16777216) (by * 2 ^ s) n d t
quotient_lifted m n a by s d t u g v l p q r w h k = let b = shifted_bound m u 38 16777215 p.0 (omega arith) in
    subst (λ (y : ℕ). Stands (shifted m a *ℤ pos 16777216) (by * 2 ^ s) n y t) (sym l) (record {
      held = record { positive = q; bound = subst (λ (z : ℤ). nat_abs z ≤ 2 ^ 62) (sym g) (omega arith); wide = large; short = (let e = p.1 in omega arith) };
      cross = ap (λ (z : ℤ). shifted z t *ℤ pos (by * 2 ^ s)) g
          ∙ ap (λ (z : ℤ). z *ℤ pos (by * 2 ^ s)) (sym (shifted_add m u t))
          ∙ quotient_cross m a by s (u + t) v;
    })
  where
    large : 0 < t → 16777216 * by ≤ nat_abs n
    large z = let e : u ≡ 38 = omega arith in let f : n ≡ shifted m 38 = g ∙ ap (shifted m) e in
        let c = p.2 (omega arith) in let b = unsigned_abs-mul m (pos (2 ^ 38)) in subst (λ (y : ℤ). 16777216 * by ≤ nat_abs y) (sym f) (omega arith)

by_shift : (a k : ℕ) → a ≤ 16777215 → k ≤ 8 → (a * 2 ^ k) % 4294967296 ≡ a * 2 ^ k
by_shift a k p h = shl_exact {a = a} 24 k 32 (omega arith) (omega arith)

some_factor : (x y : ℕ) → 0 < x * y → 0 < x
some_factor zero y h = absurd (omega arith)
some_factor (suc x) y h = omega arith

-- what the code computes of the stored forms of a and of a positive b
module _ (a b : Sliding) (m by : ℤ) (s r : ℕ) (p : stored_as m s ≡ Some a) (q : stored_as by r ≡ Some b) (some : pos 0 <ℤ b.units)
    (x : ℤ) (d : ℕ) (e : x ≡ to_z w32 (of_z w32 m)) (f : d ≡ nat_abs (to_z w32 (of_z w32 by))) where
  m_normal : Normal m s
  m_normal = (of_stored m s a p).0

  by_normal : Normal by r
  by_normal = (of_stored by r b q).0

  x_is : x ≡ m
  x_is = let n = m_normal.0 in omega (arith, ints)

  d_is : d ≡ nat_abs by
  d_is = let n = by_normal.0 in omega (arith, ints)

  size : nat_abs by * 2 ^ r ≡ nat_abs b.units
  size = sym (unsigned_abs-mul by (pos (2 ^ r))) ∙ ap nat_abs (sym (of_stored by r b q).1)

  by_some : 0 < nat_abs by
  by_some = some_factor (nat_abs by) (2 ^ r) (let g = size in omega (arith, ints))

  at_marks : (n : ℤ) (c t : ℕ) → Stands (shifted m s *ℤ pos 16777216) (nat_abs by * 2 ^ r) n c t → Stands (a.units *ℤ pos 16777216) (nat_abs b.units) n c t
  at_marks n c t v = subst₂ (λ (y : ℤ) (z : ℕ). Stands (y *ℤ pos 16777216) z n c t) (sym (of_stored m s a p).1) size v

  pub over_coarse : s + 24 < r → Stands (a.units *ℤ pos 16777216) (nat_abs b.units) (to_z w64 (of_z w64 x)) ((d * 2 ^ (r - s - 24)) % 4294967296) 0
  over_coarse l =
      let g = m_normal in let h = by_normal in let i = d_is in
      at_marks _ _ 0 (quotient_coarse m _ s (nat_abs by) r _ (let j = x_is in let k = g.0 in omega (arith, ints)) g.0 by_some l
      (by_shift d (r - s - 24) (let k = h.0 in omega arith) (let k = h.1 in omega arith) ∙ ap (λ (y : ℕ). y * 2 ^ (r - s - 24)) d_is))

  pub over_lifted : (t : ℕ) → r ≤ s + 24 → t ≡ s + 24 - r - 38
      → Stands (a.units *ℤ pos 16777216) (nat_abs b.units) (to_z w64 ((of_z w64 x * 2 ^ (s + 24 - r - t)) % 2 ^ 64)) d t
  over_lifted t l j =
      let g = m_normal in let h = by_normal in
      at_marks _ d t (quotient_lifted m _ s (nat_abs by) r d t (s + 24 - r - t)
      (plain_part x m (s + 24 - r - t) e g.0 (omega arith)) (omega arith) d_is g by_some h.0 h.1 l j)

-- equal cross products are equal ratios
same_below : (n n' : ℤ) (d d' : ℕ) (h : 0 < d) (h' : 0 < d') → n *ℤ pos d' ≡ n' *ℤ pos d
    → grid_below sliding_grid (units_over sliding_grid n d h) ≡ grid_below sliding_grid (units_over sliding_grid n' d' h')
unfolding units_over
same_below n n' d d' h h' e = below sliding_grid sliding_lawful _ _ (record {
  cross =
      ring (n ∷ pos d' ∷ []) (x0 ⊗ (x1 ⊗ num (pos 16777216))) (x0 ⊗ x1 ⊗ num (pos 16777216)) refl
      ∙ ap (λ (z : ℤ). z *ℤ pos 16777216) e
      ∙ ring (n' ∷ pos d ∷ []) (x0 ⊗ x1 ⊗ num (pos 16777216)) (x0 ⊗ (x1 ⊗ num (pos 16777216))) refl;
})

module _ (a b : Sliding) (n : ℤ) (by d t : ℕ) (h : 0 < d) (some : 0 < by) where
  pub div_pos : b.units ≡ pos by → Stands (a.units *ℤ pos 16777216) by n d t
      → grid_below sliding_grid (units_over sliding_grid (shifted n t) d h) ≡ quotient_below sliding_model a b
  div_pos f s = same_below (shifted n t) _ d by h some s.cross ∙ quotient_below_pos sliding_grid sliding_lawful a b by some f

  pub div_neg : b.units ≡ neg_ℤ (pos by) → Stands (neg_ℤ a.units *ℤ pos 16777216) by n d t
      → grid_below sliding_grid (units_over sliding_grid (shifted n t) d h) ≡ quotient_below sliding_model a b
  div_neg f s = same_below (shifted n t) _ d by h some s.cross ∙ quotient_below_neg sliding_grid sliding_lawful a b by some f

-- ---- the negative of what −a times x rounds to
pub mirror_times : (a : Sliding) (x : Frac)
    → mirrored sliding_grid (grid_below sliding_grid (grid_value sliding_grid (sliding_grid.minus a) *F x))
    ≡ grid_above sliding_grid (grid_value sliding_grid a *F x)
unfolding grid_above neg_F ◌*F◌
mirror_times a x = ap (mirrored sliding_grid) (below sliding_grid sliding_lawful _ _
    (record { cross = ring (a.units ∷ x.top ∷ pos (16777216 * x.bot) ∷ []) (⊝ x0 ⊗ x1 ⊗ x2) (⊝ (x0 ⊗ x1) ⊗ x2) refl }))

pub mirror_maybe : (a : Sliding) (o : Option Frac)
    → mirrored sliding_grid (o >>= (λ x. grid_below sliding_grid (grid_value sliding_grid (sliding_grid.minus a) *F x)))
    ≡ (o >>= (λ x. grid_above sliding_grid (grid_value sliding_grid a *F x)))
mirror_maybe a None = refl
mirror_maybe a (Some x) = mirror_times a x

-- ---- order and whole numbers
pub le_value : (v w : ℤ) → le_F (ratio v 16777216 (lit< tt)) (ratio w 16777216 (lit< tt)) ≡ le_z v w
unfolding le_F
le_value v w = leZ_times v w 16777216 (lit< tt)

coarse_floor : (v : ℤ) → int_div_euclid (v *ℤ pos 65536) (pos 16777216) ≡ int_div_euclid v (pos 256)
coarse_floor v = let p = floor_low v 256 (lit< tt) in let q = floor_next v 256 (lit< tt) in
    floor_between (v *ℤ pos 65536) (int_div_euclid v (pos 256)) 16777216 (lit< tt) (omega (arith, ints)) (omega (arith, ints))

pub floor_value : (v : ℤ) → floor 65536 (ratio v 16777216 (lit< tt)) ≡ int_div_euclid v (pos 256)
unfolding floor
floor_value v = coarse_floor v

pub ceil_value : (v : ℤ) → ceiling 65536 (ratio v 16777216 (lit< tt)) ≡ neg_ℤ (int_div_euclid (neg_ℤ v) (pos 256))
unfolding ceiling floor neg_F
ceil_value v = ap neg_ℤ (coarse_floor (neg_ℤ v))

module _ (v : ℤ) (b : nat_abs v ≤ 2 ^ 56) where
  pub minus_fits : SFits w64 (pos 0 -ℤ to_z w64 (of_z w64 v))
  minus_fits = omega (arith, ints)

  inner : to_z w64 (of_z w64 (shr_z (to_z w64 (of_z w64 (pos 0 -ℤ to_z w64 (of_z w64 v)))) 256)) ≡ int_div_euclid (neg_ℤ v) (pos 256)
  inner = plain_shr w64 (pos 0 -ℤ to_z w64 (of_z w64 v)) 8 minus_fits ∙ ap (λ (z : ℤ). int_div_euclid z (pos 256)) (omega (arith, ints))

  pub outer_fits : SFits w64 (pos 0 -ℤ to_z w64 (of_z w64 (shr_z (to_z w64 (of_z w64 (pos 0 -ℤ to_z w64 (of_z w64 v)))) 256)))
  outer_fits = let p = floor_low (neg_ℤ v) 256 (lit< tt) in let q = floor_next (neg_ℤ v) 256 (lit< tt) in rw inner (omega (arith, ints))

  pub plain_ceil8 : to_z w64 (of_z w64 (pos 0 -ℤ to_z w64 (of_z w64 (shr_z (to_z w64 (of_z w64 (pos 0 -ℤ to_z w64 (of_z w64 v)))) 256))))
      ≡ ceiling 65536 (ratio v 16777216 (lit< tt))
  plain_ceil8 = to_z-of_z w64 _ outer_fits ∙ ap (λ (z : ℤ). pos 0 -ℤ z) inner ∙ omega (arith, ints) ∙ sym (ceil_value v)
