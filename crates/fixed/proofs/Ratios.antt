-- What the code computes in 64 bits, as ratios of counts.
use Rattle.std.proofs.Common.{◌≡◌, ℕ, ◌*◌, ◌^◌, ◌<◌, ◌≤◌, Bool, cond, [], ◌∷◌, ℤ, pos, negsuc, ◌+ℤ◌, ◌-ℤ◌, ◌*ℤ◌, neg_ℤ, nat_abs, ◌≤ℤ◌, ◌<ℤ◌, Some, None, Option, w32, w64, to_z, of_z, sym, refl, ap, ◌∙◌, subst, arith, lit<}
use borrow.Author.Differences.{ints}
use lib.IntN.{neg_ℤ-neg_ℤ}
use lib.Signed.{le_z, shr_z}
use Rattle.std.proofs.lemmas.Int.{to_z-of_z}
use Rattle.std.specs.Int.{int_div_euclid}
use Rattle.exact.proofs.Floors.{floor_between, floor_exact, floor_greatest, floor_low}
use Rattle.exact.proofs.Integers.{leZ_times, ring, ≤ℤ_cancel, ≤ℤ_times, ≤ℤ_trans}
use Rattle.exact.proofs.Ring.{num, x0, x1, ◌⊗◌, ◌⊕◌}
use Rattle.exact.specs.Floor.{ceiling, floor}
use Rattle.exact.specs.Fraction.{◌≈◌, le_F, max_F, min_F, neg_F}
use Rattle.kind.proofs.GridOps.{above, below}
use Rattle.kind.proofs.GridRules.{above_of, ratio_none_over, ratio_none_under, ratio_some}
use Rattle.kind.specs.Grid.{grid_above, grid_below, grid_value, units_over}
use Rattle.kind.specs.Model.{count}
use Rattle.fixed.specs.Rules.{fixed_lawful, same_mark}
use Rattle.fixed.specs.Grid.{Count, fixed_grid}
use Rattle.fixed.specs.Ratios.{pair, product}
use Rattle.fixed.specs.declared.mark.Fixed.{Fixed}
use Rattle.fixed.specs.declared.ratio.Product.{Product}

-- ---- the floor of n / d counts is a count, and the mark below
pub floor_count : (n : ℤ) (d : ℕ) → 0 < d → (neg_ℤ (pos 1073741823) *ℤ pos d) ≤ℤ n → n ≤ℤ (pos 1073741823 *ℤ pos d) → Count (int_div_euclid n (pos d))
floor_count n d h p q = (floor_greatest n d h (neg_ℤ (pos 1073741823)) p, ≤ℤ_cancel (int_div_euclid n (pos d)) (pos 1073741823) d h (≤ℤ_trans (floor_low n d h) q))

pub fixed_some : (n : ℤ) (d : ℕ) (h : 0 < d) (k : Fixed) → k.count ≡ int_div_euclid n (pos d) → n ≤ℤ (pos 1073741823 *ℤ pos d) → Some k ≡ grid_below fixed_grid (units_over fixed_grid n d h)
fixed_some n d h k e p = ratio_some fixed_grid fixed_lawful n d h k
    (subst (λ (z : ℤ). (z *ℤ pos d) ≤ℤ n) (sym e) (floor_low n d h)) p (λ a q. subst (λ (z : ℤ). a.count ≤ℤ z) (sym e) (floor_greatest n d h a.count q))

pub fixed_none : (n : ℤ) (d : ℕ) (h : 0 < d) → 1073741823 * d < nat_abs n → None ≡ grid_below fixed_grid (units_over fixed_grid n d h)
fixed_none (pos a) d h p = ratio_none_over fixed_grid fixed_lawful (pos a) d h (omega (arith, ints))
fixed_none (negsuc a) d h p = ratio_none_under fixed_grid fixed_lawful (negsuc a) d h (omega (arith, ints))

pub above_none : (n : ℤ) (d : ℕ) (h : 0 < d) → 1073741823 * d < nat_abs n → None ≡ grid_above fixed_grid (units_over fixed_grid n d h)
above_none n d h p = above_of fixed_grid fixed_lawful n (neg_ℤ n) d h None refl (fixed_none (neg_ℤ n) d h (omega (arith, ints)))

-- a pair is absent where one of the two is
none_of : (p : Option Fixed) → None ≡ pair p None
none_of None = refl
none_of (Some l) = refl

pub none_first : (p q : Option Fixed) → None ≡ p → None ≡ pair p q
none_first p q e = ap (λ (o : Option Fixed). pair o q) e

pub none_second : (p q : Option Fixed) → None ≡ q → None ≡ pair p q
none_second p q e = none_of p ∙ ap (pair p) e

-- the floor of a product is a shift
shift_plain : (n : ℤ) → nat_abs n ≤ 1073741823 * 65536 → to_z w32 (of_z w32 (to_z w64 (of_z w64 (shr_z n 65536)))) ≡ int_div_euclid n (pos 65536)
shift_plain (pos a) h = omega (arith, ints)
shift_plain (negsuc a) h = omega (arith, ints)

pub shift_count : (n : ℤ) → nat_abs n ≤ 1073741823 * 65536 → to_z w32 (of_z w32 (to_z w64 (of_z w64 (shr_z (to_z w64 (of_z w64 n)) 65536)))) ≡ int_div_euclid n (pos 65536)
shift_count n h = rw (to_z-of_z w64 n (omega (arith, ints))) (shift_plain n h)

one_more : (q : ℤ) (d : ℕ) → (q +ℤ pos 1) *ℤ pos d ≡ q *ℤ pos d +ℤ pos d
one_more q d = ring (q ∷ pos d ∷ []) ((x0 ⊕ num (pos 1)) ⊗ x1) (x0 ⊗ x1 ⊕ x1) refl

one_less : (q : ℤ) (d : ℕ) → (q +ℤ negsuc 0) *ℤ pos d ≡ q *ℤ pos d +ℤ negsuc 0 *ℤ pos d
one_less q d = ring (q ∷ pos d ∷ []) ((x0 ⊕ num (negsuc 0)) ⊗ x1) (x0 ⊗ x1 ⊕ num (negsuc 0) ⊗ x1) refl

-- q is the floor where the rest, n − q·d, is from 0 to below d
floor_at : (n q : ℤ) (d : ℕ) → 0 < d → (q *ℤ pos d) ≤ℤ n → n <ℤ (q *ℤ pos d +ℤ pos d) → q ≡ int_div_euclid n (pos d)
floor_at n q d h low high = sym (floor_between n q d h low (rw (one_more q d) high))

-- Where the rest r is from −d to below d, q or one less is the floor. The sign of r, shifted through a word, is what to add, 0 or −1, ..
abbrev pub Sign : ℤ → Type 0
Sign z = (negsuc 0 ≤ℤ z) × (z ≤ℤ pos 0)

pub sign_shifted : (r : ℤ) (d : ℕ) → d < 2 ^ 32 → neg_ℤ (pos d) ≤ℤ r → r <ℤ pos d → Sign (shr_z r (2 ^ 63))
sign_shifted (pos a) d w low high = (omega (arith, ints), omega (arith, ints))
sign_shifted (negsuc a) d w low high = (omega (arith, ints), omega (arith, ints))

pub floor_near : (n q r : ℤ) (d : ℕ) → 0 < d → d < 2 ^ 32 → r ≡ n -ℤ q *ℤ pos d → neg_ℤ (pos d) ≤ℤ r → r <ℤ pos d
    → q +ℤ shr_z r (2 ^ 63) ≡ int_div_euclid n (pos d)
floor_near n q (pos a) d h w e low high =
    let z : q +ℤ shr_z (pos a) (2 ^ 63) ≡ q = omega (arith, ints) in
    z ∙ floor_at n q d h (omega (arith, ints)) (omega (arith, ints))
floor_near n q (negsuc a) d h w e low high =
    let z : q +ℤ shr_z (negsuc a) (2 ^ 63) ≡ q +ℤ negsuc 0 = omega (arith, ints) in
    let p = one_less q d in
    z ∙ floor_at n (q +ℤ negsuc 0) d h (omega (arith, ints)) (omega (arith, ints))

-- .. and n / d is not above the top, if q is below it
pub near_high : (n q r : ℤ) (d : ℕ) → q <ℤ pos 1073741823 → r ≡ n -ℤ q *ℤ pos d → r <ℤ pos d → n ≤ℤ (pos 1073741823 *ℤ pos d)
near_high n q r d t e high =
    let p = one_more q d in
    let k = ≤ℤ_times (q +ℤ pos 1) (pos 1073741823) d (omega (arith, ints)) in
    omega (arith, ints)

-- the sum is a count, and its cast cuts nothing
pub plain_sum : (q z : ℤ) → nat_abs q < 1073741823 → Sign z
    → to_z w32 (of_z w32 (to_z w64 (of_z w64 (to_z w64 (of_z w64 q) +ℤ to_z w64 (of_z w64 z))))) ≡ q +ℤ z
plain_sum q z h s = omega (arith, ints)

pub sum_count : (q z : ℤ) → nat_abs q < 1073741823 → Sign z → Count (q +ℤ z)
sum_count q z h s = (omega (arith, ints), omega (arith, ints))

-- at the number that is meant
module _ (z n : ℤ) (d : ℕ) (g h : 0 < d) (e : z ≡ n) where
  same : units_over fixed_grid z d g ≈ units_over fixed_grid n d h
  unfolding units_over
  same = record { cross = ap (λ (y : ℤ). y *ℤ pos (d * 65536)) e }

  pub at_below : grid_below fixed_grid (units_over fixed_grid z d g) ≡ grid_below fixed_grid (units_over fixed_grid n d h)
  at_below = below fixed_grid fixed_lawful _ _ same

  pub at_above : grid_above fixed_grid (units_over fixed_grid z d g) ≡ grid_above fixed_grid (units_over fixed_grid n d h)
  at_above = above fixed_grid fixed_lawful _ _ same

-- ---- products over one denominator compare as their whole numbers do
module _ (p q : Product) where
  le_product : le_F (product p) (product q) ≡ le_z p.n q.n
  unfolding le_F units_over
  le_product = leZ_times p.n q.n (65536 * 65536) (lit< tt)

  pub min_product : min_F (product p) (product q) ≡ cond (le_z p.n q.n) (product p) (product q)
  unfolding min_F
  min_product = ap (λ (b : Bool). cond b (product p) (product q)) le_product

  pub max_product : max_F (product p) (product q) ≡ cond (le_z p.n q.n) (product q) (product p)
  unfolding max_F
  max_product = ap (λ (b : Bool). cond b (product q) (product p)) le_product

-- ---- n counts, where nothing is rounded
module _ (n : ℤ) where
  at_count : units_over fixed_grid n 1 (lit< tt) ≈ count n
  unfolding units_over
  at_count = record { cross = refl }

  pub below_count : grid_below fixed_grid (units_over fixed_grid n 1 (lit< tt)) ≡ grid_below fixed_grid (count n)
  below_count = below fixed_grid fixed_lawful _ _ at_count

  pub above_count : grid_above fixed_grid (units_over fixed_grid n 1 (lit< tt)) ≡ grid_above fixed_grid (count n)
  above_count = above fixed_grid fixed_lawful _ _ at_count

some_whole : (n : ℤ) (f : Fixed) → f.count ≡ n → Some f ≡ grid_below fixed_grid (units_over fixed_grid n 1 (lit< tt))
some_whole n f e = fixed_some n 1 (lit< tt) f (e ∙ sym (floor_between n n 1 (lit< tt) (omega (arith, ints)) (omega (arith, ints)))) (let p = f.fits in omega (arith, ints))

pub whole_below : (n : ℤ) (f : Fixed) → f.count ≡ n → Some f ≡ grid_below fixed_grid (count n)
whole_below n f e = some_whole n f e ∙ below_count n

pub whole_above : (n : ℤ) (f : Fixed) → f.count ≡ n → Some f ≡ grid_above fixed_grid (count n)
whole_above n f e = ap Some (same_mark f _ (sym (neg_ℤ-neg_ℤ f.count)))
    ∙ above_of fixed_grid fixed_lawful n (neg_ℤ n) 1 (lit< tt) (Some (fixed_grid.minus f)) refl (some_whole (neg_ℤ n) (fixed_grid.minus f) (ap neg_ℤ e)) ∙ above_count n

pub beyond_below : (n : ℤ) → 1073741823 < nat_abs n → None ≡ grid_below fixed_grid (count n)
beyond_below n p = fixed_none n 1 (lit< tt) p ∙ below_count n

pub beyond_above : (n : ℤ) → 1073741823 < nat_abs n → None ≡ grid_above fixed_grid (count n)
beyond_above n p = above_none n 1 (lit< tt) p ∙ above_count n

-- ---- order and whole numbers
pub le_count : (a b : Fixed) → le_F (grid_value fixed_grid a) (grid_value fixed_grid b) ≡ le_z a.count b.count
unfolding le_F
le_count a b = leZ_times a.count b.count 65536 (lit< tt)

pub floor_of_count : (a : Fixed) → floor 65536 (grid_value fixed_grid a) ≡ a.count
unfolding floor
floor_of_count a = floor_exact a.count 65536 (lit< tt)

pub ceiling_of_count : (a : Fixed) → ceiling 65536 (grid_value fixed_grid a) ≡ a.count
unfolding ceiling floor neg_F
ceiling_of_count a = ap neg_ℤ (floor_exact (neg_ℤ a.count) 65536 (lit< tt)) ∙ neg_ℤ-neg_ℤ a.count
