-- The products of the sliding kind.
use Rattle.std.proofs.Common.{◌≡◌, ◌*◌, ◌^◌, ◌≤◌, Bool, true, false, cond, ℤ, pos, ◌*ℤ◌, neg_ℤ, nat_abs, Some, None, Option, ◌||◌, sym, refl, ap, ap₂, ◌∙◌, arith, lit<, w64, to_z, of_z}
use Rattle.std.specs.Prelude.{int_le}
use borrow.Author.Differences.{ints}
use lib.Signed.{shr_z}
use Rattle.std.proofs.lemmas.Bool.{ltb-false, ltb-true}
use Rattle.std.proofs.lemmas.Int.{to_z-of_z}
use Rattle.std.specs.Int.{int_div_euclid, w128}
use Rattle.exact.proofs.Integers.{leZ_times}
use Rattle.exact.specs.Optional.{◌>>=◌}
use Rattle.exact.specs.Fraction.{Frac, ◌*F◌, le_F, max_F, min_F}
use Rattle.kind.proofs.GridRules.{above_of}
use Rattle.kind.specs.Grid.{grid_above, grid_below, grid_value, units_over}
use Rattle.kind.specs.Model.{greatest_product, least_product, product_above, product_below, product_ends}
use Rattle.sliding.proofs.Rounds.{by_floor, floor_small, ratio_none}
use Rattle.sliding.proofs.Scales.{plain_shr}
use Rattle.sliding.specs.Grid.{sliding_grid, sliding_model}
use Rattle.sliding.specs.Rules.{sliding_lawful}
use Rattle.sliding.specs.Products as products
use Rattle.sliding.specs.Whole as whole
use Rattle.sliding.specs.declared.mark.Sliding.{Sliding}

-- ---- rounding, by what the code computes
pub no_mark : (n : ℤ) → products.beyond n ≡ true → None ≡ products.below n
no_mark n h = ratio_none n 16777216 (lit< tt) (ltb-true _ _ h)

no_upper : (n : ℤ) → products.beyond n ≡ true → None ≡ products.above n
no_upper n h = above_of sliding_grid sliding_lawful n (neg_ℤ n) 16777216 (lit< tt) None refl
    (ratio_none (neg_ℤ n) 16777216 (lit< tt) (let l = ltb-true _ _ h in omega (arith, ints)))

module _ (n : ℤ) (b : nat_abs n ≤ 2 ^ 112) (i : products.beyond n ≡ false) where
  within : nat_abs n ≤ 72057589742960640 * 16777216
  within = ltb-false _ _ i

  -- the whole units in it
  abbrev units : ℤ
  units = to_z w64 (of_z w64 (to_z w128 (of_z w128 (shr_z (to_z w128 (of_z w128 n)) 16777216))))

  units_is : units ≡ int_div_euclid n (pos 16777216)
  units_is = let c = floor_small n 16777216 (lit< tt) 72057589742960640 within in
      ap (λ (z : ℤ). to_z w64 (of_z w64 z)) (plain_shr w128 n 24 (omega (arith, ints)))
      ∙ to_z-of_z w64 (int_div_euclid n (pos 16777216)) (omega (arith, ints))

  pub is_below : whole.below units ≡ products.below n
  is_below = ap (λ (z : ℤ). whole.below z) units_is ∙ by_floor n 16777216 (lit< tt) within

-- ---- both ends
no_pair : (o : Option Sliding) → ◌≡◌ {A = Option (Sliding × Sliding)} None (o >>= (λ l. None))
no_pair None = refl
no_pair (Some l) = refl

no_ends_at : (n m : ℤ) (s t : Bool) → products.beyond n ≡ s → products.beyond m ≡ t → s || t ≡ true → None ≡ products.ends n m
no_ends_at n m true t e f h = ap (λ (o : Option Sliding). o >>= (λ l. products.above m >>= (λ u. Some (l, u)))) (no_mark n e)
no_ends_at n m false t e f h = no_pair (products.below n)
    ∙ ap (λ (o : Option Sliding). products.below n >>= (λ l. o >>= (λ u. Some (l, u)))) (no_upper m (f ∙ h))

pub no_ends : (n m : ℤ) → products.beyond n || products.beyond m ≡ true → None ≡ products.ends n m
no_ends n m = no_ends_at n m _ _ refl refl

-- ---- of marks
pub product_is : (a b : Sliding) → products.product (a.units *ℤ b.units) ≡ (grid_value sliding_grid a *F grid_value sliding_grid b)
unfolding ◌*F◌ units_over
product_is a b = refl

-- ---- the choice of two
chosen : (t : Bool) (x y : ℤ) → cond t (products.product x) (products.product y) ≡ products.product (cond t x y)
chosen true x y = refl
chosen false x y = refl

order : (x y : ℤ) → le_F (products.product x) (products.product y) ≡ int_le x y
unfolding le_F units_over
order x y = leZ_times x y (16777216 * 16777216) (lit< tt)

lesser_is : (x y : ℤ) → min_F (products.product x) (products.product y) ≡ products.product (products.lesser x y)
unfolding min_F
lesser_is x y = ap (λ (t : Bool). cond t (products.product x) (products.product y)) (order x y) ∙ chosen (int_le x y) x y

greater_is : (x y : ℤ) → max_F (products.product x) (products.product y) ≡ products.product (products.greater x y)
unfolding max_F
greater_is x y = ap (λ (t : Bool). cond t (products.product y) (products.product x)) (order x y) ∙ chosen (int_le x y) y x

-- ---- the operations of the kind, from the products that the code computes
module _ (a b : Sliding) (n : ℤ) (e : n ≡ a.units *ℤ b.units) where
  is : products.product n ≡ (grid_value sliding_grid a *F grid_value sliding_grid b)
  is = ap (λ (z : ℤ). products.product z) e ∙ product_is a b

  pub is_product_below : products.below n ≡ product_below sliding_model a b
  is_product_below = ap (λ (x : Frac). grid_below sliding_grid x) is

  pub is_product_above : products.above n ≡ product_above sliding_model a b
  is_product_above = ap (λ (x : Frac). grid_above sliding_grid x) is

module _ (a b c d : Sliding) (p q r s x y v w n m : ℤ) (ep : p ≡ a.units *ℤ c.units) (eq : q ≡ a.units *ℤ d.units)
    (er : r ≡ b.units *ℤ c.units) (es : s ≡ b.units *ℤ d.units) (ex : x ≡ products.lesser p q) (ey : y ≡ products.lesser r s)
    (en : n ≡ products.lesser x y) (ev : v ≡ products.greater p q) (ew : w ≡ products.greater r s) (em : m ≡ products.greater v w) where
  least_is : products.product n ≡ least_product sliding_model a b c d
  least_is = ap (λ (z : ℤ). products.product z) (en ∙ ap₂ products.lesser ex ey) ∙ sym (ap₂ min_F
      (ap₂ min_F (sym (is a c p ep)) (sym (is a d q eq)) ∙ lesser_is p q)
      (ap₂ min_F (sym (is b c r er)) (sym (is b d s es)) ∙ lesser_is r s) ∙ lesser_is (products.lesser p q) (products.lesser r s))

  greatest_is : products.product m ≡ greatest_product sliding_model a b c d
  greatest_is = ap (λ (z : ℤ). products.product z) (em ∙ ap₂ products.greater ev ew) ∙ sym (ap₂ max_F
      (ap₂ max_F (sym (is a c p ep)) (sym (is a d q eq)) ∙ greater_is p q)
      (ap₂ max_F (sym (is b c r er)) (sym (is b d s es)) ∙ greater_is r s) ∙ greater_is (products.greater p q) (products.greater r s))

  pub is_ends : products.ends n m ≡ product_ends sliding_model a b c d
  is_ends = ap₂ (λ (x y : Frac). grid_below sliding_grid x >>= (λ l. grid_above sliding_grid y >>= (λ u. Some (l, u)))) least_is greatest_is
