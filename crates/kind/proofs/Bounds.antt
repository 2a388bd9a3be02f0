-- A mark in whole 1/65,536 is at most 2^56 in size, since no mark lies beyond 2^40.
use Rattle.std.proofs.Common.{◌^◌, ℤ, pos, neg_ℤ, ◌≤ℤ◌, refl, lit<}
use Rattle.exact.proofs.Floors.{ceiling_is, floor_is}
use Rattle.exact.proofs.Integers.{≤ℤ_cancel}
use Rattle.exact.proofs.Order.{neg_mono, ≤F_of_≈, ≤F_trans}
use Rattle.exact.specs.Floor.{ceiling, floor}
use Rattle.exact.specs.Fraction.{◌≤F◌, neg_F, ratio, whole}
use Rattle.kind.proofs.Orders.{mark_inside}
use Rattle.kind.specs.Model.{Model, Rules}

-- from −2^40 to 2^40, in whole 1/65,536
abbrev pub Small : ℤ → Type 0
Small k = (neg_ℤ (pos (2 ^ 56)) ≤ℤ k) × (k ≤ℤ pos (2 ^ 56))

same_ratio : {a b : ℤ} → ratio a 65536 (lit< tt) ≤F ratio b 65536 (lit< tt) → a ≤ℤ b
same_ratio {a} {b} h = ≤ℤ_cancel a b 65536 (lit< tt) h.cross

module _ {K : Type 0} (m : Model K) (rules : Rules m) (a : K) where
  top_at : m.value m.top ≤F ratio (pos (2 ^ 56)) 65536 (lit< tt)
  unfolding whole
  top_at = ≤F_trans rules.bounded (≤F_of_≈ (record { cross = refl }))

  bottom_at : ratio (neg_ℤ (pos (2 ^ 56))) 65536 (lit< tt) ≤F neg_F (m.value m.top)
  unfolding neg_F
  bottom_at = ≤F_trans (≤F_of_≈ (record { cross = refl })) (neg_mono top_at)

  highest : m.value a ≤F ratio (pos (2 ^ 56)) 65536 (lit< tt)
  highest = ≤F_trans (rules.greatest a) top_at

  lowest : ratio (neg_ℤ (pos (2 ^ 56))) 65536 (lit< tt) ≤F m.value a
  lowest = ≤F_trans bottom_at (mark_inside m rules a).0

  pub small_floor : Small (floor 65536 (m.value a))
  small_floor = let f = floor_is 65536 (lit< tt) (m.value a) in (f.greatest _ lowest, same_ratio (≤F_trans f.low highest))

  pub small_ceiling : Small (ceiling 65536 (m.value a))
  small_ceiling = let f = ceiling_is 65536 (lit< tt) (m.value a) in (same_ratio (≤F_trans lowest f.high), f.least _ highest)
