-- The middle and the margin cover the range.
use Rattle.std.proofs.Common.{◌≡◌, ◌^◌, ℤ, pos, ◌+ℤ◌, ◌-ℤ◌, neg_ℤ, ◌≤ℤ◌, sym, ap, ◌∙◌, subst, ap₂, arith, lit<, w64, to_z, of_z}
use borrow.Author.Differences.{ints}
use Rattle.boxes.specs.Boxes.{Box}
use Rattle.exact.proofs.Floors.{ceiling_is, floor_is, floor_low}
use Rattle.exact.proofs.Integers.{≤ℤ_times}
use Rattle.exact.proofs.Order.{≤F_trans}
use Rattle.exact.specs.Floor.{ceiling, floor}
use Rattle.exact.specs.Fraction.{Frac, ◌≤F◌}
use Rattle.kind.proofs.Bounds.{Small, small_ceiling, small_floor}
use Rattle.kind.specs.Model.{Model, Rules, count}
use Rattle.slope.specs.declared.record.Record.{Record}
use Rattle.span.specs.Narrowest.{Held}
use Rattle.span.specs.declared.span.Span.{Span}
use Rattle.report.proofs.Ranges.{in_range}
use Rattle.report.specs.Near.{Covers, Near}
use Rattle.report.specs.Reports.{high, low, middle_of, range, report_of, reported}
use Rattle.report.specs.declared.answer.Report.{Report}

less : {a b : ℤ} → a ≤ℤ b → count a ≤F count b
less {a} {b} h = record { cross = ≤ℤ_times a b 65536 h }

-- 2 × middle is at most low + high
module _ (l h : ℤ) where
  down : (middle_of l h -ℤ (h -ℤ middle_of l h)) ≤ℤ l
  down = let f = floor_low (l +ℤ h) 2 (lit< tt) in omega (arith, ints, f)

  up : h ≤ℤ (middle_of l h +ℤ (h -ℤ middle_of l h))
  up = omega (arith, ints)

module _ {K : Type 0} (m : Model K) (s : Span K) (u : Frac) where
  pub near : Held m s u → Near (report_of (low m s) (high m s)) u
  near i = record {
    low = ≤F_trans (less (down (low m s) (high m s))) (≤F_trans (floor_is 65536 (lit< tt) (m.value s.lower)).low i.low);
    high = ≤F_trans i.high (≤F_trans (ceiling_is 65536 (lit< tt) (m.value s.upper)).high (less (up (low m s) (high m s))));
  }

-- 64 bits hold such an end
pub plain_end : {k k' : ℤ} → k ≡ k' → Small k' → to_z w64 (of_z w64 k) ≡ k'
plain_end {k} {k'} e s = ap (λ z. to_z w64 (of_z w64 z)) e ∙ plain k' s.0 s.1
  where
    plain : (z : ℤ) → neg_ℤ (pos (2 ^ 56)) ≤ℤ z → z ≤ℤ pos (2 ^ 56) → to_z w64 (of_z w64 z) ≡ z
    plain z a b = omega (arith, ints)

module _ {K : Type 0} (m : Model K) (rules : Rules m) (b : Box) (r : Record K) where
  -- what equals the range has its law
  pub range_law : (s : Span K) → s ≡ range m b r → Covers m b r (Held m s)
  range_law s e = subst (λ s. Covers m b r (Held m s)) (sym e) (λ x u u0 sweeps t. in_range m rules b r x u u0 sweeps t)

  pub covered : Covers m b r (Near (reported m b r))
  covered x u u0 s t = near m (range m b r) u (in_range m rules b r x u u0 s t)

  -- the ends as the code has them
  module _ {range' : Span K} (e : range' ≡ range m b r) {l h : ℤ} (el : l ≡ floor 65536 (m.value range'.lower)) (eh : h ≡ ceiling 65536 (m.value range'.upper)) where
    pub end_low : to_z w64 (of_z w64 l) ≡ low m range'
    end_low = plain_end el (small_floor m rules range'.lower)

    pub end_high : to_z w64 (of_z w64 h) ≡ high m range'
    end_high = plain_end eh (small_ceiling m rules range'.upper)

    pub all_small : (neg_ℤ (pos (2 ^ 56)) ≤ℤ to_z w64 (of_z w64 l)) × (to_z w64 (of_z w64 l) ≤ℤ pos (2 ^ 56)) × (neg_ℤ (pos (2 ^ 56)) ≤ℤ to_z w64 (of_z w64 h)) × (to_z w64 (of_z w64 h) ≤ℤ pos (2 ^ 56))
    all_small = let p = subst Small (sym end_low) (small_floor m rules range'.lower) in let q = subst Small (sym end_high) (small_ceiling m rules range'.upper) in (p.0, p.1, q.0, q.1)

    pub answers : {a : Report} → a ≡ report_of (to_z w64 (of_z w64 l)) (to_z w64 (of_z w64 h)) → a ≡ reported m b r
    answers q = q ∙ ap₂ report_of (end_low ∙ ap (low m) e) (end_high ∙ ap (high m) e)
