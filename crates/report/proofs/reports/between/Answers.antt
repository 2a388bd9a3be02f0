use Rattle.std.proofs.Common.{◌≡◌, ◌^◌, ℤ, pos, ◌+ℤ◌, ◌-ℤ◌, neg_ℤ, ◌≤ℤ◌, ap, ◌∙◌, arith, lit<, w64, to_z, of_z}
use borrow.Author.Differences.{ints}
use Rattle.std.specs.Int.{int_div_euclid}
use Rattle.exact.proofs.Floors.{floor_low, floor_next}
use Rattle.report.specs.Reports.{middle_of, report_of}
use Rattle.report.proofs.reports.between.Goals as goal

-- the numbers are small, so that 64 bits hold their sum and difference
small : (l h d : ℤ) → neg_ℤ (pos (2 ^ 56)) ≤ℤ l → l ≤ℤ pos (2 ^ 56) → neg_ℤ (pos (2 ^ 56)) ≤ℤ h → h ≤ℤ pos (2 ^ 56)
    → d ≡ int_div_euclid (to_z w64 (of_z w64 (to_z w64 (of_z w64 l) +ℤ to_z w64 (of_z w64 h)))) (pos 2)
    → record { middle = to_z w64 (of_z w64 d); margin = to_z w64 (of_z w64 (to_z w64 (of_z w64 h) -ℤ to_z w64 (of_z w64 d))) } ≡ report_of l h
small l h d a b p q e =
    let k : to_z w64 (of_z w64 (to_z w64 (of_z w64 l) +ℤ to_z w64 (of_z w64 h))) ≡ l +ℤ h = omega (arith, ints) in
    let e' : d ≡ middle_of l h = e ∙ ap (λ z. int_div_euclid z (pos 2)) k in
    let f = floor_low (l +ℤ h) 2 (lit< tt) in
    let f' = floor_next (l +ℤ h) 2 (lit< tt) in
    let v : to_z w64 (of_z w64 d) ≡ d = omega (arith, ints, e', f, f') in
    let w : to_z w64 (of_z w64 (to_z w64 (of_z w64 h) -ℤ to_z w64 (of_z w64 d))) ≡ h -ℤ d = omega (arith, ints, e', f, f') in
    (λ i. record { middle = (v ∙ e') i; margin = (w ∙ ap (λ z. h -ℤ z) e') i })

pub returns : goal.returns
returns c = small c.args.low c.args.high _ c.requires.low_from c.requires.low_to c.requires.high_from c.requires.high_to c.half-middle.ensures
