use Rattle.std.proofs.Common.{ℤ, ◌*ℤ◌, ◌∙◌, ap, ap₂, arith, lit<, w64, to_z, of_z}
use borrow.Author.Differences.{ints}
use Rattle.kind.proofs.Plain.{plain_product}
use Rattle.exact.specs.Fraction.{◌*F◌}
use Rattle.kind.specs.Grid.{units_over}
use Rattle.fixed.specs.Grid.{fixed_grid}
use Rattle.fixed.proofs.arithmetic.product.Goals as goal

pub returns : goal.returns
unfolding ◌*F◌ units_over
returns c =
    let e = ap₂ (λ (x : ℤ) (y : ℤ). to_z w64 (of_z w64 (to_z w64 (of_z w64 x) *ℤ to_z w64 (of_z w64 y)))) c.from.ensures c.from-2.ensures
    ∙ plain_product c.args.a.count c.args.b.count (omega (arith, ints)) (omega (arith, ints)) in
    ap (λ (z : ℤ). units_over fixed_grid z 65536 (lit< tt)) e
