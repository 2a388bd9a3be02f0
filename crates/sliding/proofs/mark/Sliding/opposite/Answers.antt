use Rattle.std.proofs.Common.{◌≡◌, pos, ◌-ℤ◌, neg_ℤ, sym, subst, w64, to_z, of_z, arith}
use borrow.Author.Differences.{ints}
use Rattle.sliding.specs.Form.{OnGrid}
use Rattle.sliding.specs.Slides.{on_negative}
use Rattle.sliding.proofs.mark.Sliding.opposite.Goals as goal

pub invariant_of-result : goal.invariant_of-result
invariant_of-result c =
    let b = c.args.self.on_grid.0 in
    let e : to_z w64 (of_z w64 (pos 0 -ℤ to_z w64 (of_z w64 c.args.self.units))) ≡ neg_ℤ c.args.self.units = omega (arith, ints) in
    record { on_grid = subst OnGrid (sym e) (on_negative c.args.self.units c.args.self.on_grid) }
