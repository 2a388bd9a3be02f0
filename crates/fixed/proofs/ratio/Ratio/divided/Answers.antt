use Rattle.std.proofs.Common.{◌≡◌, ◌∙◌, pos, ◌*ℤ◌, ◌≤ℤ◌, to_z, of_z, w32, w64, arith}
use borrow.Author.Differences.{ints}
use Rattle.std.specs.Int.{int_div_euclid}
use Rattle.fixed.specs.Grid.{Count}
use Rattle.fixed.proofs.Ratios.{fixed_none, fixed_some, floor_count}
use Rattle.fixed.proofs.ratio.Ratio.divided.Goals as goal
use Rattle.fixed.proofs.ratio.Ratio.divided.Goals.{After-div_euclid}

pub returns-then-abs-d : goal.returns-then-abs-d
returns-then-abs-d c =
    let e = c.abs.ensures.value in
    fixed_none (c.args.self.n *ℤ pos 65536) c.args.self.d c.args.self.positive (omega (arith, ints))

high : (c : After-div_euclid) → (c.args.self.n *ℤ pos 65536) ≤ℤ (pos 1073741823 *ℤ pos c.args.self.d)
high c = let e = c.abs.ensures.value in omega (arith, ints)

floor : (c : After-div_euclid) → c.div_euclid.result ≡ int_div_euclid (c.args.self.n *ℤ pos 65536) (pos c.args.self.d)
floor c =
    let n : to_z w64 (of_z w64 (to_z w64 (of_z w64 c.from-n.result) *ℤ pos 65536)) ≡ c.args.self.n *ℤ pos 65536 = omega (arith, ints) in
    let d : to_z w64 (of_z w64 c.from-d.result) ≡ pos c.args.self.d = omega (arith, ints) in
    rw (n, d) at c.div_euclid.ensures

fits : (c : After-div_euclid) → Count c.div_euclid.result
fits c = let e = c.abs.ensures.value in
    rw (floor c) (floor_count (c.args.self.n *ℤ pos 65536) c.args.self.d c.args.self.positive (omega (arith, ints)) (high c))

pub invariant_of-result : goal.invariant_of-result
invariant_of-result c = let f = fits c in record { fits = (omega (arith, ints), omega (arith, ints)) }

pub returns : goal.returns
returns c =
    let at = (goal.at.returns c).After-div_euclid in
    let f = fits at in
    let e : to_z w32 (of_z w32 (to_z w64 (of_z w64 c.div_euclid.result))) ≡ c.div_euclid.result = omega (arith, ints) in
    fixed_some (c.args.self.n *ℤ pos 65536) c.args.self.d c.args.self.positive _ (e ∙ floor at) (high at)
