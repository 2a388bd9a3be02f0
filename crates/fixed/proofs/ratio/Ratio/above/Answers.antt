use Rattle.std.proofs.Common.{◌≡◌, refl, ◌∙◌, pos, ◌*ℤ◌, arith, rules}
use borrow.Author.Differences.{ints}
use Rattle.kind.proofs.GridRules.{above_of}
use Rattle.kind.specs.Grid.{mirrored}
use Rattle.fixed.proofs.Ratios.{at_above}
use Rattle.fixed.specs.Rules.{fixed_lawful}
use Rattle.fixed.specs.Grid.{fixed_grid}
use Rattle.fixed.proofs.ratio.Ratio.above.Goals as goal

pub returns : goal.returns
returns c =
    let e : c.map.result ≡ mirrored fixed_grid c.below.result = search rules in
    e ∙ above_of fixed_grid fixed_lawful (c.args.self.n *ℤ pos 65536) _ c.args.self.d _ _ (let b = c.args.self.bounded in omega (arith, ints)) c.below.ensures ∙ at_above _ _ _ _ _ refl
