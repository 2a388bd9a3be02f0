use Rattle.std.proofs.Common.{◌≡◌, ◌∙◌, arith, rules}
use borrow.Author.Differences.{ints}
use Rattle.kind.specs.Grid.{mirrored}
use Rattle.odd.specs.Grid.{sign_grid}
use Rattle.odd.proofs.Computed.{at_above}
use Rattle.odd.proofs.arithmetic.SignNumberKind.count_above.Goals as goal

pub returns : goal.returns
returns c =
    let e : c.map.result ≡ mirrored sign_grid c.rounded.result = search rules in
    e ∙ at_above _ _ c.args.n c.rounded.ensures (omega (arith, ints))
