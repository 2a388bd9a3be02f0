use Rattle.std.proofs.Common.{◌≡◌, ap, ◌∙◌, rules}
use Rattle.exact.specs.Fraction.{inverse}
use Rattle.kind.specs.Grid.{grid_value, mirrored}
use Rattle.kind.specs.Model.{quotient_below}
use Rattle.sliding.proofs.Ops.{mirror_maybe}
use Rattle.sliding.specs.Grid.{sliding_grid, sliding_model}
use Rattle.sliding.specs.declared.mark.Sliding.{Sliding}
use Rattle.sliding.proofs.arithmetic.SlidingNumberKind.quotient_above.Goals as goal

pub returns : goal.returns
returns c =
    let e : c.map.result ≡ mirrored sliding_grid c.quotient.result = search rules in
    e ∙ ap (mirrored sliding_grid) (c.quotient.ensures ∙ ap (λ (a : Sliding). quotient_below sliding_model a c.args.other) c.opposite.ensures)
    ∙ mirror_maybe c.args.self (inverse (grid_value sliding_grid c.args.other))
