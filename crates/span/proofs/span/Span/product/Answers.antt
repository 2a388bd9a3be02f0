use Rattle.std.proofs.Common.{rules, Some}
use Rattle.span.proofs.Lawful.{product_law}
use Rattle.span.specs.Spans.{span}
use Rattle.span.proofs.span.Span.product.Goals as goal

pub returns-clause-narrowest : goal.returns-clause-narrowest
returns-clause-narrowest g c =
    product_law g.K.NumberKind.model g.met.K.NumberKind.rules _ _ (Some (span g.K.NumberKind.model c.in_ok-lower.lower c.in_ok-lower.upper)) (search rules)
