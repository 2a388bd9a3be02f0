use Rattle.std.proofs.Common.{◌≡◌, Err, ap, ◌∙◌, w32, to_z, of_z, rules}
use Rattle.std.proofs.lemmas.Result.{err_from_is_err_and}
use Rattle.rule.specs.Placed.{accepts}
use Rattle.rule.specs.Rule.{swept_range}
use Rattle.rule.proofs.records.put_swept.Goals as goal

pub returns-in_err-records-clause-answer : goal.returns-in_err-records-clause-answer
returns-in_err-records-clause-answer g c =
    let e = err_from_is_err_and c.from_residual.result c.from_residual.ensures.1 in
    let x : to_z w32 (of_z w32 c.args.centre) ≡ c.args.centre = search rules in
    e.1 ∙ ap Err e.2 ∙ ap accepts c.in_err-records.ensures ∙ ap (λ z. accepts (swept_range g.K.NumberKind.model c.args.range.lower c.args.range.upper z c.args.n)) x
