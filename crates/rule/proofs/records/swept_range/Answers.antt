use Rattle.std.proofs.Common.{sym, ◌∙◌, w32, to_z, of_z, rules}
use Rattle.rule.proofs.Ranges.{swept_out}
use Rattle.rule.proofs.records.swept_range.Goals as goal

pub returns-in_err-x0 : goal.returns-in_err-x0
returns-in_err-x0 g c = swept_out g.K.NumberKind.model c.args.place
    {lower' = to_z w32 (of_z w32 c.args.range.lower)} {upper' = to_z w32 (of_z w32 c.args.range.upper)} {centre' = to_z w32 (of_z w32 c.args.centre)}
    (search rules) (search rules) (search rules) c.from_residual-in_err-x0.ensures.1
    c.of_counts.ensures.value c.of_counts-2.ensures.value (sym c.present.ensures ∙ c.in_ok-x.was) (sym c.present-2.ensures ∙ c.in_err-x0.was)
