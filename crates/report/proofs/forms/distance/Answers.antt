use Rattle.std.proofs.Common.{get_or, w32, to_z, of_z, ap, ◌∙◌, rules}
use Rattle.boxes.proofs.Ends.{stored_at}
use Rattle.report.proofs.Distances.{distance_is}
use Rattle.report.specs.Reports.{about}
use Rattle.report.proofs.forms.distance.Goals as goal

pub returns : goal.returns
returns g c = let b = c.args.b.now in let r = get_or b.ranges b.swept c.index-b-b.result in
    c.about.ensures ∙ ap (about g.K.NumberKind.model r.lower r.upper) {x = to_z w32 (of_z w32 b.centre)} {y = b.centre} (search rules)
    ∙ distance_is g.K.NumberKind.model b (stored_at b b.swept c.index-b-b.result b.inside)
