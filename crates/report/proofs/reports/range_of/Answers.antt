use Rattle.std.proofs.Common.{rules}
use Rattle.boxes.specs.Stored.{box_of}
use Rattle.report.proofs.Margins.{range_law}
use Rattle.report.proofs.reports.range_of.Goals as goal

pub returns-clause-truth : goal.returns-clause-truth
returns-clause-truth g c = range_law g.K.NumberKind.model g.met.K.NumberKind.rules (box_of c.args.b.now) c.args.r.now _ (search rules)
