use Rattle.std.proofs.Common.{sym, subst}
use Rattle.boxes.specs.Stored.{box_of}
use Rattle.report.proofs.Margins.{all_small, answers, covered}
use Rattle.report.specs.Near.{Covers, Near}
use Rattle.report.proofs.reports.report_of.Goals as goal

pub between-requires : goal.between-requires
between-requires g c =
    let s = all_small g.K.NumberKind.model g.met.K.NumberKind.rules (box_of c.args.b.now) c.args.r.now c.range_of-range.ensures.value c.low.ensures c.high.ensures in
    record { low_from = s.0; low_to = s.1; high_from = s.2; high_to = s.3 }

pub returns : goal.returns
returns g c =
    let e = answers g.K.NumberKind.model g.met.K.NumberKind.rules (box_of c.args.b.now) c.args.r.now c.range_of-range.ensures.value c.low.ensures c.high.ensures c.between.ensures in
    record { value = e; truth = subst (λ a. Covers g.K.NumberKind.model (box_of c.args.b.now) c.args.r.now (Near a)) (sym e) (covered g.K.NumberKind.model g.met.K.NumberKind.rules (box_of c.args.b.now) c.args.r.now) }
