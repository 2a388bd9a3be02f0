use Rattle.crossing.proofs.HeldIn.{few_lines}
use Rattle.crossing.specs.Memory.{records_in}
use Rattle.crossing.specs.Sheets.{sheet_of}
use Rattle.sheet.proofs.Reported.{answered}
use Rattle.crossing.proofs.reporting.report_line.Goals as goal

pub returns : goal.returns
returns g c =
    let s = sheet_of c.args.sheet.now in
    let e = c.by_record.ensures in
    record { judged = answered g.K.NumberKind.model s (records_in g.K.Crossing.mark_of c.args.working.now) c.args.line (few_lines c.args.sheet.now) e; ruled = λ _. e }
