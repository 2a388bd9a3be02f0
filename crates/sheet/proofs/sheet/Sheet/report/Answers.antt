use Rattle.std.proofs.Common.{arith}
use Rattle.sheet.proofs.Held.{held_is}
use Rattle.sheet.proofs.Reported.{answered}
use Rattle.sheet.specs.Contents.{contents}
use Rattle.sheet.proofs.sheet.Sheet.report.Goals as goal

pub returns : goal.returns
returns g c =
    let s = c.args.self.now in
    record { judged = answered g.K.NumberKind.model (contents s) c.args.working.now c.args.line (omega (arith, held_is s, s.few)) c.report_line.ensures; ruled = λ _. c.report_line.ensures }
