use Rattle.std.proofs.Common.{arith}
use Rattle.sheet.proofs.Held.{held_is}
use Rattle.sheet.proofs.Made.{makes}
use Rattle.sheet.specs.Contents.{contents}
use Rattle.sheet.proofs.sheet.Sheet.add.Goals as goal

pub returns : goal.returns
returns g c =
    let s = c.args.self.now in
    let e = c.add_line.ensures in
    record { made = _; makes = makes g.K.NumberKind.model (contents s) c.args.working.now c.args.line (omega (arith, held_is s, s.few)); answer = e.answer; sheet = e.sheet; records = e.records }
