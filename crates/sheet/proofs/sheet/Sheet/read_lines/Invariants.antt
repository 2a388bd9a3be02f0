use Rattle.std.proofs.Common.{◌≡◌}
use Rattle.boxes.specs.Stored.{box_of}
use Rattle.sheet.proofs.ReadLines.{Going}
use Rattle.sheet.proofs.sheet.Sheet.read_lines.Given as goal

abbrev pub invariant-loop-n : goal.invariant-loop-n
invariant-loop-n g l = (Going g.K.NumberKind.model (box_of l.initial.self.over) l.count l.bytes l.initial.place.at l.initial.working l.self.lines l.working l.place.at l.n)
    × (l.self.over ≡ l.initial.self.over) × (l.self.held ≡ 0)
