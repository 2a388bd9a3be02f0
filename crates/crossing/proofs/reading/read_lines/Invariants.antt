use Rattle.std.proofs.Common.{◌≡◌}
use Rattle.boxes.specs.Stored.{box_of}
use Rattle.crossing.proofs.ReadIn.{Reading}
use Rattle.crossing.proofs.reading.read_lines.Given as goal

abbrev pub invariant-loop-n : goal.invariant-loop-n
invariant-loop-n g l = Reading g.K.NumberKind.model g.K.Crossing.mark_of (box_of l.over) l.count l.bytes l.initial.place.at l.initial.working l.sheet.lines l.working l.records l.place.at l.n
    × (l.sheet.over ≡ l.initial.sheet.over) × (l.sheet.held ≡ l.initial.sheet.held)
