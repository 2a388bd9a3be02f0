use Rattle.std.proofs.Common.{map}
use Rattle.boxes.specs.Stored.{box_of}
use Rattle.crossing.specs.Lines.{line_of}
use Rattle.crossing.proofs.Remade.{Making}
use Rattle.crossing.proofs.moving.remake.Given as goal

abbrev pub invariant-loop-n : goal.invariant-loop-n
invariant-loop-n g l = Making g.K.NumberKind.model g.K.Crossing.mark_of (box_of l.over) (map line_of l.lines) l.initial.memory l.memory l.records l.n
