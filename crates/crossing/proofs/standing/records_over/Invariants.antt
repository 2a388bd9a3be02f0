use Rattle.std.proofs.Common.{◌≡◌, true}
use Rattle.boxes.specs.Stored.{box_of}
use Rattle.crossing.specs.Standing.{Standing}
use Rattle.sheet.proofs.Remaking.{Going}
use Rattle.crossing.proofs.standing.records_over.Given as goal

abbrev pub invariant-loop-n : goal.invariant-loop-n
invariant-loop-n g l = Going g.K.NumberKind.model (box_of l.over) l.lines l.initial.working l.working l.n × (l.standing ≡ true → Standing g.K.NumberKind.model l.lines l.working)
