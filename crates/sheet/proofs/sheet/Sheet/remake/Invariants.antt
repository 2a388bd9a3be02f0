use Rattle.boxes.specs.Stored.{box_of}
use Rattle.sheet.proofs.Remaking.{Going}
use Rattle.sheet.specs.Contents.{contents}
use Rattle.sheet.proofs.sheet.Sheet.remake.Given as goal

abbrev pub invariant-loop-n : goal.invariant-loop-n
invariant-loop-n g l = Going g.K.NumberKind.model (box_of l.over) (contents l.self).lines l.initial.spare l.spare l.n
