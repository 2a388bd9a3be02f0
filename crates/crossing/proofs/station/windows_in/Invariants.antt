use Rattle.std.proofs.Common.{◌≡◌, length, map, take, true}
use Rattle.crossing.specs.Standing.{Standing}
use Rattle.crossing.specs.Windows.{answer_in}
use Rattle.crossing.proofs.station.windows_in.Given as goal

abbrev pub invariant-loop-i : goal.invariant-loop-i
invariant-loop-i g l = (take l.i l.answers ≡ map (answer_in g.K.NumberKind.model l.lines l.line) (take l.i l.boxes)) × (length l.answers ≡ length l.boxes) × (l.standing ≡ true → Standing g.K.NumberKind.model l.lines l.working)
