use Rattle.std.proofs.Common.{◌≡◌, length, map, take}
use Rattle.crossing.specs.Windows.{window_answer}
use Rattle.crossing.proofs.station.windows_over.Given as goal

abbrev pub invariant-loop-i : goal.invariant-loop-i
invariant-loop-i g l = (take l.i l.answers ≡ map (window_answer g.K.NumberKind.model l.bytes l.line) (take l.i l.boxes)) × (length l.answers ≡ length l.boxes) × (length l.working ≡ 64)
