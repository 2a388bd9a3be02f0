use Rattle.std.proofs.Common.{◌≡◌, length, map, take}
use Rattle.crossing.proofs.means.read_all.Given as goal

abbrev pub invariant-loop-i : goal.invariant-loop-i
invariant-loop-i g l = (take l.i l.to ≡ map g.C.Means.means (take l.i l.memory)) × (length l.to ≡ length l.memory)
