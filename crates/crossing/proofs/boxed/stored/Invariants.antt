use Rattle.std.proofs.Common.{◌≡◌, length, take}
use Rattle.boxes.specs.Stored.{lowers, uppers}
use Rattle.crossing.proofs.boxed.stored.Given as goal

abbrev pub invariant-loop-c : goal.invariant-loop-c
invariant-loop-c l = (take l.c l.lower ≡ lowers (take l.c l.over.ranges)) × (take l.c l.upper ≡ uppers (take l.c l.over.ranges)) × (length l.lower ≡ 8) × (length l.upper ≡ 8)
