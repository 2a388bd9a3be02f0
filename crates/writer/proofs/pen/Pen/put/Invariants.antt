use Rattle.std.proofs.Common.{◌≡◌, ◌+◌, length}
use Rattle.writer.proofs.Groups.{Rest}
use Rattle.writer.specs.Writing.{held_bytes, written}
use Rattle.writer.proofs.pen.Pen.put.Given as goal

abbrev pub invariant-loop-byte : goal.invariant-loop-byte
invariant-loop-byte l =
    (goal.iterator-loop-byte).can_next l.byte-iterator
    × (goal.iterator-loop-byte).is_finite l.byte-iterator
    × Rest l.self.out.now l.self.at (held_bytes l.byte-iterator.rest) (written l.initial.self.out.now l.initial.self.at (held_bytes l.fn.n)) (l.initial.self.at + length (held_bytes l.fn.n))
    × (l.self.out.ghost_name ≡ l.initial.self.out.ghost_name)
