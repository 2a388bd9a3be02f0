-- What a pen writes.
use Rattle.std.specs.Prelude.{◌≡◌, ℕ, ◌+◌, ◌≤◌, List, length}
use Rattle.writer.specs.Writing.{written}
use Rattle.writer.specs.declared.pen.Pen.{Pen}

-- there is room for these bytes
abbrev pub Fits : Pen → List ℕ → Type 0
Fits p bytes = p.at + length bytes ≤ length p.out.now

-- these bytes were written, and the place is behind them
abbrev pub Wrote : Pen → Pen → List ℕ → Type 0
Wrote p q bytes = (q.out.ghost_name ≡ p.out.ghost_name) × (q.out.now ≡ written p.out.now p.at bytes) × (q.at ≡ p.at + length bytes)
