-- Both round trips of formulas.
use Rattle.std.specs.Prelude.{◌≡◌, ℕ, ◌<◌, ◌≤◌, List, [], ◌∷◌, length, Ok}
use Rattle.leb.specs.Numbers.{Bytes}
use Rattle.line.specs.Operations.{first, second, third}
use Rattle.line.specs.declared.line.Line.{Line}
use Rattle.reader.specs.Reading.{formula_at}
use Rattle.writer.specs.Writing.{formula_bytes}

-- every number of the line is one that can be read
abbrev pub Readable : Line → Type 0
Readable l = (first l ≤ 2147483647) × (second l ≤ 2147483647) × (third l ≤ 2147483647)

abbrev pub AllReadable : List Line → Type 0
AllReadable [] = Unit {0}
AllReadable (l ∷ ls) = Readable l × AllReadable ls

pub record FormulaTrips : Type 0 where
  -- what is written is read back as the same lines
  pub there : (ls : List Line) → 0 < length ls → length ls ≤ 64 → AllReadable ls → formula_at (formula_bytes ls) ≡ Ok ls
  -- bytes that were read as lines are what those lines write
  pub back : (bytes : List ℕ) (ls : List Line) → Bytes bytes → formula_at bytes ≡ Ok ls → formula_bytes ls ≡ bytes
