-- Reading a formula onto an empty sheet: each line is read, and then added by the records of those before it.
use Rattle.std.specs.Prelude.{◌≡◌, ℕ, zero, suc, ◌<◌, ◌≤◌, cond, List, [], ◌∷◌, ◌++◌, length, drop, Ok, Err, Result, nat_lt}
use Rattle.boxes.specs.Boxes.{Box}
use Rattle.fault.specs.Refusals.{refused}
use Rattle.fault.specs.declared.fault.Cause.TheVariants.{Lines, NotEmpty}
use Rattle.fault.specs.declared.fault.Fault.{Fault}
use Rattle.kind.specs.Model.{Model}
use Rattle.leb.specs.Numbers.{Bytes}
use Rattle.line.specs.declared.line.Line.{Line}
use Rattle.reader.specs.Reading.{count_at, end_at, line_at}
use Rattle.rule.specs.Records.{records}
use Rattle.rule.specs.Rule.{rule}
use Rattle.slope.specs.declared.record.Record.{Record}
use Rattle.writer.specs.Writing.{formula_bytes}
use Rattle.sheet.specs.Contents.{Contents}

-- the answer, and the lines and records made before it
pub record Outcome (K : Type 0) : Type 0 where
  pub answer : Result (Unit {0}) Fault
  pub lines : List Line
  pub records : List (Record K)

module _ {K : Type 0} where
  abbrev pub ends : Result (Unit {0}) Fault → List Line → List (Record K) → Outcome K
  ends r ls rs = record { answer = r; lines = ls; records = rs }

  -- a refusal ends the reading
  abbrev pub goes_on : {X : Type 0} → Result X Fault → List Line → List (Record K) → (X → Outcome K) → Outcome K
  goes_on (Ok x) ls rs f = f x
  goes_on (Err e) ls rs f = ends (Err e) ls rs

  -- made records, and behind them what was there
  abbrev pub overlaid : List (Record K) → List (Record K) → List (Record K)
  overlaid rs w = rs ++ drop (length rs) w

  module _ (m : Model K) where
    -- so many lines from a place on
    abbrev pub read_lines : Box → ℕ → List ℕ → ℕ → List Line → List (Record K) → Outcome K
    read_lines b zero bytes at ls rs = ends (end_at bytes at) ls rs
    read_lines b (suc n) bytes at ls rs =
        goes_on (line_at bytes at) ls rs (λ p.
        goes_on (rule m b rs p.0) ls rs (λ r.
        read_lines b n bytes p.1 (ls ++ p.0 ∷ []) (rs ++ r ∷ [])))

    abbrev pub read_formula : Box → List ℕ → Outcome K
    read_formula b bytes = goes_on (count_at bytes) [] [] (λ p. read_lines b p.0 bytes p.1.at [] [])

    -- so many working lines are lent
    abbrev pub read_onto : Contents → ℕ → List ℕ → Outcome K
    read_onto s lent bytes =
        cond (nat_lt lent 64) (ends (refused Lines 0) [] [])
        (cond (nat_lt 0 (length s.lines)) (ends (refused NotEmpty 0) [] [])
        (read_formula s.over bytes))

-- the sheet afterwards: a refused read leaves no line
abbrev pub filled : Contents → Result (Unit {0}) Fault → List Line → Contents
filled s (Ok _) ls = record { over = s.over; lines = ls }
filled s (Err e) ls = s

module _ {K : Type 0} (m : Model K) where
  pub record Read (bytes : List ℕ) (s : Contents) (w : List (Record K)) (r : Result (Unit {0}) Fault) (s' : Contents) (w' : List (Record K)) : Type 0 where
    pub answer : r ≡ (read_onto m s (length w) bytes).answer
    pub sheet : s' ≡ filled s r (read_onto m s (length w) bytes).lines
    pub records : w' ≡ overlaid (read_onto m s (length w) bytes).records w

  -- both round trips through an empty sheet
  pub record ReadTrips : Type 0 where
    -- what is written of lines that have records over a box is read as these lines, with these records, over that box
    pub there : (b : Box) (ls : List Line) (rs : List (Record K)) → length b.lower ≤ 8 → 0 < length ls → length ls ≤ 64 → records m b ls ≡ Ok rs
        → read_formula m b (formula_bytes ls) ≡ ends (Ok tt) ls rs
    -- bytes that were read are what their lines write
    pub back : (b : Box) (bytes : List ℕ) (ls : List Line) (rs : List (Record K)) → Bytes bytes → read_formula m b bytes ≡ ends (Ok tt) ls rs → formula_bytes ls ≡ bytes
