-- Reading formula bytes: lines, and the count of lines.
use Rattle.std.specs.Prelude.{ℕ, zero, suc, Bool, true, false, cond, List, [], ◌∷◌, ◌++◌, length, Ok, Result, ◌==◌, nat_lt}
use Rattle.fault.specs.Refusals.{after, refused}
use Rattle.fault.specs.declared.fault.Cause.TheVariants.{Count, Left, Operation}
use Rattle.fault.specs.declared.fault.Fault.{Fault}
use Rattle.leb.specs.Places.{number_at}
use Rattle.leb.specs.declared.place.Place.{Place}
use Rattle.line.specs.Operations.{arity, line_of}
use Rattle.line.specs.declared.line.Line.{Line}

-- an operand that the operation may not have
abbrev pub operand_at : Bool → List ℕ → ℕ → ℕ → Result (ℕ × ℕ) Fault
operand_at true bytes at line = number_at bytes at line
operand_at false bytes at line = Ok (0, at)

-- the line at a place and where it ends: its operation, then its operands
abbrev pub line_at : List ℕ → ℕ → Result (Line × ℕ) Fault
line_at bytes at =
    after (number_at bytes at at) (λ op.
    cond (nat_lt 10 op.0) (refused Operation at)
    (after (number_at bytes op.1 at) (λ a.
    after (operand_at (nat_lt 1 (arity op.0)) bytes a.1 at) (λ b.
    after (operand_at (nat_lt 2 (arity op.0)) bytes b.1 at) (λ c.
    Ok (line_of op.0 a.0 b.0 c.0, c.1))))))

-- the number of lines, 1 to 64, and where the first line begins
abbrev pub count_at : List ℕ → Result (ℕ × Place) Fault
count_at bytes = after (number_at bytes 0 0) (λ n. cond (nat_lt 64 n.0) (refused Count 0) (cond (n.0 == 0) (refused Count 0) (Ok (n.0, record { at = n.1 }))))

-- nothing is left over behind the last line
abbrev pub end_at : List ℕ → ℕ → Result (Unit {0}) Fault
end_at bytes at = cond (nat_lt at (length bytes)) (refused Left at) (Ok tt)

-- so many lines from a place on, behind those read before; nothing is left over behind the last
abbrev pub lines_from : ℕ → List ℕ → ℕ → List Line → Result (List Line) Fault
lines_from zero bytes at ls = after (end_at bytes at) (λ _. Ok ls)
lines_from (suc n) bytes at ls = after (line_at bytes at) (λ p. lines_from n bytes p.1 (ls ++ p.0 ∷ []))

-- the lines of a formula
abbrev pub formula_at : List ℕ → Result (List Line) Fault
formula_at bytes = after (count_at bytes) (λ p. lines_from p.0 bytes p.1.at [])
