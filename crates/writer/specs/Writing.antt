-- Formula bytes: the number of lines, then each line's operation and operands.
use Rattle.std.specs.Prelude.{ℕ, ◌+◌, Bool, true, false, cond, List, [], ◌∷◌, ◌++◌, length, take, drop, Some, None, Option, Ok, Err, Result, ◌==◌, nat_lt}
use Rattle.fault.specs.declared.fault.Cause.TheVariants.{Count, NoLine, Room}
use Rattle.fault.specs.declared.fault.Fault.{Fault}
use Rattle.leb.specs.Numbers.{encode}
use Rattle.line.specs.Operations.{arity, first, operation, second, third}
use Rattle.line.specs.declared.line.Line.{Line}

-- the bytes of an operand that the operation may not have
abbrev pub operand_bytes : Bool → ℕ → List ℕ
operand_bytes true n = encode n
operand_bytes false n = []

-- the bytes of an operand, if it is there
abbrev pub held_bytes : Option ℕ → List ℕ
held_bytes (Some n) = encode n
held_bytes None = []

abbrev pub line_bytes : Line → List ℕ
line_bytes l =
    encode (operation l) ++ (encode (first l) ++ (operand_bytes (nat_lt 1 (arity (operation l))) (second l) ++ operand_bytes (nat_lt 2 (arity (operation l))) (third l)))

abbrev pub lines_bytes : List Line → List ℕ
lines_bytes [] = []
lines_bytes (l ∷ ls) = line_bytes l ++ lines_bytes ls

abbrev pub formula_bytes : List Line → List ℕ
formula_bytes ls = encode (length ls) ++ lines_bytes ls

-- bytes written from a place on; all others stay
abbrev pub written : List ℕ → ℕ → List ℕ → List ℕ
written out at bytes = take at out ++ (bytes ++ drop (at + length bytes) out)

-- what writing a formula answers and leaves
abbrev pub needed : List Line → List ℕ → Result ℕ Fault
needed ls out =
    cond (length ls == 0) (Err (record { cause = NoLine; place = 0 }))
    (cond (nat_lt 64 (length ls)) (Err (record { cause = Count; place = 0 }))
    (cond (nat_lt (length out) (length (formula_bytes ls))) (Err (record { cause = Room; place = length (formula_bytes ls) }))
    (Ok (length (formula_bytes ls)))))

abbrev pub filled : Result ℕ Fault → List Line → List ℕ → List ℕ
filled (Ok n) ls out = formula_bytes ls ++ drop (length (formula_bytes ls)) out
filled (Err e) ls out = out
