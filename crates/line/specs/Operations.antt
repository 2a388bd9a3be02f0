-- Lines as numbers: the operation, and the operands as they are written.
use Rattle.std.specs.Prelude.{Bool, true, false, Some, None, Option, cond, ◌%◌, ◌*◌, ◌+◌, ◌/◌, ℕ, eqb, ltb, negsuc, pos, ℤ}
use Rattle.line.specs.declared.line.Line.{Line}
use Rattle.line.specs.declared.line.Line.TheVariants.{Branch, Channel, Constant, Difference, Greater, Lesser, Magnitude, Product, Quotient, Square, Sum}

abbrev pub operation : Line → ℕ
operation (Channel c) = 0
operation (Constant n) = 1
operation (Sum l r) = 2
operation (Difference l r) = 3
operation (Product l r) = 4
operation (Quotient l r) = 5
operation (Square l) = 6
operation (Magnitude l) = 7
operation (Greater l r) = 8
operation (Lesser l r) = 9
operation (Branch s q r) = 10

-- how many operands an operation has
abbrev pub arity : ℕ → ℕ
arity op = cond (ltb op 2) 1 (cond (ltb op 6) 2 (cond (ltb op 8) 1 (cond (ltb op 10) 2 3)))

-- a constant n is written as 2 × n, or as −2 × n − 1 if it is negative
abbrev pub folded : ℤ → ℕ
folded (pos n) = 2 * n
folded (negsuc n) = 2 * n + 1

abbrev pub unfolded : ℕ → ℤ
unfolded w = cond (eqb (w % 2) 0) (pos (w / 2)) (negsuc (w / 2))

-- the operands as numbers; 0 where there is none
abbrev pub first : Line → ℕ
first (Channel c) = c
first (Constant n) = folded n
first (Sum l r) = l
first (Difference l r) = l
first (Product l r) = l
first (Quotient l r) = l
first (Square l) = l
first (Magnitude l) = l
first (Greater l r) = l
first (Lesser l r) = l
first (Branch s q r) = s

abbrev pub second : Line → ℕ
second (Channel c) = 0
second (Constant n) = 0
second (Sum l r) = r
second (Difference l r) = r
second (Product l r) = r
second (Quotient l r) = r
second (Square l) = 0
second (Magnitude l) = 0
second (Greater l r) = r
second (Lesser l r) = r
second (Branch s q r) = q

abbrev pub third : Line → ℕ
third (Channel c) = 0
third (Constant n) = 0
third (Sum l r) = 0
third (Difference l r) = 0
third (Product l r) = 0
third (Quotient l r) = 0
third (Square l) = 0
third (Magnitude l) = 0
third (Greater l r) = 0
third (Lesser l r) = 0
third (Branch s q r) = r

-- an operand that may not be there
abbrev pub held : Bool → ℕ → Option ℕ
held true n = Some n
held false n = None

-- the line with these numbers
abbrev pub line_of : ℕ → ℕ → ℕ → ℕ → Line
line_of op a b c =
    cond (eqb op 0) (Channel a) (cond (eqb op 1) (Constant (unfolded a))
    (cond (eqb op 2) (Sum a b) (cond (eqb op 3) (Difference a b) (cond (eqb op 4) (Product a b) (cond (eqb op 5) (Quotient a b)
    (cond (eqb op 6) (Square a) (cond (eqb op 7) (Magnitude a)
    (cond (eqb op 8) (Greater a b) (cond (eqb op 9) (Lesser a b) (Branch a b c))))))))))
