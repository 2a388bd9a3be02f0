-- The lines of formulas that are added: an operation's word and its operands.
use Rattle.std.specs.Prelude.{ℕ, cond, List, codes, bytes_eq}
use Rattle.line.specs.declared.line.Line.{Line}
use Rattle.line.specs.declared.line.Line.TheVariants.{Branch, Channel, Constant, Difference, Greater, Lesser, Magnitude, Product, Quotient, Square, Sum}
use Rattle.script.specs.declared.slip.Problem.TheVariants.{NoOperation}
use Rattle.script.specs.Readings.{Reading, index_at, number_at, read, slipped, then, word_at}
use Rattle.script.specs.Words.{Place}

-- one operand, two or three
abbrev pub of_one : (ℕ → Line) → Place → Reading Line
of_one line at = then (index_at at) (λ a. read (line a))

abbrev pub of_two : (ℕ → ℕ → Line) → Place → Reading Line
of_two line at = then (index_at at) (λ a a_at. then (index_at a_at) (λ b. read (line a b)))

abbrev pub of_three : (ℕ → ℕ → ℕ → Line) → Place → Reading Line
of_three line at = then (index_at at) (λ a a_at. then (index_at a_at) (λ b b_at. then (index_at b_at) (λ c. read (line a b c))))

-- the operands behind the word of an operation
unfoldable pub operands_at : List ℕ → Place → Reading Line
operands_at word at =
    cond (bytes_eq word (codes "channel")) (of_one Channel at)
    (cond (bytes_eq word (codes "constant")) (then (number_at at) (λ n. read (Constant n)))
    (cond (bytes_eq word (codes "sum")) (of_two Sum at)
    (cond (bytes_eq word (codes "difference")) (of_two Difference at)
    (cond (bytes_eq word (codes "product")) (of_two Product at)
    (cond (bytes_eq word (codes "quotient")) (of_two Quotient at)
    (cond (bytes_eq word (codes "square")) (of_one Square at)
    (cond (bytes_eq word (codes "magnitude")) (of_one Magnitude at)
    (cond (bytes_eq word (codes "greater")) (of_two Greater at)
    (cond (bytes_eq word (codes "lesser")) (of_two Lesser at)
    (cond (bytes_eq word (codes "branch")) (of_three Branch at)
    (slipped word NoOperation at)))))))))))

unfoldable pub line_at : Place → Reading Line
line_at at = then (word_at at) operands_at
