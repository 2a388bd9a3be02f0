-- What a line in memory means.
use Rattle.std.specs.Prelude.{cond, eqb}
use Rattle.crossing.specs.declared.memory.CLine.{CLine}
use Rattle.line.specs.declared.line.Line.{Line}
use Rattle.line.specs.declared.line.Line.TheVariants.{Branch, Channel, Constant, Difference, Greater, Lesser, Magnitude, Product, Quotient, Square, Sum}

abbrev pub line_of : CLine → Line
line_of l =
    cond (eqb l.operation 0) (Channel l.a) (cond (eqb l.operation 1) (Constant l.constant)
    (cond (eqb l.operation 2) (Sum l.a l.b) (cond (eqb l.operation 3) (Difference l.a l.b) (cond (eqb l.operation 4) (Product l.a l.b) (cond (eqb l.operation 5) (Quotient l.a l.b)
    (cond (eqb l.operation 6) (Square l.a) (cond (eqb l.operation 7) (Magnitude l.a)
    (cond (eqb l.operation 8) (Greater l.a l.b) (cond (eqb l.operation 9) (Lesser l.a l.b) (Branch l.a l.b l.c))))))))))
