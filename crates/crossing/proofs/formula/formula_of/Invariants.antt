use Rattle.crossing.proofs.Parsing.{Going}
use Rattle.crossing.proofs.formula.formula_of.Given as goal

abbrev pub invariant-loop-n : goal.invariant-loop-n
invariant-loop-n l = Going l.bytes l.count l.initial.place.at l.lines l.place.at l.n
