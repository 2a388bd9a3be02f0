use Rattle.crossing.proofs.Stands.{StandingTo}
use Rattle.crossing.proofs.standing.constants.Given as goal

abbrev pub invariant-loop-n : goal.invariant-loop-n
invariant-loop-n g l = StandingTo g.K.NumberKind.model l.lines l.n l.working
