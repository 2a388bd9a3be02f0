use Rattle.crossing.specs.Memory.{in_memory}
use Rattle.runs.proofs.Soundness.{goes_on, runs_sound}
use Rattle.crossing.proofs.calls.call.Goals as goal

pub returns-clause-run : goal.returns-clause-run
returns-clause-run g c =
    let a = c.args in
    goes_on g.K.NumberKind.model g.met.K.NumberKind.rules a.call
    (in_memory g.K.Crossing.mark_of a.sheet.now a.working.now a.spare.now a.out.now)
    (in_memory g.K.Crossing.mark_of c.made.new.sheet c.made.new.working c.made.new.spare c.made.new.out)
    c.made.result c.made.ensures.made

pub returns-clause-law : goal.returns-clause-law
returns-clause-law g c = runs_sound g.K.NumberKind.model g.met.K.NumberKind.rules
