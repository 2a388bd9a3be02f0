use Rattle.runs.proofs.Soundness.{goes_on, runs_sound}
use Rattle.runs.specs.Runs.{state}
use Rattle.sheet.specs.Contents.{contents}
use Rattle.runs.proofs.runs.make.Goals as goal

pub returns : goal.returns
returns g c =
    let a = c.args in
    record {
      made = c.made.ensures;
      run = goes_on g.K.NumberKind.model g.met.K.NumberKind.rules a.call (state (contents a.sheet.now) a.working.now a.spare.now a.out.now) (state (contents c.made.new.sheet) c.made.new.working c.made.new.spare c.made.new.out) c.made.result c.made.ensures;
      law = runs_sound g.K.NumberKind.model g.met.K.NumberKind.rules;
    }
