use Rattle.std.proofs.Common.{refl}
use Rattle.worked.proofs.Figures.{worked_examples}
use Rattle.worked.proofs.examples.Goals as goal

pub returns : goal.returns
returns c = record { value = refl; proved = worked_examples }
