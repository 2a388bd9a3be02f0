use Rattle.rule.proofs.AllTrue.{records_true}
use Rattle.rule.proofs.records.record_line.Goals as goal

pub returns-then-n-records-clause-truth : goal.returns-then-n-records-clause-truth
returns-then-n-records-clause-truth g c = records_true g.K.NumberKind.model g.met.K.NumberKind.rules

pub returns-clause-truth : goal.returns-clause-truth
returns-clause-truth g c = records_true g.K.NumberKind.model g.met.K.NumberKind.rules
