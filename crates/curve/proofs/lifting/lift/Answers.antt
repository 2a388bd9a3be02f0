use Rattle.std.proofs.Common.{Ok, rules}
use Rattle.curve.proofs.Lifts.{lift_law}
use Rattle.curve.proofs.lifting.lift.Goals as goal

pub returns-in_err-u0-clause-truth : goal.returns-in_err-u0-clause-truth
returns-in_err-u0-clause-truth g c = lift_law g.K.NumberKind.model g.met.K.NumberKind.rules g.C.Curve.exact g.C.Curve.image g.C.Curve.bend g.met.C.Curve.bends c.args.place c.args.p.now _ (search rules)

pub returns-in_default-clause-truth : goal.returns-in_default-clause-truth
returns-in_default-clause-truth g c = lift_law g.K.NumberKind.model g.met.K.NumberKind.rules g.C.Curve.exact g.C.Curve.image g.C.Curve.bend g.met.C.Curve.bends c.args.place c.args.p.now (Ok c.flat.result) (search rules)

pub returns-clause-truth : goal.returns-clause-truth
returns-clause-truth g c = lift_law g.K.NumberKind.model g.met.K.NumberKind.rules g.C.Curve.exact g.C.Curve.image g.C.Curve.bend g.met.C.Curve.bends c.args.place c.args.p.now (Ok c.lift_slopes.result) (search rules)
