use Rattle.std.proofs.Common.{Ok, rules}
use Rattle.product.proofs.Kept.{product_law}
use Rattle.product.proofs.product.Goals as goal

pub returns-in_err-u0-clause-truth : goal.returns-in_err-u0-clause-truth
returns-in_err-u0-clause-truth g c = product_law g.K.NumberKind.model g.met.K.NumberKind.rules c.args.place c.args.p.now c.args.q.now _ (search rules)

pub returns-clause-truth : goal.returns-clause-truth
returns-clause-truth g c = product_law g.K.NumberKind.model g.met.K.NumberKind.rules c.args.place c.args.p.now c.args.q.now (Ok c.product_slopes.result) (search rules)

pub returns-in-Some-clause-truth : goal.returns-in-Some-clause-truth
returns-in-Some-clause-truth g c =
    product_law g.K.NumberKind.model g.met.K.NumberKind.rules c.args.place c.args.p.now c.args.q.now _ (search rules)

pub returns-in-Some-constant-clause-truth : goal.returns-in-Some-constant-clause-truth
returns-in-Some-constant-clause-truth g c =
    product_law g.K.NumberKind.model g.met.K.NumberKind.rules c.args.place c.args.p.now c.args.q.now _ (search rules)
