use Rattle.sliding.proofs.Ops.{over_coarse, over_lifted}
use Rattle.sliding.proofs.arithmetic.over.Goals as goal

pub invariant_of-result : goal.invariant_of-result
invariant_of-result c = record {
  held = (over_coarse c.args.a c.args.b c.parts-m.result.0 c.parts-by.result.0 _ _ c.parts-m.ensures c.parts-by.ensures c.requires
      _ _ c.from-n.ensures c.unsigned_abs-d.ensures.value c.if-r-s.true).held;
}

pub returns-then-r-s : goal.returns-then-r-s
returns-then-r-s c = over_coarse c.args.a c.args.b c.parts-m.result.0 c.parts-by.result.0 _ _ c.parts-m.ensures c.parts-by.ensures c.requires
    _ _ c.from-n.ensures c.unsigned_abs-d.ensures.value c.if-r-s.true

pub invariant_of-result-2 : goal.invariant_of-result-2
invariant_of-result-2 c = record {
  held = (over_lifted c.args.a c.args.b c.parts-m.result.0 c.parts-by.result.0 _ _ c.parts-m.ensures c.parts-by.ensures c.requires
      _ _ c.from-n.ensures c.unsigned_abs-d.ensures.value _ c.if-r-s.false c.saturating_sub-t.ensures).held;
}

pub returns : goal.returns
returns c = over_lifted c.args.a c.args.b c.parts-m.result.0 c.parts-by.result.0 _ _ c.parts-m.ensures c.parts-by.ensures c.requires
    _ _ c.from-n.ensures c.unsigned_abs-d.ensures.value _ c.if-r-s.false c.saturating_sub-t.ensures
