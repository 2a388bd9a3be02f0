use Rattle.std.proofs.Common.{◌∙◌}
use Rattle.script.proofs.Ends.{pair_more}
use Rattle.script.proofs.counts.counts_of.Goals as goal

pub loop-lower-preserved-in_ok-push-2 : goal.loop-lower-preserved-in_ok-push-2
loop-lower-preserved-in_ok-push-2 c = record {
  can = tt;
  ends = tt;
  same = c.loop-lower.invariant.same ∙ pair_more _ _ _ _ _ _ _ _ _ _ _ c.in-Some.ensures.steps.0 c.in-Some-next.ensures.steps.0 c.in_ok-number_of.ensures c.in_ok-number_of-2.ensures (rw c.in_ok-push.was at c.push.ensures.items) (rw c.in_ok-push-2.was at c.push-in-Some-next.ensures.items);
}
