use Rattle.std.proofs.Common.{◌∙◌, sym, lit<}
use Rattle.std.specs.Slice.Iter.{chunks_rest}
use Rattle.script.proofs.Pairs.{pair_more, some_from}
use Rattle.script.proofs.hex.append_word.Goals as goal

pub loop-digits-preserved : goal.loop-digits-preserved
loop-digits-preserved c =
    let two = c.in-Some.ensures.steps.0 ∙ c.loop-digits.invariant.two in record {
      can = rw two (lit< tt);
      ends = tt;
      two = two;
      same = c.loop-digits.invariant.same ∙ pair_more _ _ _ c.in-Some.digits.now (chunks_rest c.next.new.self) _ c.in_ok-ok_or.field-0 c.in-Some.ensures.steps.1.0 (sym c.byte_of.ensures ∙ some_from _ _ c.of.result c.in_ok-ok_or.ensures.value) (rw c.in_ok-push.was at c.push.ensures.items);
    }
