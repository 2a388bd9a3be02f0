use Rattle.std.proofs.Common.{◌≡◌}
use Rattle.std.specs.Slice.Iter.{chunks_rest, chunks_size}
use Rattle.script.specs.Bytes.{pairs_into}
use Rattle.script.proofs.hex.append_word.Given as goal

abbrev pub invariant-loop-digits : goal.invariant-loop-digits
invariant-loop-digits l = record {
  can : (goal.iterator-loop-digits).can_next l.digits-iterator;
  ends : (goal.iterator-loop-digits).is_finite l.digits-iterator;
  two : chunks_size l.digits-iterator ≡ 2;
  same : pairs_into l.word l.fn.bytes.items l.word ≡ pairs_into l.word l.bytes.items (chunks_rest l.digits-iterator);
}
