use Rattle.std.proofs.Common.{◌≡◌, []}
use Rattle.script.specs.Bytes.{bytes_at}
use Rattle.script.specs.Words.{place}
use Rattle.script.proofs.hex.bytes_of.Given as goal

abbrev pub invariant-loop-word : goal.invariant-loop-word
invariant-loop-word l = record {
  can : (goal.iterator-loop-word).can_next l.words;
  ends : (goal.iterator-loop-word).is_finite l.words;
  same : bytes_at [] (place l.fn.words) ≡ bytes_at l.bytes.items (place l.words);
}
