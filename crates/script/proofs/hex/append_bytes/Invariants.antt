use Rattle.std.proofs.Common.{◌≡◌}
use Rattle.script.specs.Bytes.{words_into}
use Rattle.script.specs.Words.{place, words_of}
use Rattle.script.proofs.hex.append_bytes.Given as goal

abbrev pub invariant-loop-word : goal.invariant-loop-word
invariant-loop-word l = record {
  can : (goal.iterator-loop-word).can_next l.word-iterator;
  ends : (goal.iterator-loop-word).is_finite l.word-iterator;
  same : words_into (words_of l.fn.text) l.fn.bytes.items ≡ words_into (place l.word-iterator).words l.bytes.items;
}
