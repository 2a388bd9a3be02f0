use Rattle.std.proofs.Common.{◌≡◌, []}
use Rattle.script.specs.Counts.{pairs_of}
use Rattle.script.specs.Words.{place, words_of}
use Rattle.script.proofs.counts.counts_of.Given as goal

abbrev pub invariant-loop-lower : goal.invariant-loop-lower
invariant-loop-lower l = record {
  can : (goal.iterator-loop-lower).can_next l.words;
  ends : (goal.iterator-loop-lower).is_finite l.words;
  same : pairs_of (words_of l.fn.text) [] [] ≡ pairs_of (place l.words).words l.counts.lower.items l.counts.upper.items;
}
