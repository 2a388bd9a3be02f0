use Rattle.std.proofs.Common.{◌≡◌}
use Rattle.script.specs.Openings.{numbers_in, numbers_to}
use Rattle.script.specs.Words.{place}
use Rattle.script.proofs.parse.numbers_to.Given as goal

abbrev pub invariant-loop-word : goal.invariant-loop-word
invariant-loop-word l = record {
  can : (goal.iterator-loop-word).can_next l.words;
  ends : (goal.iterator-loop-word).is_finite l.words;
  same : numbers_to l.end (place l.fn.words) ≡ numbers_in l.end l.numbers.items (place l.words).words (place l.words).last;
}
