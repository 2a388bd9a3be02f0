use Rattle.std.proofs.Common.{◌++◌, codes, string_bytes}
use Rattle.std.proofs.lemmas.List.{append_assoc}
use Rattle.desk.proofs.Sayings.{says_around}
use Rattle.desk.specs.Told.{refusal_words}
use Rattle.desk.proofs.answers.refused.Goals as goal

pub returns : goal.returns
returns c =
    says_around _ (c.args.call.now ++ refusal_words c.args.fault) (string_bytes c.in_ok-words.words) (codes ")") _ (simp (append_assoc, c.number-number.ensures))
    c.format-2.ensures.ok
