use Rattle.std.proofs.Common.{[], string_bytes}
use Rattle.std.proofs.lemmas.List.{append-nil, append_assoc}
use Rattle.desk.proofs.Sayings.{says_around}
use Rattle.desk.specs.Told.{line_words}
use Rattle.desk.proofs.desk.looking.held.Goals as goal

pub returns : goal.returns
returns g c = says_around _ (line_words c.args.call.now c.args.line) (string_bytes c.in_ok-words.words) [] _ (simp (append_assoc, append-nil)) c.format-2.ensures.ok
