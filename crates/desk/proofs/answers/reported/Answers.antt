use Rattle.std.proofs.Common.{◌≡◌, ◌++◌, codes, of_z, rules, string_bytes, to_z, w64}
use Rattle.std.proofs.lemmas.List.{append_assoc}
use Rattle.desk.proofs.Sayings.{says_around}
use Rattle.desk.specs.Told.{report_words}
use Rattle.desk.proofs.answers.reported.Goals as goal

pub returns : goal.returns
returns c =
    let r = c.args.report in
    let middle : to_z w64 (of_z w64 r.middle) ≡ r.middle = search rules in
    let margin : to_z w64 (of_z w64 r.margin) ≡ r.margin = search rules in
    says_around _ (c.args.call.now ++ report_words r) (string_bytes c.in_ok-worth.worth) (codes ")") _ (simp (append_assoc, middle, margin)) c.format.ensures.ok
