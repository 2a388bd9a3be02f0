use Rattle.std.proofs.Common.{◌++◌, arith, codes}
use Rattle.std.proofs.lemmas.List.{append_assoc}
use Rattle.desk.proofs.Sayings.{says}
use Rattle.desk.specs.Told.{line_words}
use Rattle.desk.proofs.desk.Desk.record.Goals as goal

pub returns-then-line-held : goal.returns-then-line-held
returns-then-line-held g c = record {
  held = λ h. absurd (omega (arith, h, c.if-line-held.true, c.held.ensures));
  not_held = λ h. says _ (line_words (codes "record") c.args.line ++ codes "not held") _ (simp append_assoc) c.format.ensures.ok;
}
