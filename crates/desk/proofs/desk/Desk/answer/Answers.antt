use Rattle.std.proofs.Common.{◌++◌, codes, subst, sym}
use Rattle.std.specs.Fmt.{decimal}
use Rattle.std.proofs.lemmas.List.{append_assoc}
use Rattle.desk.proofs.Sayings.{says}
use Rattle.desk.specs.Answers.{Answers}
use Rattle.desk.proofs.desk.Desk.answer.Goals as goal

pub returns-in-Lend : goal.returns-in-Lend
returns-in-Lend g c =
    subst (λ k. Answers g.K.NumberKind.model k c.args.self.now c.lend.new.self c.format-in-Lend.result) (sym c.in-Lend.is)
    (c.lend.ensures, says _ (codes "lend: " ++ decimal c.in-Lend.working ++ codes " " ++ decimal c.in-Lend.spare) _ (simp append_assoc) c.format-in-Lend.ensures.ok)
