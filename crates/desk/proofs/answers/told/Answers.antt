use Rattle.std.proofs.Common.{◌≡◌, ◌∙◌, ◌++◌, Ok, ap, codes, sym, subst}
use Rattle.std.specs.Fmt.{decimal}
use Rattle.std.proofs.lemmas.List.{append_assoc}
use Rattle.runs.specs.declared.call.Answer.TheVariants.{Line}
use Rattle.desk.proofs.Sayings.{says}
use Rattle.desk.specs.Told.{Told}
use Rattle.desk.proofs.answers.told.Goals as goal

pub returns-in-Ok-Line : goal.returns-in-Ok-Line
returns-in-Ok-Line c =
    let e : c.args.answer ≡ Ok (Line c.in-Ok-Line.number) = c.in-Ok-Line.is ∙ ap (λ a. Ok a) (rw c.in-Ok-Line.is at c.in-Ok-Line.field-0-is) in
    subst (λ a. Told c.args.call.now a c.args.out.now c.format-in-Ok-Line.result) (sym e)
    (says _ (c.args.call.now ++ codes ": line " ++ decimal c.in-Ok-Line.number) _ (simp append_assoc) c.format-in-Ok-Line.ensures.ok)
