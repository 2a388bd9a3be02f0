use Rattle.std.proofs.Common.{sym, ap, ◌∙◌, subst}
use Rattle.std.specs.Result.{result_ok}
use Rattle.leb.specs.Groups.{Judged}
use Rattle.leb.proofs.Reading.{accepted}
use Rattle.leb.proofs.numbers.first_number.Goals as goal

pub returns-clause-value : goal.returns-clause-value
returns-clause-value c = accepted _ _ (sym c.last_at.ensures ∙ c.ok_or.ensures.ok_part ∙ ap result_ok c.in_ok-last.was) _
    (subst (Judged _) (c.ok_or-2.ensures.ok_part ∙ ap result_ok c.in_ok-n.was) c.judged.ensures)
