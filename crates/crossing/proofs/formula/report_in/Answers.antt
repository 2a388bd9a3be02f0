use Rattle.std.proofs.Common.{Ok, Err, sym, ap, ◌∙◌}
use Rattle.std.proofs.lemmas.Result.{err_from_is_err_and}
use Rattle.boxes.specs.Stored.{box_of}
use Rattle.crossing.proofs.Reported.{answers}
use Rattle.crossing.proofs.formula.report_in.Goals as goal

pub returns-in_err-record-clause-value : goal.returns-in_err-record-clause-value
returns-in_err-record-clause-value g c =
    let m = g.K.NumberKind.model in
    let b = box_of c.args.over.now in
    let p = err_from_is_err_and c.from_residual-in_err-record.result c.from_residual-in_err-record.ensures.1 in
    p.1 ∙ ap Err p.2
    ∙ sym (answers m b c.args.lines.now c.args.line (sym c.in_ok-records_over.ensures.answer) c.args.working.now c.records_over.new.working c.records_over.ensures.records c.in_err-record.ensures)

pub returns-clause-value : goal.returns-clause-value
returns-clause-value g c =
    let m = g.K.NumberKind.model in
    let b = box_of c.args.over.now in
    ap Ok c.report_of.ensures.value
    ∙ sym (answers m b c.args.lines.now c.args.line (sym c.in_ok-records_over.ensures.answer) c.args.working.now c.records_over.new.working c.records_over.ensures.records c.in_ok-record.ensures)
