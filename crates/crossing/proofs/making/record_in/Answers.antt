use Rattle.std.proofs.Common.{get_or, Ok, Err, ap, ◌∙◌}
use Rattle.std.proofs.lemmas.List.{get_or-set_same}
use Rattle.std.proofs.lemmas.Result.{err_from_is_err_and}
use Rattle.boxes.specs.Stored.{box_of}
use Rattle.rule.proofs.Puts.{line_made, line_refused}
use Rattle.rule.specs.Placed.{stored}
use Rattle.crossing.proofs.making.record_in.Goals as goal

pub returns-in_err-record_line-clause-answer : goal.returns-in_err-record_line-clause-answer
returns-in_err-record_line-clause-answer g c =
    let e = err_from_is_err_and c.from_residual.result c.from_residual.ensures.1 in
    let q = line_refused g.K.NumberKind.model (box_of c.args.over.now) c.args.records.now c.args.n c.args.line c.requires c.in_err-record_line.ensures.answer c.in_err-record_line.ensures.records in
    e.1 ∙ ap Err e.2 ∙ q.0

pub returns-in_err-record_line-clause-records : goal.returns-in_err-record_line-clause-records
returns-in_err-record_line-clause-records g c =
    let rs = c.args.records.now in
    let q = line_refused g.K.NumberKind.model (box_of c.args.over.now) rs c.args.n c.args.line c.requires c.in_err-record_line.ensures.answer c.in_err-record_line.ensures.records in
    q.1 ∙ ap (stored rs c.args.n) q.0

pub returns-clause-answer : goal.returns-clause-answer
returns-clause-answer g c =
    let rs = c.args.records.now in
    let n = c.args.n in
    let q = line_made g.K.NumberKind.model (box_of c.args.over.now) rs n c.args.line c.requires c.in_ok-record_line.ensures.answer c.in_ok-record_line.ensures.records in
    let d = c.index-records-n.result in
    ap Ok (c.index-records-n.is ∙ ap (λ w. get_or w n d) q.2 ∙ get_or-set_same rs n q.0 d c.requires) ∙ q.1

pub returns-clause-records : goal.returns-clause-records
returns-clause-records g c =
    let rs = c.args.records.now in
    let n = c.args.n in
    let q = line_made g.K.NumberKind.model (box_of c.args.over.now) rs n c.args.line c.requires c.in_ok-record_line.ensures.answer c.in_ok-record_line.ensures.records in
    q.2 ∙ ap (stored rs n) q.1
