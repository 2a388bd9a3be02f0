use Rattle.std.proofs.Common.{length, take, Ok, Err, sym, ap, ◌∙◌}
use Rattle.std.proofs.lemmas.Result.{err_from_is_err_and}
use Rattle.rule.proofs.Puts.{acceptance, refusal}
use Rattle.sheet.proofs.Held.{held_is}
use Rattle.sheet.specs.Calls.{grown, next, numbered}
use Rattle.sheet.specs.Contents.{contents}
use Rattle.sheet.proofs.sheet.Sheet.add_line.Goals as goal

pub returns-in_err-next-clause-answer : goal.returns-in_err-next-clause-answer
returns-in_err-next-clause-answer g c =
    let s = contents c.args.self.now in
    let w = c.args.working.now in
    let n = length s.lines in
    let q = refusal w n (next g.K.NumberKind.model s (length w) (take n w) c.args.line) c.in_err-next.ensures.answer c.in_err-next.ensures.records in
    let e = err_from_is_err_and c.from_residual.result c.from_residual.ensures.1 in
    e.1 ∙ ap Err e.2 ∙ ap (numbered n) q.0

pub returns-in_err-next-clause-sheet : goal.returns-in_err-next-clause-sheet
returns-in_err-next-clause-sheet g c =
    let s = contents c.args.self.now in
    let w = c.args.working.now in
    let n = length s.lines in
    let q = refusal w n (next g.K.NumberKind.model s (length w) (take n w) c.args.line) c.in_err-next.ensures.answer c.in_err-next.ensures.records in
    ap (grown s c.args.line) q.0

pub returns-clause-answer : goal.returns-clause-answer
returns-clause-answer g c =
    let s = contents c.args.self.now in
    let w = c.args.working.now in
    let n = length s.lines in
    let q = acceptance w n (next g.K.NumberKind.model s (length w) (take n w) c.args.line) c.in_ok-next.ensures.answer c.in_ok-next.ensures.records in
    ap Ok (sym (held_is c.args.self.now)) ∙ ap (numbered n) q.1

pub returns-clause-sheet : goal.returns-clause-sheet
returns-clause-sheet g c =
    let s = contents c.args.self.now in
    let w = c.args.working.now in
    let n = length s.lines in
    let q = acceptance w n (next g.K.NumberKind.model s (length w) (take n w) c.args.line) c.in_ok-next.ensures.answer c.in_ok-next.ensures.records in
    c.hold.ensures ∙ ap (grown s c.args.line) q.1
