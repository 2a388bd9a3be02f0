use Rattle.std.proofs.Common.{length, take, Err, Ok, Some, sym, ap, ◌∙◌, arith, length-take-le}
use Rattle.std.proofs.lemmas.Bool.{cond_above, cond_below}
use Rattle.std.proofs.lemmas.Option.{slice_get_past}
use Rattle.crossing.proofs.Lent.{all_lent, few_lent, held_at}
use Rattle.crossing.specs.Memory.{records_in}
use Rattle.crossing.specs.Sheets.{sheet_of}
use Rattle.fault.specs.Refusals.{after, found, refused}
use Rattle.fault.specs.declared.fault.Cause.TheVariants.{Lines, NoLine}
use Rattle.report.specs.Reports.{reported}
use Rattle.crossing.proofs.reporting.by_record.Goals as goal

pub returns-then-working-lt64 : goal.returns-then-working-lt64
returns-then-working-lt64 g c =
    let w = c.args.working.now in
    let rs = records_in g.K.Crossing.mark_of w in
    ap Err c.at.ensures ∙ cond_below (length rs) 64 (refused Lines 0) _ (few_lent g.K.Crossing.mark_of w c.if-working-lt64.true)

pub returns-then-line-held : goal.returns-then-line-held
returns-then-line-held g c =
    let m = g.K.NumberKind.model in
    let s = sheet_of c.args.sheet.now in
    let rs = records_in g.K.Crossing.mark_of c.args.working.now in
    let all = all_lent g.K.Crossing.mark_of c.args.working.now c.if-working-lt64.false in
    let n = length s.lines in
    let held = c.parts-held.ensures in
    let past = c.if-line-held.true in
    let few = held.few in
    let as_many = held.held in
    let long = length-take-le n rs (omega (arith, few, as_many, all)) in
    cond_above (length rs) 64 (refused Lines 0) _ _ (omega (arith, all))
    (ap Err c.at-then-line-held.ensures ∙ ap (λ o. after (found NoLine c.args.line o) (λ r. Ok (reported m s.over r))) (sym (slice_get_past (take n rs) c.args.line (omega (arith, long, past, as_many)))))

pub returns : goal.returns
returns g c =
    let m = g.K.NumberKind.model in
    let s = sheet_of c.args.sheet.now in
    let w = c.args.working.now in
    let rs = records_in g.K.Crossing.mark_of w in
    let all = all_lent g.K.Crossing.mark_of w c.if-working-lt64.false in
    let n = length s.lines in
    let held = c.parts-held.ensures in
    let before = c.if-line-held.false in
    let few = held.few in
    let as_many = held.held in
    cond_above (length rs) 64 (refused Lines 0) _ _ (omega (arith, all))
    (ap Ok (c.report_of.ensures.value ∙ ap (λ b. reported m b c.meaning-record.result) held.over)
    ∙ ap (λ o. after (found NoLine c.args.line o) (λ r. Ok (reported m s.over r)))
    (ap Some c.meaning-record.ensures ∙ sym (held_at g.K.Crossing.mark_of w c.if-working-lt64.false c.args.line _ n (omega (arith, before, as_many)) (omega (arith, few, as_many)))))
