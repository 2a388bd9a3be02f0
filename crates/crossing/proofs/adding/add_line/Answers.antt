use Rattle.std.proofs.Common.{◌<◌, take, Ok, Err, set, refl, sym, ap, ◌∙◌, subst, arith}
use Rattle.std.proofs.lemmas.Result.{err_from_is_err_and}
use Rattle.boxes.specs.Stored.{box_of}
use Rattle.crossing.proofs.Grown.{added_by, full, one_more, put_beyond, put_in, ruled, too_few}
use Rattle.crossing.proofs.HeldIn.{held_is}
use Rattle.crossing.proofs.Lent.{all_lent}
use Rattle.crossing.proofs.Named.{by_operands}
use Rattle.crossing.specs.Lines.{line_of}
use Rattle.crossing.specs.Memory.{records_in}
use Rattle.crossing.specs.Sheets.{sheet_of}
use Rattle.fault.specs.Refusals.{refused}
use Rattle.fault.specs.declared.fault.Cause.TheVariants.{Full, Lines}
use Rattle.rule.specs.Rule.{rule}
use Rattle.sheet.specs.Calls.{Added}
use Rattle.crossing.proofs.adding.add_line.Goals as goal

pub returns-then-working-lt64-clause-call : goal.returns-then-working-lt64-clause-call
returns-then-working-lt64-clause-call g c =
    let t = c.args.sheet.now in
    let few = too_few g.K.NumberKind.model g.K.Crossing.mark_of (line_of c.args.line) c.args.working.now c.if-working-lt64.true (sheet_of t) in
    added_by g.K.NumberKind.model g.K.Crossing.mark_of (line_of c.args.line) c.args.working.now t (refused Lines 0) few (ap Err c.at.ensures) refl refl

pub returns-then-n-eq64-clause-call : goal.returns-then-n-eq64-clause-call
returns-then-n-eq64-clause-call g c =
    let m = g.K.NumberKind.model in
    let of = g.K.Crossing.mark_of in
    let w = c.args.working.now in
    let line = line_of c.args.line in
    let t = c.whole-over.new.self in
    let whole = c.whole-over.ensures in
    subst (λ s. Added m line s (records_in of w) (Err c.at-then-n-eq64.result) (sheet_of t) (records_in of w)) whole.means
    (added_by m of line w t (refused Full 64) (full m of line w t c.if-working-lt64.false whole.over whole.few c.if-n-eq64.true) (ap Err c.at-then-n-eq64.ensures) refl refl)

pub returns-in_err-record_in-clause-call : goal.returns-in_err-record_in-clause-call
returns-in_err-record_in-clause-call g c =
    let m = g.K.NumberKind.model in
    let of = g.K.Crossing.mark_of in
    let w = c.args.working.now in
    let line = line_of c.args.line in
    let t = c.whole-over.new.self in
    let whole = c.whole-over.ensures in
    let brought = c.bring_operands.ensures in
    let rs = c.bring_operands.new.records in
    let long = brought.long in
    let all = all_lent of w c.if-working-lt64.false in
    let few = whole.few in
    let by = by_operands m (box_of c.whole-over.result) rs (records_in of w) t.held (omega (arith, few, long)) (omega (arith, few, all)) c.args.line
    (λ h. brought.first (omega (arith, few, h))) (λ h. brought.second (omega (arith, few, h))) (λ h. brought.third (omega (arith, few, h))) in
    let made = ruled m of line w t c.if-working-lt64.false whole.over whole.few (λ e. c.if-n-eq64.false e) ∙ sym by ∙ sym (c.in_err-record_in.ensures.answer ∙ ap (rule m (box_of c.whole-over.result) (take t.held rs)) c.meaning.ensures) in
    let e = err_from_is_err_and c.from_residual.result c.from_residual.ensures.1 in
    subst (λ s. Added m line s (records_in of w) c.from_residual.result (sheet_of t) (records_in of w)) whole.means
    (added_by m of line w t (Err c.in_err-record_in.field-0.0) made (e.1 ∙ ap Err e.2) refl refl)

pub returns-clause-call : goal.returns-clause-call
returns-clause-call g c =
    let m = g.K.NumberKind.model in
    let of = g.K.Crossing.mark_of in
    let w = c.args.working.now in
    let line = line_of c.args.line in
    let t = c.whole-over.new.self in
    let whole = c.whole-over.ensures in
    let brought = c.bring_operands.ensures in
    let rs = c.bring_operands.new.records in
    let long = brought.long in
    let all = all_lent of w c.if-working-lt64.false in
    let few = whole.few in
    let room = c.if-n-eq64.false in
    let less : t.held < 64 = omega (arith, few, room) in
    let by = by_operands m (box_of c.whole-over.result) rs (records_in of w) t.held (omega (arith, few, long)) (omega (arith, few, all)) c.args.line
    (λ h. brought.first (omega (arith, few, h))) (λ h. brought.second (omega (arith, few, h))) (λ h. brought.third (omega (arith, few, h))) in
    let r = c.in_ok-record_in.field-0 in
    let made = ruled m of line w t c.if-working-lt64.false whole.over whole.few room ∙ sym by ∙ sym (c.in_ok-record_in.ensures.answer ∙ ap (rule m (box_of c.whole-over.result) (take t.held rs)) c.meaning.ensures) in
    let n = held_is t whole.over whole.few in
    let w' = set w t.held c.form.result in
    subst (λ s. Added m line s (records_in of w) (Ok t.held) (sheet_of c.hold.new.self) (records_in of w')) whole.means
    (added_by m of line w t (Ok r) made (ap Ok (sym n))
    (one_more m of line w t c.if-working-lt64.false whole.over whole.few c.hold.new.self c.hold.ensures.over c.hold.ensures.held less c.hold.ensures.lines)
    (put_in w t.held c.form.result less of ∙ ap (set (records_in of w) t.held) c.form.ensures ∙ ap (λ k. set (records_in of w) k r) (sym n)))

pub returns-clause-beyond : goal.returns-clause-beyond
returns-clause-beyond g c =
    let few = c.whole-over.ensures.few in
    put_beyond c.args.working.now c.whole-over.new.self.held c.form.result (omega (arith, few, c.if-n-eq64.false))
