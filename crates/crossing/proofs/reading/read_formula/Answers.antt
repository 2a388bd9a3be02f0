use Rattle.std.proofs.Common.{[], length, is_ok, Ok, Err, refl, sym, ap, ◌∙◌, subst, arith}
use Rattle.std.proofs.lemmas.Bool.{cond_below}
use Rattle.std.proofs.lemmas.List.{take-map}
use Rattle.std.proofs.lemmas.Result.{err_from_is_err_and}
use Rattle.boxes.specs.Stored.{box_of}
use Rattle.crossing.proofs.HeldIn.{held_is, none_held, whole_is}
use Rattle.crossing.proofs.Lent.{all_lent, few_lent}
use Rattle.crossing.proofs.Parsing.{count_few}
use Rattle.crossing.proofs.ReadIn.{counted, read_by, refused_by, uncounted}
use Rattle.crossing.specs.Lines.{line_of}
use Rattle.crossing.specs.Memory.{records_in}
use Rattle.crossing.specs.Sheets.{box_in, sheet_of}
use Rattle.crossing.specs.declared.memory.CSheet.{CSheet}
use Rattle.fault.specs.Refusals.{refused}
use Rattle.fault.specs.declared.fault.Cause.TheVariants.{Lines, NotEmpty}
use Rattle.sheet.proofs.ReadFormula.{not_empty}
use Rattle.sheet.specs.Reading.{Read, ends, read_lines}
use Rattle.crossing.proofs.reading.read_formula.Goals as goal

pub returns-then-working-lt64-clause-call : goal.returns-then-working-lt64-clause-call
returns-then-working-lt64-clause-call g c =
    let m = g.K.NumberKind.model in
    let w = c.args.working.now in
    let rs = records_in g.K.Crossing.mark_of w in
    refused_by m c.args.bytes.now (sheet_of c.args.sheet.now) rs (ends (refused Lines 0) [] []) (sym (cond_below (length rs) 64 (ends (refused Lines 0) [] []) _ (few_lent g.K.Crossing.mark_of w c.if-working-lt64.true)))
    refl (ap Err c.at.ensures) refl refl

pub returns-then-sheet-gt0-clause-call : goal.returns-then-sheet-gt0-clause-call
returns-then-sheet-gt0-clause-call g c =
    let m = g.K.NumberKind.model in
    let of = g.K.Crossing.mark_of in
    let w = c.args.working.now in
    let t = c.whole-over.new.self in
    let whole = c.whole-over.ensures in
    let all = all_lent of w c.if-working-lt64.false in
    let n = held_is t whole.over whole.few in
    let some = c.if-sheet-gt0.true in
    subst (λ s. Read m c.args.bytes.now s (records_in of w) (Err c.at-then-sheet-gt0.result) (sheet_of t) (records_in of w)) whole.means
    (refused_by m c.args.bytes.now (sheet_of t) (records_in of w) (ends (refused NotEmpty 0) [] [])
    (not_empty m (sheet_of t) (records_in of w) c.args.bytes.now (omega (arith, all)) (omega (arith, n, some))) refl (ap Err c.at-then-sheet-gt0.ensures) refl refl)

pub returns-in_err-count-clause-call : goal.returns-in_err-count-clause-call
returns-in_err-count-clause-call g c =
    let m = g.K.NumberKind.model in
    let of = g.K.Crossing.mark_of in
    let w = c.args.working.now in
    let t = c.whole-over.new.self in
    let whole = c.whole-over.ensures in
    let all = all_lent of w c.if-working-lt64.false in
    let n = held_is t whole.over whole.few in
    let none = c.if-sheet-gt0.false in
    let e = err_from_is_err_and c.from_residual.result c.from_residual.ensures.1 in
    subst (λ s. Read m c.args.bytes.now s (records_in of w) c.from_residual.result (sheet_of t) (records_in of w)) whole.means
    (refused_by m c.args.bytes.now (sheet_of t) (records_in of w) (ends (Err c.in_err-count.field-0.0) [] [])
    (uncounted m c.args.bytes.now (sheet_of t) (records_in of w) (omega (arith, all)) (omega (arith, n, none)) (sym c.in_err-count.ensures)) (e.1 ∙ ap Err e.2) (e.1 ∙ ap Err e.2) refl refl)

pub read_lines-requires-clause-most : goal.read_lines-requires-clause-most
read_lines-requires-clause-most g c = count_few c.args.bytes.now (sym c.in_ok-count.ensures)

pub returns-in_err-read_lines-clause-call : goal.returns-in_err-read_lines-clause-call
returns-in_err-read_lines-clause-call g c =
    let m = g.K.NumberKind.model in
    let of = g.K.Crossing.mark_of in
    let w = c.args.working.now in
    let t = c.whole-over.new.self in
    let u = c.read_lines.new.sheet in
    let whole = c.whole-over.ensures in
    let read = c.read_lines.ensures in
    let all = all_lent of w c.if-working-lt64.false in
    let n = held_is t whole.over whole.few in
    let none = c.if-sheet-gt0.false in
    let held = read.held in
    let b = box_of c.whole-over.result in
    let e = err_from_is_err_and c.from_residual-in_err-read_lines.result c.from_residual-in_err-read_lines.ensures.1 in
    let is = e.1 ∙ ap Err e.2 in
    subst (λ s. Read m c.args.bytes.now s (records_in of w) c.from_residual-in_err-read_lines.result (sheet_of u) (records_in of c.read_lines.new.working)) whole.means
    (refused_by m c.args.bytes.now (sheet_of t) (records_in of w) (read_lines m b c.in_ok-count.count c.args.bytes.now c.in_ok-count.from.at [] [])
    (counted m c.args.bytes.now (sheet_of t) (records_in of w) (omega (arith, all)) (omega (arith, n, none)) (ap (λ c. c.over) (whole_is t whole.over whole.few)) (sym c.in_ok-count.ensures))
    is (is ∙ sym c.in_err-read_lines.was ∙ read.answer)
    (none_held u (ap box_in read.over ∙ whole.over) (omega (arith, held, none)) ∙ sym (none_held t whole.over (omega (arith, none)))) read.records)

pub returns-clause-call : goal.returns-clause-call
returns-clause-call g c =
    let m = g.K.NumberKind.model in
    let of = g.K.Crossing.mark_of in
    let w = c.args.working.now in
    let t = c.whole-over.new.self in
    let u = c.read_lines.new.sheet in
    let whole = c.whole-over.ensures in
    let read = c.read_lines.ensures in
    let all = all_lent of w c.if-working-lt64.false in
    let n = held_is t whole.over whole.few in
    let none = c.if-sheet-gt0.false in
    let count = c.in_ok-count.count in
    let b = box_of c.whole-over.result in
    let over = ap (λ c. c.over) (whole_is t whole.over whole.few) in
    let left : CSheet = record { over = u.over; held = count; lines = u.lines; whole = c.sheet-1.given.0 } in
    subst (λ s. Read m c.args.bytes.now s (records_in of w) (Ok tt) (sheet_of left) (records_in of c.read_lines.new.working)) whole.means
    (read_by m c.args.bytes.now (sheet_of t) (records_in of w) (read_lines m b count c.args.bytes.now c.in_ok-count.from.at [] [])
    (counted m c.args.bytes.now (sheet_of t) (records_in of w) (omega (arith, all)) (omega (arith, n, none)) over (sym c.in_ok-count.ensures))
    (sym c.in_ok-read_lines.was ∙ read.answer)
    (whole_is left (ap box_in read.over ∙ whole.over) (count_few c.args.bytes.now (sym c.in_ok-count.ensures))
    ∙ ap (λ ls. record { over = b; lines = ls }) (sym (take-map line_of count u.lines) ∙ read.table (ap is_ok c.in_ok-read_lines.was))
    ∙ ap (λ b. record { over = b; lines = (read_lines m (box_of c.whole-over.result) count c.args.bytes.now c.in_ok-count.from.at [] []).lines }) (sym over))
    read.records)
