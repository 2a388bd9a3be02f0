use Rattle.std.proofs.Common.{◌+◌, map, set, sym, ap, ◌∙◌, subst, arith}
use Rattle.boxes.specs.Stored.{box_of}
use Rattle.crossing.proofs.ReadIn.{Reading, reading_on}
use Rattle.crossing.specs.Memory.{records_in}
use Rattle.rule.specs.Placed.{stored}
use Rattle.rule.specs.Rule.{rule}
use Rattle.sheet.proofs.ReadLines.{Ended, bad_line, bad_record, going_end, stands_err, stands_ok}
use Rattle.crossing.specs.Lines.{line_of}
use Rattle.crossing.proofs.reading.read_lines.Given.{Over}
use Rattle.crossing.proofs.reading.read_lines.Goals as goal

-- a line that is refused, one whose record is, and the last one: each ends the reading
bad_bytes : (g : Over) (c : goal.After-from_residual g) → Ended g.K.NumberKind.model (box_of c.args.over.now) c.args.count c.args.bytes.now c.args.from.at (records_in g.K.Crossing.mark_of c.args.working.now) c.from_residual.result (map line_of c.loop-n.sheet.lines) (records_in g.K.Crossing.mark_of c.loop-n.working)
bad_bytes g c =
    bad_line g.K.NumberKind.model (box_of c.args.over.now) c.args.count c.args.bytes.now c.args.from.at (records_in g.K.Crossing.mark_of c.args.working.now) c.loop-n.invariant.0.going c.loop-n-test.true
    (stands_err _ _ _ c.line_at.ensures c.in_err-line.was) _ c.from_residual.ensures.1

refused : (g : Over) (c : goal.After-from_residual-in_err-record_in g) → Ended g.K.NumberKind.model (box_of c.args.over.now) c.args.count c.args.bytes.now c.args.from.at (records_in g.K.Crossing.mark_of c.args.working.now) c.from_residual-in_err-record_in.result (map line_of c.loop-n.sheet.lines) (records_in g.K.Crossing.mark_of c.loop-n.working)
refused g c =
    let m = g.K.NumberKind.model in
    let b = box_of c.args.over.now in
    let i = c.loop-n.invariant.0 in
    bad_record m b c.args.count c.args.bytes.now c.args.from.at (records_in g.K.Crossing.mark_of c.args.working.now) i.going c.loop-n-test.true
    (stands_ok _ _ _ c.line_at.ensures c.in_ok-line.was) (c.in_err-record_in.ensures.answer ∙ ap (λ w. rule m b w c.in_ok-line.line) i.both.same) _ c.from_residual-in_err-record_in.ensures.1

all_read : (g : Over) (c : goal.After-end_at g) → Ended g.K.NumberKind.model (box_of c.args.over.now) c.args.count c.args.bytes.now c.args.from.at (records_in g.K.Crossing.mark_of c.args.working.now) c.end_at.result (map line_of c.loop-n.sheet.lines) (records_in g.K.Crossing.mark_of c.loop-n.working)
all_read g c =
    going_end g.K.NumberKind.model (box_of c.args.over.now) c.args.count c.args.bytes.now c.args.from.at (records_in g.K.Crossing.mark_of c.args.working.now) c.loop-n.invariant.0.going c.loop-n-test.false _ c.end_at.ensures

pub returns-in_err-line-clause-answer : goal.returns-in_err-line-clause-answer
returns-in_err-line-clause-answer g c = (bad_bytes g c).answer_is

pub returns-in_err-line-clause-records : goal.returns-in_err-line-clause-records
returns-in_err-line-clause-records g c = (bad_bytes g c).records_are

pub returns-in_err-record_in-clause-answer : goal.returns-in_err-record_in-clause-answer
returns-in_err-record_in-clause-answer g c = (refused g c).answer_is

pub returns-in_err-record_in-clause-records : goal.returns-in_err-record_in-clause-records
returns-in_err-record_in-clause-records g c = (refused g c).records_are

pub loop-n-preserved : goal.loop-n-preserved
loop-n-preserved g c =
    let m = g.K.NumberKind.model in
    let of = g.K.Crossing.mark_of in
    let b = box_of c.args.over.now in
    let n = c.loop-n.n in
    let i = c.loop-n.invariant in
    let made = c.in_ok-record_in.ensures in
    let h = c.loop-n-test.true in
    let most = c.requires.most in (
      subst (λ rs. Reading m of b c.args.count c.args.bytes.now c.args.from.at c.args.working.now (set c.loop-n.sheet.lines n c.form-in-loop-n.result) (set c.loop-n.working n c.form.result) rs c.line_at.new.place.at (n + 1))
          (sym (made.records ∙ ap (stored c.loop-n.records n) (sym made.answer)))
          (reading_on m of b c.args.count c.args.bytes.now c.args.from.at c.args.working.now i.0 h (omega (arith, h, most))
          (stands_ok _ _ _ c.line_at.ensures c.in_ok-line.was) c.form-in-loop-n.result c.form-in-loop-n.ensures c.in_ok-record_in.field-0 made.answer c.form.result c.form.ensures),
      i.1,
      i.2,
    )

pub returns-clause-answer : goal.returns-clause-answer
returns-clause-answer g c = (all_read g c).answer_is

pub returns-clause-records : goal.returns-clause-records
returns-clause-records g c = (all_read g c).records_are

pub returns-clause-table : goal.returns-clause-table
returns-clause-table g c = (all_read g c).lines_are
