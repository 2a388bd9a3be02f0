use Rattle.std.proofs.Common.{◌<◌, length, take, ap, ◌∙◌, arith}
use Rattle.boxes.specs.Stored.{box_of}
use Rattle.rule.proofs.Puts.{line_made, line_refused}
use Rattle.rule.specs.Rule.{rule}
use Rattle.sheet.proofs.ReadLines.{bad_line, bad_record, going_end, going_on, stands_err, stands_ok}
use Rattle.sheet.proofs.sheet.Sheet.read_lines.Goals as goal

pub returns-in_err-line : goal.returns-in_err-line
returns-in_err-line g c =
    let e = bad_line g.K.NumberKind.model (box_of c.args.self.now.over) c.args.count c.args.bytes.now c.args.from.at c.args.working.now c.loop-n.invariant.0 c.loop-n-test.true
    (stands_err _ _ _ c.line_at.ensures c.in_err-line.was) _ c.from_residual.ensures.1 in
    record { answer = e.answer_is; records = e.records_are; table = e.lines_are; over = c.loop-n.invariant.1; none = c.loop-n.invariant.2 }

pub returns-in_err-record_line : goal.returns-in_err-record_line
returns-in_err-record_line g c =
    let n = c.loop-n.n in
    let q = line_refused g.K.NumberKind.model (box_of c.loop-n.self.over) c.loop-n.working n c.in_ok-line.line
    (omega (arith, c.loop-n-test.true, c.requires.room, c.requires.most, c.loop-n.invariant.0.front.long)) c.in_err-record_line.ensures.answer c.in_err-record_line.ensures.records in
    let e = bad_record g.K.NumberKind.model (box_of c.args.self.now.over) c.args.count c.args.bytes.now c.args.from.at c.args.working.now c.loop-n.invariant.0 c.loop-n-test.true
    (stands_ok _ _ _ c.line_at.ensures c.in_ok-line.was)
    (q.0 ∙ ap (λ o. rule g.K.NumberKind.model (box_of o) (take n c.loop-n.working) c.in_ok-line.line) c.loop-n.invariant.1) _ c.from_residual-in_err-record_line.ensures.1 in
    record { answer = e.answer_is; records = q.1 ∙ e.records_are; table = e.lines_are; over = c.loop-n.invariant.1; none = c.loop-n.invariant.2 }

pub loop-n-preserved : goal.loop-n-preserved
loop-n-preserved g c =
    let n = c.loop-n.n in
    let h : n < length c.loop-n.working = omega (arith, c.loop-n-test.true, c.requires.room, c.requires.most, c.loop-n.invariant.0.front.long) in
    let q = line_made g.K.NumberKind.model (box_of c.loop-n.self.over) c.loop-n.working n c.in_ok-line.line h c.in_ok-record_line.ensures.answer c.in_ok-record_line.ensures.records in (
      going_on g.K.NumberKind.model (box_of c.args.self.now.over) c.args.count c.args.bytes.now c.args.from.at c.args.working.now c.loop-n.invariant.0 c.loop-n-test.true
          (stands_ok _ _ _ c.line_at.ensures c.in_ok-line.was) q.2
          (q.1 ∙ ap (λ o. rule g.K.NumberKind.model (box_of o) (take n c.loop-n.working) c.in_ok-line.line) c.loop-n.invariant.1)
          (omega (arith, c.loop-n.self.whole, c.loop-n-test.true, c.requires.most)) h,
      c.loop-n.invariant.1,
      c.loop-n.invariant.2,
    )

pub returns : goal.returns
returns g c =
    let e = going_end g.K.NumberKind.model (box_of c.args.self.now.over) c.args.count c.args.bytes.now c.args.from.at c.args.working.now c.loop-n.invariant.0 c.loop-n-test.false _ c.end_at.ensures in
    record { answer = e.answer_is; records = e.records_are; table = e.lines_are; over = c.loop-n.invariant.1; none = c.loop-n.invariant.2 }
