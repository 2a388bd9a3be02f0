use Rattle.std.proofs.Common.{get_or, sym, ◌∙◌, arith, get_or-take}
use Rattle.boxes.specs.Stored.{box_of}
use Rattle.line.specs.declared.line.Line.TheVariants.{Channel}
use Rattle.rule.proofs.Puts.{line_made, line_refused}
use Rattle.sheet.proofs.Held.{held_is}
use Rattle.sheet.proofs.Remaking.{bad_record, going_on}
use Rattle.sheet.specs.Contents.{contents}
use Rattle.sheet.proofs.sheet.Sheet.remake.Goals as goal

pub returns-in_err-record_line : goal.returns-in_err-record_line
returns-in_err-record_line g c =
    let s = c.args.self.now in
    let n = c.loop-n.n in
    let l = held_is s in
    let q = line_refused g.K.NumberKind.model (box_of c.args.over.now) c.loop-n.spare n (get_or s.lines n (Channel 0)) (omega (arith, s.few, c.requires.room, c.loop-n-test.true, c.loop-n.invariant.front.long)) c.in_err-record_line.ensures.answer c.in_err-record_line.ensures.records in
    let e = bad_record g.K.NumberKind.model (box_of c.args.over.now) (contents s).lines c.args.spare.now c.loop-n.invariant (Channel 0) (omega (arith, l, c.loop-n-test.true))
    (sym (get_or-take s.held s.lines n (Channel 0) c.loop-n-test.true)) q.0 c.from_residual.result c.from_residual.ensures.1 in
    record { answer = e.answer_is; records = q.1 ∙ e.records_are }

pub loop-n-preserved : goal.loop-n-preserved
loop-n-preserved g c =
    let s = c.args.self.now in
    let n = c.loop-n.n in
    let l = held_is s in
    let h = c.loop-n-test.true in
    let q = line_made g.K.NumberKind.model (box_of c.args.over.now) c.loop-n.spare n (get_or s.lines n (Channel 0)) (omega (arith, s.few, c.requires.room, c.loop-n-test.true, c.loop-n.invariant.front.long)) c.in_ok-record_line.ensures.answer c.in_ok-record_line.ensures.records in
    going_on g.K.NumberKind.model (box_of c.args.over.now) (contents s).lines c.args.spare.now c.loop-n.invariant (Channel 0) (omega (arith, l, c.loop-n-test.true))
    (sym (get_or-take s.held s.lines n (Channel 0) c.loop-n-test.true)) q.2 q.1 (omega (arith, s.few, c.requires.room, c.loop-n-test.true, c.loop-n.invariant.front.long))
