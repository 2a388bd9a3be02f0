use Rattle.std.proofs.Common.{◌<◌, length, get_or, sym, ap, ◌∙◌, arith, refl, true≢false, Some, subst}
use Rattle.std.proofs.lemmas.Option.{slice_get-get_or}
use Rattle.boxes.specs.Stored.{box_of}
use Rattle.crossing.proofs.Stands.{still_stand, stands_here}
use Rattle.crossing.specs.Standing.{Standing}
use Rattle.line.specs.declared.line.Line.TheVariants.{Channel}
use Rattle.rule.proofs.Puts.{line_made, line_refused}
use Rattle.sheet.proofs.Remaking.{bad_record, going_on}
use Rattle.crossing.proofs.standing.records_over.Goals.{then-not-stands+in_ok-record_line, else-not-stands}
use Rattle.crossing.proofs.standing.records_over.Goals as goal

pub returns-in_err-record_line-clause-answer : goal.returns-in_err-record_line-clause-answer
returns-in_err-record_line-clause-answer g c =
    let n = c.loop-n.n in
    let room : n < length c.loop-n.working = omega (arith, c.loop-n-test.true, c.requires.room, c.loop-n.auto.working) in
    let q = line_refused g.K.NumberKind.model (box_of c.args.over.now) c.loop-n.working n (get_or c.args.lines.now n (Channel 0)) room c.in_err-record_line.ensures.answer c.in_err-record_line.ensures.records in
    let e = bad_record g.K.NumberKind.model (box_of c.args.over.now) c.args.lines.now c.args.working.now c.loop-n.invariant.0 (Channel 0) c.loop-n-test.true refl q.0 c.from_residual.result c.from_residual.ensures.1 in
    e.answer_is

pub returns-in_err-record_line-clause-records : goal.returns-in_err-record_line-clause-records
returns-in_err-record_line-clause-records g c =
    let n = c.loop-n.n in
    let room : n < length c.loop-n.working = omega (arith, c.loop-n-test.true, c.requires.room, c.loop-n.auto.working) in
    let q = line_refused g.K.NumberKind.model (box_of c.args.over.now) c.loop-n.working n (get_or c.args.lines.now n (Channel 0)) room c.in_err-record_line.ensures.answer c.in_err-record_line.ensures.records in
    let e = bad_record g.K.NumberKind.model (box_of c.args.over.now) c.args.lines.now c.args.working.now c.loop-n.invariant.0 (Channel 0) c.loop-n-test.true refl q.0 c.from_residual.result c.from_residual.ensures.1 in
    q.1 ∙ e.records_are

pub returns-in_err-record_line-clause-standing : goal.returns-in_err-record_line-clause-standing
returns-in_err-record_line-clause-standing g c s =
    let n = c.loop-n.n in
    let room : n < length c.loop-n.working = omega (arith, c.loop-n-test.true, c.requires.room, c.loop-n.auto.working) in
    let q = line_refused g.K.NumberKind.model (box_of c.args.over.now) c.loop-n.working n (get_or c.args.lines.now n (Channel 0)) room c.in_err-record_line.ensures.answer c.in_err-record_line.ensures.records in
    subst (Standing g.K.NumberKind.model c.args.lines.now) (sym q.1) (c.loop-n.invariant.1 s)

pub loop-n-preserved : goal.loop-n-preserved
loop-n-preserved g c =
    let m = g.K.NumberKind.model in
    let b = box_of c.args.over.now in
    let ls = c.args.lines.now in
    let n = c.loop-n.n in
    let w0 = c.loop-n.working in
    let d = Channel 0 in
    let h = c.loop-n-test.true in
    let room : n < length w0 = omega (arith, h, c.requires.room, c.loop-n.auto.working) in
    elim c.if-not-stands.branch [
      | then-not-stands+in_ok-record_line w ↦
          let q = line_made m b w0 n (get_or ls n d) room w.in_ok-record_line.ensures.answer w.in_ok-record_line.ensures.records in
          let e = w.working-is ∙ q.2 in (
            going_on m b ls c.args.working.now c.loop-n.invariant.0 d h refl e q.1 room,
            λ s. subst (Standing m ls) (sym e) (still_stand m ls w0 n d h refl (λ k f. true≢false (sym (c.stands.ensures.no s k f) ∙ w.if-not-stands.true)) q.0 (c.loop-n.invariant.1 s)),
          )
      | else-not-stands w ↦
          let y = c.stands.ensures.yes w.if-not-stands.false in
          let k = y.1 in
          let q = stands_here m ls w0 n d h refl b (omega (arith, room)) k.0 k.1 (c.loop-n.invariant.1 y.0 n k.0 (slice_get-get_or ls n d h ∙ ap Some k.1)) in (
            going_on m b ls c.args.working.now c.loop-n.invariant.0 d h refl (w.working-is ∙ q.2) q.1 room,
            λ s. subst (Standing m ls) (sym w.working-is) (c.loop-n.invariant.1 s),
          )
    ]
