use Rattle.std.proofs.Common.{length, get_or, sym, ◌∙◌, subst, arith, refl, true≢false, ◌+◌, ◌<◌}
use Rattle.boxes.specs.Stored.{box_of}
use Rattle.crossing.proofs.Stands.{StandingTo, all_stand, made_stands, other_line}
use Rattle.line.specs.declared.line.Line.TheVariants.{Channel}
use Rattle.rule.proofs.Puts.{line_made}
use Rattle.crossing.proofs.standing.constants.Goals.{then-is_constant+in_ok-record_line, else-is_constant}
use Rattle.crossing.proofs.standing.constants.Goals as goal

pub loop-n-preserved : goal.loop-n-preserved
loop-n-preserved g c =
    let m = g.K.NumberKind.model in
    let ls = c.args.lines.now in
    let n = c.loop-n.n in
    let d = Channel 0 in
    let h = c.loop-n-test.true in
    let room : n < length c.loop-n.working = omega (arith, h, c.requires, c.loop-n.auto.working) in
    elim c.if-is_constant.branch [
      | then-is_constant+in_ok-record_line w ↦
          let q = line_made m (box_of c.blank-any.result) c.loop-n.working n (get_or ls n d) room w.in_ok-record_line.ensures.answer w.in_ok-record_line.ensures.records in
          subst (StandingTo m ls (n + 1)) (sym (w.working-is ∙ q.2)) (made_stands m ls c.loop-n.working n d h refl (box_of c.blank-any.result) room q.0 q.1 c.loop-n.invariant)
      | else-is_constant w ↦
          subst (StandingTo m ls (n + 1)) (sym w.working-is)
          (other_line m ls c.loop-n.working n d h refl (λ k e. true≢false (sym (c.is_constant.ensures.no k e) ∙ w.if-is_constant.false)) c.loop-n.invariant)
    ]

pub returns : goal.returns
returns g c u e = all_stand g.K.NumberKind.model c.args.lines.now c.loop-n.working c.loop-n.n (omega (arith, c.loop-n-test.false)) c.loop-n.invariant
