use Rattle.std.proofs.Common.{[], take, Ok, Err, sym, ap, ◌∙◌, subst, arith}
use Rattle.std.proofs.lemmas.Result.{err_from_is_err_and}
use Rattle.boxes.specs.Stored.{box_of}
use Rattle.crossing.proofs.HeldIn.{held_is, whole_is}
use Rattle.crossing.proofs.Remade.{copied_beyond, copied_in}
use Rattle.crossing.specs.Memory.{Beyond, records_in}
use Rattle.crossing.specs.Sheets.{sheet_of}
use Rattle.crossing.specs.declared.memory.CSheet.{CSheet}
use Rattle.sheet.proofs.Moved.{moved_to}
use Rattle.sheet.specs.Moving.{remade, renewed, shifted}
use Rattle.sheet.specs.Reading.{overlaid}
use Rattle.crossing.proofs.moving.move_to.Goals as goal

pub returns-in_err-remake-clause-call : goal.returns-in_err-remake-clause-call
returns-in_err-remake-clause-call g c =
    let m = g.K.NumberKind.model in
    let of = g.K.Crossing.mark_of in
    let t = c.args.sheet.now in
    let s = sheet_of t in
    let b = box_of c.args.over in
    let whole = c.requires.sheet in
    let lines = ap (λ c. c.lines) (sym (whole_is t whole.over whole.few)) in
    let e = err_from_is_err_and c.from_residual.result c.from_residual.ensures.1 in
    let is = e.1 ∙ ap Err e.2 in
    record {
      answer = is ∙ sym c.in_err-remake.was ∙ c.remake.ensures.answer ∙ ap (λ ls. (remade m b ls [] []).answer) lines;
      sheet = sym (ap (shifted s (Ok b)) is);
      working = sym (ap (λ r. renewed r (remade m b s.lines [] []).records (records_in of c.args.working.now)) is);
      spare = c.remake.ensures.memory ∙ ap (λ ls. overlaid (remade m b ls [] []).records (records_in of c.args.spare.now)) lines;
    }

pub returns-clause-call : goal.returns-clause-call
returns-clause-call g c =
    let m = g.K.NumberKind.model in
    let of = g.K.Crossing.mark_of in
    let t = c.args.sheet.now in
    let s = sheet_of t in
    let w = c.args.working.now in
    let p = c.args.spare.now in
    let b = box_of c.args.over in
    let whole = c.requires.sheet in
    let p' = c.remake.new.memory in
    let as_lent = c.remake.ensures.beyond.long in
    let lent = c.requires.spare in
    let lines = ap (λ c. c.lines) (sym (whole_is t whole.over whole.few)) in
    let left : CSheet = record { over = c.stored-sheet.result; held = t.held; lines = t.lines; whole = c.sheet-1.given.0 } in
    moved_to m s (records_in of w) (records_in of p) b c.in_ok-remake.was
    (c.remake.ensures.answer ∙ ap (λ ls. (remade m b ls [] []).answer) lines)
    (c.remake.ensures.memory ∙ ap (λ ls. overlaid (remade m b ls [] []).records (records_in of p)) lines)
    (ap (records_in of) c.copy.ensures ∙ copied_in of p' w t.held whole.few (omega (arith, as_lent, lent)) ∙ ap (λ n. overlaid (take n (records_in of p')) (records_in of w)) (sym (held_is t whole.over whole.few)))
    (whole_is left c.stored-sheet.ensures whole.few ∙ ap (λ ls. record { over = b; lines = ls }) lines)

pub returns-clause-working : goal.returns-clause-working
returns-clause-working g c =
    let few = c.requires.sheet.few in
    let as_lent = c.remake.ensures.beyond.long in
    let lent = c.requires.spare in
    let own = c.requires.working in
    subst (Beyond c.args.working.now) (sym c.copy.ensures) (copied_beyond g.K.Crossing.mark_of c.remake.new.memory c.args.working.now c.args.sheet.now.held few (omega (arith, as_lent, lent)) (omega (arith, few, own)))
