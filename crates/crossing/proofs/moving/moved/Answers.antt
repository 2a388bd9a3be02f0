use Rattle.std.proofs.Common.{is_ok, length, Ok, sym, ap, ◌∙◌, subst}
use Rattle.boxes.proofs.Proper.{moved_proper}
use Rattle.boxes.specs.Stored.{box_of, boxed}
use Rattle.crossing.proofs.Lent.{box_alike}
use Rattle.crossing.proofs.Proper.{sheet_proper}
use Rattle.crossing.specs.Memory.{records_in}
use Rattle.crossing.specs.Sheets.{sheet_of}
use Rattle.runs.proofs.Inverse.{new_ok}
use Rattle.sheet.proofs.Moved.{not_moved}
use Rattle.sheet.specs.Moving.{MovedTo, new_box}
use Rattle.crossing.proofs.moving.moved.Goals as goal

pub returns-in_err-over-clause-call : goal.returns-in_err-over-clause-call
returns-in_err-over-clause-call g c =
    let m = g.K.NumberKind.model in
    let of = g.K.Crossing.mark_of in
    let a = c.args in
    let s = sheet_of a.sheet.now in
    let v = a.moving in
    let w = records_in of a.working.now in
    let p = records_in of a.spare.now in
    subst (λ t. MovedTo m (new_box s (length w) (length p) v.channel v.lower v.upper v.centre) s w p c.from_residual.result t w p) (sym c.new_box.ensures.means)
    (not_moved m s w p (sym (box_alike of s a.working.now a.spare.now v.channel v.lower v.upper v.centre) ∙ sym c.new_box.ensures.answer ∙ ap boxed c.in_err-over.was) c.from_residual.result c.from_residual.ensures.1)

pub move_to-requires-clause-sheet : goal.move_to-requires-clause-sheet
move_to-requires-clause-sheet g c = c.new_box.ensures.whole (ap is_ok c.in_ok-over.was)

pub move_to-requires-clause-over : goal.move_to-requires-clause-over
move_to-requires-clause-over g c =
    let a = c.args in
    let s = sheet_of a.sheet.now in
    let v = a.moving in
    moved_proper s.over v.channel v.lower v.upper v.centre (new_ok s (length a.working.now) (length a.spare.now) v.channel v.lower v.upper v.centre (sym c.new_box.ensures.answer ∙ ap boxed c.in_ok-over.was)) (sheet_proper a.sheet.now)

pub returns-clause-call : goal.returns-clause-call
returns-clause-call g c =
    let m = g.K.NumberKind.model in
    let of = g.K.Crossing.mark_of in
    let a = c.args in
    let s = sheet_of a.sheet.now in
    let v = a.moving in
    let w = records_in of a.working.now in
    let p = records_in of a.spare.now in
    let t = c.move_to.new in
    subst (λ o. MovedTo m o s w p c.move_to.result (sheet_of t.sheet) (records_in of t.working) (records_in of t.spare))
    (sym (sym (box_alike of s a.working.now a.spare.now v.channel v.lower v.upper v.centre) ∙ sym c.new_box.ensures.answer ∙ ap boxed c.in_ok-over.was))
    (subst (λ s. MovedTo m (Ok (box_of c.in_ok-over.over)) s w p c.move_to.result (sheet_of t.sheet) (records_in of t.working) (records_in of t.spare)) c.new_box.ensures.means c.move_to.ensures.call)
