use Rattle.std.proofs.Common.{sym, ap, ◌∙◌, subst, rules, w64, to_z, of_z}
use Rattle.boxes.specs.Stored.{boxed}
use Rattle.sheet.proofs.Moved.{box_as, box_given, not_moved}
use Rattle.sheet.specs.Contents.{contents}
use Rattle.sheet.specs.Moving.{MovedTo}
use Rattle.sheet.proofs.sheet.Sheet.move_channel.Goals as goal

pub returns-in_err-over : goal.returns-in_err-over
returns-in_err-over g c =
    let a = c.args in
    let same = box_as (contents a.self.now) a.working.now a.spare.now a.channel a.lower a.upper a.centre {l = to_z w64 (of_z w64 a.lower)} {u = to_z w64 (of_z w64 a.upper)} {x = to_z w64 (of_z w64 a.centre)} (search rules) (search rules) (search rules) in
    not_moved g.K.NumberKind.model (contents a.self.now) a.working.now a.spare.now (sym same ∙ sym c.new_box.ensures ∙ ap boxed c.in_err-over.was) c.from_residual.result c.from_residual.ensures.1

pub move_to-requires : goal.move_to-requires
move_to-requires g c =
    let a = c.args in
    let k = box_given (contents a.self.now) a.working.now a.spare.now a.channel (to_z w64 (of_z w64 a.lower)) (to_z w64 (of_z w64 a.upper)) (to_z w64 (of_z w64 a.centre)) (sym c.new_box.ensures ∙ ap boxed c.in_ok-over.was) in
    record { working = k.0; spare = k.1 }

pub returns : goal.returns
returns g c =
    let a = c.args in
    let same = box_as (contents a.self.now) a.working.now a.spare.now a.channel a.lower a.upper a.centre {l = to_z w64 (of_z w64 a.lower)} {u = to_z w64 (of_z w64 a.upper)} {x = to_z w64 (of_z w64 a.centre)} (search rules) (search rules) (search rules) in
    subst (λ o. MovedTo g.K.NumberKind.model o (contents a.self.now) a.working.now a.spare.now c.move_to.result (contents c.move_to.new.self) c.move_to.new.working c.move_to.new.spare)
    (sym (sym same ∙ sym c.new_box.ensures ∙ ap boxed c.in_ok-over.was)) c.move_to.ensures
