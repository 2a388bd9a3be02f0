use Rattle.std.proofs.Common.{◌∙◌, rules, w64, to_z, of_z}
use Rattle.sheet.proofs.Held.{lent_enough}
use Rattle.sheet.proofs.Moved.{box_found}
use Rattle.sheet.specs.Contents.{contents}
use Rattle.sheet.proofs.sheet.Sheet.new_box.Goals as goal

pub returns : goal.returns
returns g c =
    let a = c.args in
    c.moved.ensures ∙ box_found (contents a.self.now) a.working.now a.spare.now a.channel a.lower a.upper a.centre (lent_enough a.working.now c.in_ok-enough.ensures) (lent_enough a.spare.now c.in_ok-enough-2.ensures)
    {l = to_z w64 (of_z w64 a.lower)} {u = to_z w64 (of_z w64 a.upper)} {x = to_z w64 (of_z w64 a.centre)} (search rules) (search rules) (search rules)
