use Rattle.std.proofs.Common.{take, sym, ap, ◌∙◌}
use Rattle.boxes.specs.Stored.{box_of}
use Rattle.sheet.proofs.Held.{held_is}
use Rattle.sheet.proofs.Moved.{moved_to}
use Rattle.sheet.specs.Contents.{contents}
use Rattle.sheet.specs.Reading.{overlaid}
use Rattle.sheet.proofs.sheet.Sheet.move_to.Goals as goal

pub returns : goal.returns
returns g c =
    let s = c.args.self.now in
    moved_to g.K.NumberKind.model (contents s) c.args.working.now c.args.spare.now (box_of c.args.over) c.in_ok-remake.was c.remake.ensures.answer c.remake.ensures.records
    (c.copy.ensures ∙ ap (λ n. overlaid (take n c.remake.new.spare) c.args.working.now) (sym (held_is s))) c.lay.ensures
