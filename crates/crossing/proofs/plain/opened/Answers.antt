use Rattle.std.proofs.Common.{◌≡◌, sym, ap, ◌∙◌, rules, to_z, of_z, w64}
use Rattle.boxes.proofs.Proper.{opened_proper}
use Rattle.boxes.specs.Boxes.{opened}
use Rattle.crossing.proofs.plain.opened.Goals as goal

pub stored-sheet-requires : goal.stored-sheet-requires
stored-sheet-requires c =
    let a = c.args in
    let same : to_z w64 (of_z w64 a.centre) ≡ a.centre = search rules in
    opened_proper a.lower.now a.upper.now a.swept a.centre (ap (opened a.lower.now a.upper.now a.swept) (sym same) ∙ sym c.in_ok-over.ensures)
