use Rattle.std.proofs.Common.{Ok, ◌-◌, refl, subst}
use Rattle.crossing.proofs.HeldIn.{one_less}
use Rattle.crossing.specs.Sheets.{sheet_of}
use Rattle.crossing.specs.declared.memory.CSheet.{CSheet}
use Rattle.sheet.specs.Calls.{Struck}
use Rattle.crossing.proofs.plain.struck.Goals as goal

pub returns : goal.returns
returns c =
    let s = c.whole.new.self in
    let left : CSheet = record { over = s.over; held = s.held - 1; lines = s.lines; whole = c.sheet-1.given.0 } in
    subst (λ x. Struck x (Ok tt) (sheet_of left)) c.whole.ensures.means
    (one_less s left c.whole.ensures.over c.whole.ensures.few refl refl c.if-sheet-eq0.false refl)
