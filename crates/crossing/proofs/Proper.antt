-- The box of a sheet in memory is one that open takes.
use Rattle.std.proofs.Common.{◌≡◌, Bool, true, false, cond, nat_lt, take, Ok, Err, Result, refl}
use Rattle.boxes.proofs.Proper.{blank_proper, opened_proper}
use Rattle.boxes.specs.Boxes.{Box, Proper, opened}
use Rattle.crossing.specs.Sheets.{box_in, lines_in, sheet_of, sheet_over}
use Rattle.crossing.specs.declared.memory.CBox.{CBox}
use Rattle.crossing.specs.declared.memory.CSheet.{CSheet}
use Rattle.fault.proofs.Steps.{err_ok}
use Rattle.fault.specs.Refusals.{refused}
use Rattle.fault.specs.declared.fault.Cause.TheVariants.{Channels}
use Rattle.fault.specs.declared.fault.Fault.{Fault}
use Rattle.sheet.specs.Contents.{blank}

box_proper : (c : CBox) {b : Box} → box_in c ≡ Ok b → Proper b
box_proper c {b} = go (nat_lt 8 c.channels)
  where
    go : (t : Bool) → cond t (refused Channels 0) (opened (take c.channels c.lower) (take c.channels c.upper) c.swept c.centre) ≡ Ok b → Proper b
    go true e = absurd (err_ok e)
    go false e = opened_proper (take c.channels c.lower) (take c.channels c.upper) c.swept c.centre e

pub sheet_proper : (s : CSheet) → Proper (sheet_of s).over
sheet_proper s = go (box_in s.over) refl
  where
    held : (b : Box) → Proper b → (t : Bool) → Proper (cond t blank (record { over = b; lines = lines_in s })).over
    held b p true = blank_proper
    held b p false = p

    go : (o : Result Box Fault) → box_in s.over ≡ o → Proper (sheet_over s o).over
    go (Ok b) e = held b (box_proper s.over e) (nat_lt 64 s.held)
    go (Err f) e = blank_proper
