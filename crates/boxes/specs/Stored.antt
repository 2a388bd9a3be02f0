-- What a box of the code holds.
use Rattle.std.specs.Prelude.{List, map, take, ℤ, Ok, Err, Result}
use Rattle.fault.specs.declared.fault.Fault.{Fault}
use Rattle.boxes.specs.Boxes.{Box}
use Rattle.boxes.specs.declared.channels.ChannelBox.{ChannelBox}
use Rattle.boxes.specs.declared.range.Range.{Range}

abbrev pub lowers : List Range → List ℤ
lowers = map (λ r. r.lower)

abbrev pub uppers : List Range → List ℤ
uppers = map (λ r. r.upper)

abbrev pub box_of : ChannelBox → Box
box_of b = record { lower = lowers (take b.channels b.ranges); upper = uppers (take b.channels b.ranges); swept = b.swept; centre = b.centre }

-- what an accepted range of the code holds
abbrev pub ranged : Result Range Fault → Result (ℤ × ℤ) Fault
ranged (Ok r) = Ok (r.lower, r.upper)
ranged (Err e) = Err e

-- what an accepted range of the code and its centre hold
abbrev pub ranged_about : Result (Range × ℤ) Fault → Result (ℤ × ℤ × ℤ) Fault
ranged_about (Ok m) = Ok (m.0.lower, m.0.upper, m.1)
ranged_about (Err e) = Err e

-- what an accepted box of the code holds
abbrev pub boxed : Result ChannelBox Fault → Result Box Fault
boxed (Ok b) = Ok (box_of b)
boxed (Err e) = Err e
