-- Moving: one channel of a box gets another range, and another centre if it is the swept one.
use Rattle.std.specs.Prelude.{ℕ, cond, ℤ, Ok, Result, ◌==◌, slice_set}
use Rattle.std.specs.List.{slice_get}
use Rattle.fault.specs.Refusals.{after, found}
use Rattle.fault.specs.declared.fault.Cause.TheVariants.{NoChannel}
use Rattle.fault.specs.declared.fault.Fault.{Fault}
use Rattle.boxes.specs.Boxes.{Box, counted, inside, ordered, range}

-- three counts as a range and its centre
abbrev pub about : ℤ → ℤ → ℤ → ℕ → Result (ℤ × ℤ × ℤ) Fault
about l u x channel = after (ordered l u channel) (λ r. after (inside r.0 r.1 x channel) (λ x. Ok (r.0, r.1, x)))

-- the range of a swept channel and its centre: all three counts are judged first
abbrev pub range_about : ℤ → ℤ → ℤ → ℕ → Result (ℤ × ℤ × ℤ) Fault
range_about l u x channel = after (counted l channel) (λ l. after (counted u channel) (λ u. after (counted x channel) (λ x. about l u x channel)))

-- the new range of a channel, and the box's new centre: that of a channel which is not swept is not read
abbrev pub judged : Box → ℕ → ℤ → ℤ → ℤ → Result (ℤ × ℤ × ℤ) Fault
judged b channel l u x = cond (channel == b.swept) (range_about l u x channel) (after (range l u channel) (λ r. Ok (r.0, r.1, b.centre)))

-- the box with these ends for a channel, and this centre
abbrev pub changed : Box → ℕ → ℤ → ℤ → ℤ → Box
changed b channel l u x = record { lower = slice_set b.lower channel l; upper = slice_set b.upper channel u; swept = b.swept; centre = x }

abbrev pub moved : Box → ℕ → ℤ → ℤ → ℤ → Result Box Fault
moved b channel lower upper centre =
    after (found NoChannel channel (slice_get b.lower channel)) (λ _.
    after (judged b channel lower upper centre) (λ m.
    Ok (changed b channel m.0 m.1 m.2)))
