-- Boxes: the ranges of the channels in counts, the swept channel and its centre.
use Rattle.std.specs.Prelude.{◌≡◌, ℕ, suc, ◌<◌, ◌≤◌, Bool, true, cond, not, ◌&&◌, ◌||◌, List, [], ◌∷◌, length, ℤ, pos, neg_ℤ, ◌≤ℤ◌, Some, Ok, Result, ◌==◌, int_le, nat_lt}
use Rattle.std.specs.List.{slice_get}
use Rattle.fault.specs.Refusals.{after, found, refused}
use Rattle.fault.specs.declared.fault.Cause.TheVariants.{Centre, Channels, NoChannel, Number, Order}
use Rattle.fault.specs.declared.fault.Fault.{Fault}

pub record Box : Type 0 where
  pub lower : List ℤ
  pub upper : List ℤ
  pub swept : ℕ
  pub centre : ℤ

-- the centre lies in the range of the swept channel
abbrev pub Centred : Box → Type 0
Centred b = (l u : ℤ) → slice_get b.lower b.swept ≡ Some l → slice_get b.upper b.swept ≡ Some u → (l ≤ℤ b.centre) × (b.centre ≤ℤ u)

-- a blank sheet has one channel from 0 to 0, swept about 0
abbrev pub blank_box : Box
blank_box = record { lower = pos 0 ∷ []; upper = pos 0 ∷ []; swept = 0; centre = pos 0 }

-- a count is a whole number from −1,073,741,823 to 1,073,741,823
abbrev pub is_count : ℤ → Bool
is_count n = int_le (neg_ℤ (pos 1073741823)) n && int_le n (pos 1073741823)

-- the ends of a range: counts, in order
pub record InOrder (l u : ℤ) : Type 0 where
  pub low : is_count l ≡ true
  pub high : is_count u ≡ true
  pub order : l ≤ℤ u

-- a box as open makes it: 1 to 8 channels, each with a range, and one of them swept about a centre in its range
pub record Proper (b : Box) : Type 0 where
  pub some : 0 < length b.lower
  pub few : length b.lower ≤ 8
  pub same : length b.lower ≡ length b.upper
  pub ranges : (c : ℕ) (l u : ℤ) → slice_get b.lower c ≡ Some l → slice_get b.upper c ≡ Some u → InOrder l u
  pub swept : b.swept < length b.lower
  pub centre : Centred b

-- ---- opening
abbrev pub counted : ℤ → ℕ → Result ℤ Fault
counted n place = cond (is_count n) (Ok n) (refused Number place)

-- two numbers as a range
abbrev pub ordered : ℤ → ℤ → ℕ → Result (ℤ × ℤ) Fault
ordered l u channel = cond (int_le l u) (Ok (l, u)) (refused Order channel)

-- the range of a channel
abbrev pub range : ℤ → ℤ → ℕ → Result (ℤ × ℤ) Fault
range l u channel = after (counted l channel) (λ l. after (counted u channel) (λ u. ordered l u channel))

-- the ranges of the channels from a number on, in turn
abbrev pub ranges : ℕ → List ℤ → List ℤ → Result (Unit {0}) Fault
ranges channel [] us = Ok tt
ranges channel (l ∷ ls) [] = Ok tt
ranges channel (l ∷ ls) (u ∷ us) = after (range l u channel) (λ _. ranges (suc channel) ls us)

-- a number as the centre of a range
abbrev pub inside : ℤ → ℤ → ℤ → ℕ → Result ℤ Fault
inside l u x channel = cond (int_le l x && int_le x u) (Ok x) (refused Centre channel)

-- the centre, inside the range of its channel
abbrev pub centred : ℤ → ℤ → ℤ → ℕ → Result ℤ Fault
centred l u x channel = after (counted x channel) (λ x. inside l u x channel)

abbrev pub opened : List ℤ → List ℤ → ℕ → ℤ → Result Box Fault
opened lower upper swept centre =
    cond (length lower == 0 || nat_lt 8 (length lower) || not (length lower == length upper)) (refused Channels 0)
    (after (ranges 0 lower upper) (λ _.
    after (found NoChannel swept (slice_get lower swept)) (λ l.
    after (found NoChannel swept (slice_get upper swept)) (λ u.
    after (centred l u centre swept) (λ x.
    Ok (record { lower = lower; upper = upper; swept = swept; centre = x }))))))
