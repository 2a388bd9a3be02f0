-- Boxes of ends that need not be counts.
use Rattle.std.specs.Prelude.{◌≡◌, ℕ, suc, ◌<◌, ◌≤◌, cond, not, ◌||◌, List, [], ◌∷◌, length, ℤ, ◌≤ℤ◌, Some, Ok, Result, ◌==◌, nat_lt}
use Rattle.std.specs.List.{slice_get}
use Rattle.fault.specs.Refusals.{after, found, refused}
use Rattle.fault.specs.declared.fault.Cause.TheVariants.{Channels, NoChannel}
use Rattle.fault.specs.declared.fault.Fault.{Fault}
use Rattle.boxes.specs.Boxes.{Box, Centred, inside, ordered}

-- the box that is asked for by lists of ends
abbrev pub asked : List ℤ → List ℤ → ℕ → ℤ → Box
asked lower upper swept centre = record { lower = lower; upper = upper; swept = swept; centre = centre }

-- a box with the ends of each channel in order: as Proper, but for the size of the numbers
pub record Rising (b : Box) : Type 0 where
  pub some : 0 < length b.lower
  pub few : length b.lower ≤ 8
  pub same : length b.lower ≡ length b.upper
  pub ranges : (c : ℕ) (l u : ℤ) → slice_get b.lower c ≡ Some l → slice_get b.upper c ≡ Some u → l ≤ℤ u
  pub swept : b.swept < length b.lower
  pub centre : Centred b

-- the ends of the channels from a number on, in turn
abbrev pub orders : ℕ → List ℤ → List ℤ → Result (Unit {0}) Fault
orders channel [] us = Ok tt
orders channel (l ∷ ls) [] = Ok tt
orders channel (l ∷ ls) (u ∷ us) = after (ordered l u channel) (λ _. orders (suc channel) ls us)

abbrev pub of_ends : List ℤ → List ℤ → ℕ → ℤ → Result Box Fault
of_ends lower upper swept centre =
    cond (length lower == 0 || nat_lt 8 (length lower) || not (length lower == length upper)) (refused Channels 0)
    (after (orders 0 lower upper) (λ _.
    after (found NoChannel swept (slice_get lower swept)) (λ l.
    after (found NoChannel swept (slice_get upper swept)) (λ u.
    after (inside l u centre swept) (λ x.
    Ok (asked lower upper swept x))))))
