-- The counts of the channels' ends.
use Rattle.std.specs.Prelude.{ℕ, List, [], ◌∷◌, ◌++◌, ℤ, Ok, Result}
use Rattle.script.specs.declared.counts.Counts.{Counts}
use Rattle.script.specs.Numbers.{number_of}
use Rattle.script.specs.Slips.{Fault, after}

-- the lower and the upper ends of the channels
pub record Ends : Type 0 where
  pub lower : List ℤ
  pub upper : List ℤ

abbrev pub ends_of : Counts → Ends
ends_of counts = record { lower = counts.lower.items; upper = counts.upper.items }

-- the numbers of words, behind ends that are known: a lower and an upper end in turn; a last lower end may stand alone
abbrev pub pairs_of : List (List ℕ) → List ℤ → List ℤ → Result Ends Fault
pairs_of [] lower upper = Ok (record { lower = lower; upper = upper })
pairs_of (low ∷ []) lower upper = after (number_of low) (λ l. Ok (record { lower = lower ++ l ∷ []; upper = upper }))
pairs_of (low ∷ up ∷ words) lower upper = after (number_of low) (λ l. after (number_of up) (λ u. pairs_of words (lower ++ l ∷ []) (upper ++ u ∷ [])))
