-- Moving a channel: the records of all lines are made anew over the new box, first in the spare lines.
use Rattle.std.specs.Prelude.{◌≡◌, ℕ, cond, List, [], ◌∷◌, ◌++◌, ℤ, length, Ok, Err, Result, nat_lt}
use Rattle.boxes.specs.Boxes.{Box}
use Rattle.boxes.specs.Moving.{moved}
use Rattle.fault.specs.Refusals.{refused}
use Rattle.fault.specs.declared.fault.Cause.TheVariants.{Lines}
use Rattle.fault.specs.declared.fault.Fault.{Fault}
use Rattle.kind.specs.Model.{Model}
use Rattle.line.specs.declared.line.Line.{Line}
use Rattle.rule.specs.Rule.{rule}
use Rattle.slope.specs.declared.record.Record.{Record}
use Rattle.sheet.specs.Contents.{Contents}
use Rattle.sheet.specs.Reading.{Outcome, ends, goes_on, overlaid}

-- the new box, if enough working and spare lines are lent
abbrev pub new_box : Contents → ℕ → ℕ → ℕ → ℤ → ℤ → ℤ → Result Box Fault
new_box s lent spare channel lower upper centre =
    cond (nat_lt lent 64) (refused Lines 0)
    (cond (nat_lt spare 64) (refused Lines 0)
    (moved s.over channel lower upper centre))

-- the sheet afterwards
abbrev pub shifted : Contents → Result Box Fault → Result (Unit {0}) Fault → Contents
shifted s (Ok b) (Ok _) = record { over = b; lines = s.lines }
shifted s over r = s

module _ {K : Type 0} where
  -- an accepted move leaves the new records in the working lines too
  abbrev pub renewed : Result (Unit {0}) Fault → List (Record K) → List (Record K) → List (Record K)
  renewed (Ok _) rs w = overlaid rs w
  renewed (Err e) rs w = w

module _ {K : Type 0} (m : Model K) where
  -- the record of each line by those before it, behind the lines that were done; a refusal ends the work
  abbrev pub remade : Box → List Line → List Line → List (Record K) → Outcome K
  remade b [] done rs = ends (Ok tt) done rs
  remade b (l ∷ ls) done rs = goes_on (rule m b rs l) done rs (λ r. remade b ls (done ++ l ∷ []) (rs ++ r ∷ []))

  -- what is made over the new box, if there is one
  abbrev pub move_onto : Contents → Result Box Fault → Outcome K
  move_onto s over = goes_on over [] [] (λ b. remade b s.lines [] [])

  -- a move to this box, or to none
  pub record MovedTo (over : Result Box Fault) (s : Contents) (w p : List (Record K)) (r : Result (Unit {0}) Fault) (s' : Contents) (w' p' : List (Record K)) : Type 0 where
    pub answer : r ≡ (move_onto s over).answer
    pub sheet : s' ≡ shifted s over r
    pub working : w' ≡ renewed r (move_onto s over).records w
    pub spare : p' ≡ overlaid (move_onto s over).records p

  abbrev pub Moved : ℕ → ℤ → ℤ → ℤ → Contents → List (Record K) → List (Record K) → Result (Unit {0}) Fault → Contents → List (Record K) → List (Record K) → Type 0
  Moved channel lower upper centre s w p = MovedTo (new_box s (length w) (length p) channel lower upper centre) s w p
