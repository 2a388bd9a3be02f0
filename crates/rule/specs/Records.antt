-- The records that the rules give to lines over a box, and their truth.
use Rattle.std.specs.Prelude.{◌≡◌, ℕ, List, [], ◌∷◌, ◌++◌, Some, Ok, Result}
use Rattle.std.specs.List.{slice_get}
use Rattle.boxes.specs.Boxes.{Box, Centred}
use Rattle.exact.specs.Fraction.{Frac}
use Rattle.fault.specs.Refusals.{after}
use Rattle.fault.specs.declared.fault.Fault.{Fault}
use Rattle.kind.specs.Model.{Model}
use Rattle.line.specs.declared.line.Line.{Line}
use Rattle.slope.specs.Truth.{True}
use Rattle.slope.specs.declared.record.Record.{Record}
use Rattle.rule.specs.Exact.{InBox, Point, centred, distance, value_of}
use Rattle.rule.specs.Rule.{rule}

module _ {K : Type 0} (m : Model K) where
  -- each line's record by those before it, or the first refusal
  abbrev pub records_from : Box → List (Record K) → List Line → Result (List (Record K)) Fault
  records_from b rs [] = Ok rs
  records_from b rs (l ∷ ls) = after (rule m b rs l) (λ r. records_from b (rs ++ r ∷ []) ls)

  abbrev pub records : Box → List Line → Result (List (Record K)) Fault
  records b ls = records_from b [] ls

  -- line i has exact values at a point and at its centre point, and r tells the truth about them
  pub record Tells (b : Box) (p : Point) (ls : List Line) (i : ℕ) (r : Record K) : Type 0 where
    pub u : Frac
    pub u0 : Frac
    pub here : value_of p ls i ≡ Some u
    pub centre : value_of (centred b p) ls i ≡ Some u0
    pub told : True m r (distance b p) u u0

  -- if each line has the record that the rules give it over a box, each tells the truth at every point of it
  abbrev pub RecordsTrue : Type 0
  RecordsTrue = (b : Box) → Centred b → (ls : List Line) (rs : List (Record K)) → records b ls ≡ Ok rs
      → (p : Point) → InBox b p → (i : ℕ) (r : Record K) → slice_get rs i ≡ Some r → Tells b p ls i r
