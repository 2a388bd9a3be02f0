-- What it is for a record to tell the truth at one point: h is the distance, the swept value minus the centre; u is the exact
-- value at the point, and u0 the one at its centre point.
use Rattle.std.specs.Prelude.{◌≡◌, Some, None, Ok, Err, Option, Result}
use Rattle.exact.specs.Fraction.{Frac, ◌*F◌, ◌≈◌}
use Rattle.fault.specs.declared.fault.Fault.{Fault}
use Rattle.kind.specs.Model.{Model}
use Rattle.span.specs.Narrowest.{Held, Within, interval}
use Rattle.span.specs.declared.span.Span.{Span}
use Rattle.truth.specs.Curve.{branch_F}
use Rattle.truth.specs.Truth.{Sloped}
use Rattle.slope.specs.declared.record.Record.{Record}
use Rattle.slope.specs.declared.record.Slopes.{Slopes}

module _ {K : Type 0} (m : Model K) where
  -- slopes that are absent say nothing
  abbrev pub Sloped? : Frac → Frac → Frac → Option (Slopes K) → Type 0
  Sloped? h u u0 None = Unit {0}
  Sloped? h u u0 (Some s) = Sloped (interval m s.a) (interval m s.b) (interval m s.c) h u u0

  pub record True (r : Record K) (h u u0 : Frac) : Type 0 where
    -- u lies in U, u0 in U0, and U0 in U
    pub here : Held m r.u u
    pub centre : Held m r.u0 u0
    pub nested : Within m r.u0 r.u
    -- both slope forms hold
    pub slopes : Sloped? h u u0 r.slopes

  -- a record that was made is true, and one was refused only where the span U of the result is absent
  abbrev pub Told : Option (Span K) → Frac → Frac → Frac → Result (Record K) Fault → Type 0
  Told U h u u0 (Ok r) = True r h u u0
  Told U h u u0 (Err e) = U ≡ None

  -- what an operation f makes of two true records
  abbrev pub Kept : (Frac → Frac → Frac) → Option (Span K) → Record K → Record K → Result (Record K) Fault → Type 0
  Kept f U p q r = (h u u0 v v0 : Frac) → True p h u u0 → True q h v v0 → Told U h (f u v) (f u0 v0) r

  abbrev pub Chosen : (Frac → Frac → Frac) → Record K → Record K → Record K → Type 0
  Chosen f p q r = (h u u0 v v0 : Frac) → True p h u u0 → True q h v v0 → True r h (f u v) (f u0 v0)

  -- w = u / v and w0 = u0 / v0
  abbrev pub Divided : Option (Span K) → Record K → Record K → Result (Record K) Fault → Type 0
  Divided U p q r = (h u u0 v v0 w w0 : Frac) → (w *F v) ≈ u → (w0 *F v0) ≈ u0 → True p h u u0 → True q h v v0 → Told U h w w0 r

  abbrev pub Branched : Record K → Record K → Record K → Record K → Type 0
  Branched s q r x = (h a a0 u u0 v v0 : Frac) → True s h a a0 → True q h u u0 → True r h v v0 → True x h (branch_F a u v) (branch_F a0 u0 v0)
