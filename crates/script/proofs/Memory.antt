-- Readings that may end for want of memory.
use Rattle.std.proofs.Common.{◌≡◌, Ok, Err, Result, ap, inl, inr}
use Rattle.script.specs.Readings.{Reading, ReadsOrNoMemory}
use Rattle.script.specs.Slips.{Fault, no_memory}
use Rattle.script.specs.Words.{Place}

-- what was read is what is meant
pub sure : {T : Type 0} (x : T) (at : Place) (meant : Reading T) → ReadsOrNoMemory (record { answer = Ok x; at = at }) meant → record { answer = Ok x; at = at } ≡ meant
sure x at meant (inl e) = e
sure x at meant (inr e) = cc

same_fault : {T : Type 0} (f g : Fault) → ◌≡◌ {A = Result T Fault} (Err f) (Err g) → f ≡ g
same_fault f g e = cc

-- a fault of a step is a fault of the whole
pub lift : {T U : Type 0} (f : Fault) (at : Place) (step : Reading T) (whole : Reading U) → ReadsOrNoMemory (record { answer = Err f; at = at }) step → (record { answer = Err f; at = at } ≡ step → record { answer = Err f; at = at } ≡ whole) → ReadsOrNoMemory (record { answer = Err f; at = at }) whole
lift f at step whole (inl e) k = inl (k e)
lift f at step whole (inr e) k = inr (ap Err (same_fault f no_memory e))
