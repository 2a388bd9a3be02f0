-- Calls with their numbers as the code has them.
use Rattle.std.proofs.Common.{◌≡◌, ℕ, List, ℤ, Result, subst}
use Rattle.fault.specs.declared.fault.Fault.{Fault}
use Rattle.kind.specs.Model.{Model}
use Rattle.sheet.specs.Calls.{Opened}
use Rattle.sheet.specs.Contents.{Contents}
use Rattle.sheet.specs.Moving.{Moved}
use Rattle.slope.specs.declared.record.Record.{Record}

pub opened_as : {lower upper : List ℤ} {swept : ℕ} {x centre : ℤ} → x ≡ centre → {s s' : Contents} {r : Result (Unit {0}) Fault} → Opened lower upper swept x s r s' → Opened lower upper swept centre s r s'
opened_as {lower} {upper} {swept} e {s} {s'} {r} h = subst (λ x. Opened lower upper swept x s r s') e h

pub moved_as : {K : Type 0} (m : Model K) (channel : ℕ) {l lower u upper x centre : ℤ} → l ≡ lower → u ≡ upper → x ≡ centre → {s s' : Contents} {w w' p p' : List (Record K)} {r : Result (Unit {0}) Fault}
    → Moved m channel l u x s w p r s' w' p' → Moved m channel lower upper centre s w p r s' w' p'
moved_as m channel {l} {lower} {u} {upper} {x} {centre} el eu ex {s} {s'} {w} {w'} {p} {p'} {r} h =
    subst (λ l. Moved m channel l upper centre s w p r s' w' p') el (subst (λ u. Moved m channel l u centre s w p r s' w' p') eu (subst (λ x. Moved m channel l u x s w p r s' w' p') ex h))
