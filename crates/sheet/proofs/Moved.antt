-- Moving, case by case.
use Rattle.std.proofs.Common.{◌≡◌, ℕ, ◌≤◌, Bool, true, false, cond, nat_lt, List, [], length, take, drop, ℤ, IsErrAnd, Ok, Err, Result, sym, refl, ap, ◌∙◌, subst, arith}
use Rattle.std.proofs.lemmas.Bool.{le-ltb, ltb-false}
use Rattle.std.proofs.Math.Seq.{take-append_seam}
use Rattle.std.proofs.lemmas.Result.{err_from_is_err_and}
use Rattle.boxes.specs.Boxes.{Box}
use Rattle.boxes.specs.Moving.{moved}
use Rattle.fault.proofs.Steps.{err_ok}
use Rattle.fault.specs.Refusals.{refused}
use Rattle.fault.specs.declared.fault.Cause.TheVariants.{Lines}
use Rattle.fault.specs.declared.fault.Fault.{Fault}
use Rattle.kind.specs.Model.{Model}
use Rattle.slope.specs.declared.record.Record.{Record}
use Rattle.sheet.proofs.Remaking.{remade_long}
use Rattle.sheet.specs.Contents.{Contents}
use Rattle.sheet.specs.Moving.{MovedTo, new_box, remade}
use Rattle.sheet.specs.Reading.{ends, overlaid}

module _ {K : Type 0} (s : Contents) (w p : List (Record K)) (channel : ℕ) (lower upper centre : ℤ) where
  abbrev over : Result Box Fault
  over = new_box s (length w) (length p) channel lower upper centre

  -- l, u and x are the numbers as the code has them
  pub box_found : 64 ≤ length w → 64 ≤ length p → {l u x : ℤ} → l ≡ lower → u ≡ upper → x ≡ centre → moved s.over channel l u x ≡ over
  box_found h k el eu ex = (λ i. moved s.over channel (el i) (eu i) (ex i)) ∙ sym found
    where
      found : over ≡ moved s.over channel lower upper centre
      found = rw (le-ltb (length w) 64 h, le-ltb (length p) 64 k)

  pub box_as : {l u x : ℤ} → l ≡ lower → u ≡ upper → x ≡ centre → new_box s (length w) (length p) channel l u x ≡ over
  box_as el eu ex = λ i. new_box s (length w) (length p) channel (el i) (eu i) (ex i)

  -- a new box, so enough lines were lent
  pub box_given : {b : Box} → over ≡ Ok b → (64 ≤ length w) × (64 ≤ length p)
  box_given {b} e = go (nat_lt (length w) 64) refl (nat_lt (length p) 64) refl e
    where
      go : (t : Bool) → nat_lt (length w) 64 ≡ t → (u : Bool) → nat_lt (length p) 64 ≡ u → cond t (refused Lines 0) (cond u (refused Lines 0) (moved s.over channel lower upper centre)) ≡ Ok b → (64 ≤ length w) × (64 ≤ length p)
      go true h u k q = absurd (err_ok q)
      go false h true k q = absurd (err_ok q)
      go false h false k q = (ltb-false (length w) 64 h, ltb-false (length p) 64 k)

module _ {K : Type 0} (m : Model K) (s : Contents) (w p : List (Record K)) where
  -- no new box: nothing is made
  pub not_moved : {over : Result Box Fault} {e : Fault} → over ≡ Err e → (r : Result (Unit {0}) Fault) → IsErrAnd r (λ y. y ≡ e) → MovedTo m over s w p r s w p
  not_moved {over} {e} q r h = let i = err_from_is_err_and r h in subst (λ r. MovedTo m over s w p r s w p) (sym (i.1 ∙ ap Err i.2)) (subst (λ o. MovedTo m o s w p (Err e) s w p) (sym q) (record { answer = refl; sheet = refl; working = refl; spare = refl }))

  -- the new records are first in the spare lines, and then in the working lines
  pub moved_to : (b : Box) {s' : Contents} {w' p' : List (Record K)} {r : Result (Unit {0}) Fault} → r ≡ Ok tt → r ≡ (remade m b s.lines [] []).answer → p' ≡ overlaid (remade m b s.lines [] []).records p
      → w' ≡ overlaid (take (length s.lines) p') w → s' ≡ record { over = b; lines = s.lines } → MovedTo m (Ok b) s w p (Ok tt) s' w' p'
  moved_to b {w' = w'} {p' = p'} {r = r} ok e ep ew es = record { answer = sym ok ∙ e; sheet = es; working = ew ∙ ap (λ rs. overlaid rs w) front; spare = ep }
    where
      long : length (remade m b s.lines [] []).records ≡ length s.lines
      long = let k = remade_long m b s.lines [] (remade m b s.lines [] []).lines [] (remade m b s.lines [] []).records (ap (λ a. ends a (remade m b s.lines [] []).lines (remade m b s.lines [] []).records) (sym e ∙ ok)) in omega arith

      front : take (length s.lines) p' ≡ (remade m b s.lines [] []).records
      front = ap (λ n. take n p') (sym long) ∙ ap (take (length (remade m b s.lines [] []).records)) ep ∙ take-append_seam (remade m b s.lines [] []).records (drop (length (remade m b s.lines [] []).records) p)
