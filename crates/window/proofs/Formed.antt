-- Opening a box and reading a formula onto it.
use Rattle.std.proofs.Common.{◌≡◌, ℕ, Bool, true, false, cond, nat_lt, List, [], length, Ok, Err, Result, sym, refl, ap, ap₂, ◌∙◌}
use Rattle.boxes.specs.Boxes.{Box}
use Rattle.fault.proofs.Steps.{err_ok}
use Rattle.fault.specs.Refusals.{refused}
use Rattle.fault.specs.declared.fault.Cause.TheVariants.{Lines}
use Rattle.fault.specs.declared.fault.Fault.{Fault}
use Rattle.kind.specs.Model.{Model}
use Rattle.runs.specs.Law.{sheet_of}
use Rattle.rule.specs.Placed.{accepts}
use Rattle.sheet.specs.Calls.{reopened}
use Rattle.sheet.specs.Contents.{Contents}
use Rattle.sheet.specs.Reading.{Read, ends, filled, goes_on, overlaid, read_formula, read_onto}
use Rattle.slope.specs.declared.record.Record.{Record}
use Rattle.window.specs.Windows.{Leaves, at_step, formed, read_over}
use Rattle.window.specs.declared.refused.Refused.{Refused}
use Rattle.window.specs.declared.refused.Step.TheVariants as steps

module _ {K : Type 0} (m : Model K) where
  -- onto an empty sheet
  onto_empty : (b : Box) (lent : ℕ) (bytes : List ℕ) → read_onto m (sheet_of b []) lent bytes ≡ read_over m b lent bytes
  onto_empty b lent bytes = go (nat_lt lent 64)
    where
      go : (t : Bool) → cond t (ends (refused Lines 0) [] []) (read_formula m b bytes) ≡ goes_on (cond t (refused Lines 0) (Ok (tt {0}))) [] [] (λ _. read_formula m b bytes)
      go true = refl
      go false = refl

  module _ (bytes : List ℕ) (s : Contents) (w : List (Record K)) where
    pub record Formed (box : Result Box Fault) (r : Result (Unit {0}) Refused) (s' : Contents) (w' : List (Record K)) : Type 0 where
      pub answer_is : r ≡ formed m box (length w) bytes
      pub left : Leaves m box bytes s w s' w'

    -- the box was refused, or taken; x is what the first call said of the window
    module _ {r : Result (Unit {0}) Fault} {x : Result (Unit {0}) Refused} {s1 : Contents} {w1 : List (Record K)} where
      pub not_opened : (box : Result Box Fault) → r ≡ accepts box → s1 ≡ reopened s box → w1 ≡ w → x ≡ at_step steps.Open r Ok → {e : Refused} → x ≡ Err e → Formed box (Err e) s1 w1
      not_opened (Ok b) er es ew ex ee = absurd (err_ok (sym ee ∙ ex ∙ ap (λ r. at_step steps.Open r Ok) er))
      not_opened (Err f) er es ew ex ee = record { answer_is = sym ee ∙ ex ∙ ap (λ r. at_step steps.Open r Ok) er; left = record { sheet = es; working = ew } }

      pub opened_on : (box : Result Box Fault) → r ≡ accepts box → s1 ≡ reopened s box → w1 ≡ w → x ≡ at_step steps.Open r Ok → x ≡ Ok tt
          → {r' : Result (Unit {0}) Fault} {s' : Contents} {w' : List (Record K)} → Read m bytes s1 w1 r' s' w' → {y : Result (Unit {0}) Refused} → y ≡ at_step steps.Read r' Ok → Formed box y s' w'
      opened_on (Err f) er es ew ex ee h ey = absurd (err_ok (sym (sym ee ∙ ex ∙ ap (λ r. at_step steps.Open r Ok) er)))
      opened_on (Ok b) er es ew ex ee h ey =
          let q = ap₂ (λ s w. read_onto m s (length w) bytes) es ew ∙ onto_empty b (length w) bytes in
          let a = h.answer ∙ ap (λ o. o.answer) q in
          record {
            answer_is = ey ∙ ap (λ r. at_step steps.Read r Ok) a;
            left = record {
              sheet = h.sheet ∙ ap (λ r. filled s1 r (read_onto m s1 (length w1) bytes).lines) h.answer ∙ ap₂ (λ s o. filled s o.answer o.lines) es q;
              working = h.records ∙ ap₂ (λ o w. overlaid o.records w) q ew;
            };
          }
