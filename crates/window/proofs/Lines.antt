-- Reporting a line of the formula that was read.
use Rattle.std.proofs.Common.{◌≡◌, ℕ, ◌≤◌, Bool, true, false, cond, nat_lt, List, [], length, take, drop, IsErrAnd, Ok, Err, Result, sym, refl, ap, ap₂, ◌∙◌, subst, arith, length-append, length-drop}
use Rattle.std.proofs.Math.Seq.{take-append_seam}
use Rattle.std.proofs.lemmas.Bool.{ltb-false}
use Rattle.std.proofs.lemmas.Result.{err_from_is_err_and}
use Rattle.boxes.specs.Boxes.{Box}
use Rattle.fault.proofs.Steps.{err_is, err_ok}
use Rattle.fault.specs.Refusals.{refused}
use Rattle.fault.specs.declared.fault.Cause.TheVariants.{Lines}
use Rattle.fault.specs.declared.fault.Fault.{Fault}
use Rattle.kind.specs.Model.{Model}
use Rattle.line.specs.declared.line.Line.{Line}
use Rattle.report.specs.declared.answer.Report.{Report}
use Rattle.rule.specs.Records.{records}
use Rattle.runs.proofs.Inverse.{formula_ok}
use Rattle.runs.proofs.Lists.{lengths}
use Rattle.runs.specs.Law.{sheet_of}
use Rattle.sheet.specs.Calls.{Recorded, report}
use Rattle.sheet.specs.Contents.{Contents}
use Rattle.sheet.specs.Reading.{Outcome, filled, goes_on, overlaid, read_formula}
use Rattle.slope.specs.declared.record.Record.{Record}
use Rattle.window.specs.Windows.{Leaves, at_step, chosen, formed, read_over}
use Rattle.window.specs.declared.refused.Refused.{Refused}
use Rattle.window.specs.declared.refused.Step.TheVariants as steps

-- what a refused step returns
pub exit : {X : Type 0} (r : Result X Refused) {e : Refused} {F : Result X Refused} → IsErrAnd r (λ y. y ≡ e) → Err e ≡ F → r ≡ F
exit r b q = let p = err_from_is_err_and r b in p.1 ∙ ap Err p.2 ∙ q

-- an accepted read
ok_step : (a : Result (Unit {0}) Fault) → at_step steps.Read a Ok ≡ Ok tt → a ≡ Ok tt
ok_step (Ok u) e = refl
ok_step (Err f) e = absurd (err_ok e)

module _ {K : Type 0} (m : Model K) where
  -- the lines that were read have their records, and enough were lent
  record Whole (b : Box) (lent : ℕ) (o : Outcome K) : Type 0 where
    made : records m b o.lines ≡ Ok o.records
    few : length o.lines ≤ 64
    room : 64 ≤ lent

  -- whether too few are lent
  abbrev read_by : Box → List ℕ → Bool → Outcome K
  read_by b bytes few = goes_on (cond few (refused Lines 0) (Ok (tt {0}))) [] [] (λ _. read_formula m b bytes)

  whole : (b : Box) (lent : ℕ) (bytes : List ℕ) → (read_over m b lent bytes).answer ≡ Ok tt → Whole b lent (read_over m b lent bytes)
  whole b lent bytes e = go (nat_lt lent 64) refl e
    where
      go : (t : Bool) → nat_lt lent 64 ≡ t → (read_by b bytes t).answer ≡ Ok (tt {0}) → Whole b lent (read_by b bytes t)
      go true h q = absurd (err_ok q)
      go false h q = let k = formula_ok m b bytes q in record { made = k.1; few = k.2; room = ltb-false lent 64 h }

  module _ (box : Result Box Fault) (bytes : List ℕ) (which : List Line → ℕ) where
    pub not_formed : (lent : ℕ) {x : Result (Unit {0}) Refused} {e : Refused} → x ≡ formed m box lent bytes → x ≡ Err e → Err e ≡ chosen m box lent bytes which
    not_formed lent {x} {e} ex ee = go box (sym ex ∙ ee)
      where
        read : (b : Box) (a : Result (Unit {0}) Fault) (f : Unit {0} → Result Report Refused) → at_step steps.Read a Ok ≡ Err e → Err e ≡ at_step steps.Read a f
        read b (Ok u) f q = absurd (err_ok (sym q))
        read b (Err f) g q = ap Err (sym (err_is q))

        go : (box : Result Box Fault) → formed m box lent bytes ≡ Err e → Err e ≡ chosen m box lent bytes which
        go (Err f) q = ap Err (sym (err_is q))
        go (Ok b) q = read b (read_over m b lent bytes).answer _ q

    -- the sheet and the working lines as the formula left them; y is what the report said of the window
    module _ {s s1 : Contents} {w w1 : List (Record K)} {n : ℕ} {y : Result Report Refused} where
      pub line_is : Leaves m box bytes s w s1 w1 → {x : Result (Unit {0}) Refused} → x ≡ formed m box (length w) bytes → x ≡ Ok tt → n ≡ which s1.lines
          → (Recorded m s1 w1 → y ≡ at_step steps.Report (report m s1 (length w1) (take (length s1.lines) w1) n) Ok) → y ≡ chosen m box (length w) bytes which
      line_is left ex ee en told = go box (sym ex ∙ ee) left
        where
          go : (box : Result Box Fault) → formed m box (length w) bytes ≡ Ok tt → Leaves m box bytes s w s1 w1 → y ≡ chosen m box (length w) bytes which
          go (Err f) q left = absurd (err_ok q)
          go (Ok b) q left =
              let o = read_over m b (length w) bytes in
              let ok = ok_step o.answer q in
              let h = whole b (length w) bytes ok in
              let es : s1 ≡ sheet_of b o.lines = left.sheet ∙ ap (λ a. filled (sheet_of b []) a o.lines) ok in
              let size : length o.records ≡ length o.lines = (let k = lengths m b [] o.lines o.records h.made in omega arith) in
              let front : take (length o.lines) w1 ≡ o.records = ap (take (length o.lines)) left.working ∙ subst (λ k. take k (overlaid o.records w) ≡ o.records) size (take-append_seam o.records (drop (length o.records) w)) in
              let long : length w1 ≡ length w = ap length left.working ∙ (let a = length-append o.records (drop (length o.records) w) in let d = length-drop (length o.records) w in let f = h.few in let r = h.room in omega arith) in
              let there = subst (λ s. Recorded m s w1 → y ≡ at_step steps.Report (report m s (length w1) (take (length s.lines) w1) n) Ok) es told in
              there (h.made ∙ ap Ok (sym front))
              ∙ ap (λ k. at_step steps.Report (report m (sheet_of b o.lines) k (take (length o.lines) w1) n) Ok) long
              ∙ ap₂ (λ rs k. at_step steps.Report (report m (sheet_of b o.lines) (length w) rs k) Ok) front (en ∙ ap (λ s. which s.lines) es)
              ∙ sym (ap (λ a. at_step steps.Read a (λ _. at_step steps.Report (report m (sheet_of b o.lines) (length w) o.records (which o.lines)) Ok)) ok)
