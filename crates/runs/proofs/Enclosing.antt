-- The records in the memory tell the truth, and a report that is due encloses.
use Rattle.std.proofs.Common.{◌≡◌, ℕ, zero, suc, ◌<◌, Bool, true, false, cond, nat_lt, List, [], ◌∷◌, length, take, Some, Ok, Err, Result, sym, ap, ◌∙◌, subst, arith}
use Rattle.std.specs.List.{slice_get}
use Rattle.boxes.specs.Boxes.{Box}
use Rattle.fault.proofs.Steps.{after_ok, err_ok, found_ok, none_some, ok_is}
use Rattle.fault.specs.Refusals.{after, found, refused}
use Rattle.fault.specs.declared.fault.Cause.TheVariants.{Lines, NoLine}
use Rattle.fault.specs.declared.fault.Fault.{Fault}
use Rattle.kind.specs.Model.{Model, Rules}
use Rattle.line.specs.declared.line.Line.{Line}
use Rattle.report.proofs.Margins.{covered}
use Rattle.report.specs.Near.{Near}
use Rattle.report.specs.Reports.{reported}
use Rattle.report.specs.declared.answer.Report.{Report}
use Rattle.rule.proofs.AllTrue.{records_true}
use Rattle.rule.proofs.Places.{nth_some}
use Rattle.rule.specs.Exact.{InBox, Point}
use Rattle.rule.specs.Records.{records}
use Rattle.runs.proofs.Good.{Good}
use Rattle.runs.proofs.Lists.{lengths}
use Rattle.runs.specs.Events.{Event}
use Rattle.runs.specs.Law.{Encloses, TellsAt, due, sheet_of}
use Rattle.runs.specs.Runs.{handed}
use Rattle.runs.specs.declared.call.Answer.TheVariants as answers
use Rattle.sheet.specs.Calls.{report}
use Rattle.slope.specs.declared.record.Record.{Record}

-- what stands among the first n stands there in the whole list
nth_first : {X : Type 0} (n : ℕ) (xs : List X) (i : ℕ) (x : X) → slice_get (take n xs) i ≡ Some x → slice_get xs i ≡ Some x
nth_first zero xs i x e = absurd (none_some e)
nth_first (suc n) [] i x e = absurd (none_some e)
nth_first (suc n) (y ∷ xs) zero x e = e
nth_first (suc n) (y ∷ xs) (suc i) x e = nth_first n xs i x e

-- a report that is handed back was made
handed_ok : (v : Result Report Fault) (r : Report) → handed answers.Report v ≡ Ok (answers.Report r) → v ≡ Ok r
handed_ok (Ok x) r e = cc
handed_ok (Err d) r e = absurd (err_ok e)

module _ {K : Type 0} (m : Model K) where
  -- an answered report is that of the line's record
  report_ok : (b : Box) (ls : List Line) (lent : ℕ) (rs : List (Record K)) (line : ℕ) (r : Report) → report m (sheet_of b ls) lent rs line ≡ Ok r → (x : Record K) × (slice_get rs line ≡ Some x) × (reported m b x ≡ r)
  report_ok b ls lent rs line r e = go (nat_lt lent 64) e
    where
      go : (t : Bool) → cond t (refused Lines 0) (after (found NoLine line (slice_get rs line)) (λ x. Ok (reported m b x))) ≡ Ok r → (x : Record K) × (slice_get rs line ≡ Some x) × (reported m b x ≡ r)
      go true q = absurd (err_ok q)
      go false q = after_ok _ (found NoLine line (slice_get rs line)) _ r q (λ x ex k. (x, found_ok NoLine line (slice_get rs line) x ex, ok_is k))

  pub tells_is : (keeps : Rules m) (b : Box) (ls : List Line) (memory : List (Record K)) → Good m b ls memory → (p : Point) → InBox b p → (i : ℕ) → i < length ls → TellsAt m (sheet_of b ls) memory p i
  tells_is keeps b ls memory g p at i h =
      let rs = take (length ls) memory in
      let n = lengths m b [] ls rs g.ruled in
      let k = nth_some rs i (omega arith) in
      (k.0, nth_first (length ls) memory i k.0 k.1, records_true m keeps b g.proper.centre ls rs g.ruled p at i k.0 k.1)

  pub encloses_is : (keeps : Rules m) (b : Box) (ls : List Line) (memory : List (Record K)) (e : Event) → Good m b ls memory → e.answer ≡ due m b ls e e.call → Encloses b ls e
  encloses_is keeps b ls memory e g d line r ec ea p at =
      after_ok _ (records m b ls) _ (answers.Report r) (sym (ap (due m b ls e) ec) ∙ sym d ∙ ea) (λ rs er q.
      let k = report_ok b ls e.working rs line r (handed_ok _ r q) in
      let t = records_true m keeps b g.proper.centre ls rs er p at line k.0 k.1 in
      (t.u, t.here, subst (λ a. Near a t.u) k.2 (covered m keeps b k.0 (p b.swept) t.u t.u0 (at b.swept) t.told)))
