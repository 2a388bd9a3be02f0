-- Reporting, case by case.
use Rattle.std.proofs.Common.{◌≡◌, ℕ, ◌≤◌, Bool, true, false, cond, nat_lt, List, length, take, Ok, Option, Result, sym, refl, subst, arith, length-take-le}
use Rattle.std.proofs.lemmas.Option.{slice_get_past}
use Rattle.std.proofs.lemmas.Bool.{ltb-false, ltb-true}
use Rattle.std.specs.List.{slice_get}
use Rattle.fault.specs.Refusals.{after, found, refused}
use Rattle.fault.specs.declared.fault.Cause.TheVariants.{Lines, NoLine}
use Rattle.fault.specs.declared.fault.Fault.{Fault}
use Rattle.kind.specs.Model.{Model}
use Rattle.report.specs.Reports.{reported}
use Rattle.report.specs.declared.answer.Report.{Report}
use Rattle.rule.proofs.Places.{nth_some}
use Rattle.slope.specs.declared.record.Record.{Record}
use Rattle.sheet.specs.Calls.{Answered, report, reportable}
use Rattle.sheet.specs.Contents.{Contents}

module _ {K : Type 0} (m : Model K) (s : Contents) (w : List (Record K)) (line : ℕ) where
  abbrev earlier : List (Record K)
  earlier = take (length s.lines) w

  abbrev by_record : Option (Record K) → Result Report Fault
  by_record o = after (found NoLine line o) (λ r. Ok (reported m s.over r))

  abbrev Found : Result (Unit {0}) Fault → Option (Record K) → Type 0
  Found v o = Answered v (by_record o)

  -- it is refused for its number alone
  pub answered : length s.lines ≤ 64 → {r : Result Report Fault} → r ≡ report m s (length w) earlier line → Answered (reportable s (length w) line) r
  answered few e = subst (Answered (reportable s (length w) line)) (sym e) (lent (nat_lt (length w) 64) refl)
    where
      held : (b : Bool) → 64 ≤ length w → nat_lt line (length s.lines) ≡ b → Found (cond b (Ok tt) (refused NoLine line)) (slice_get earlier line)
      held true h e = let n = ltb-true line (length s.lines) e in let l = length-take-le (length s.lines) w (omega arith) in let x = nth_some earlier line (omega (arith, l, n)) in subst (Found (Ok tt)) (sym x.1) refl
      held false h e = let n = ltb-false line (length s.lines) e in let l = length-take-le (length s.lines) w (omega arith) in subst (Found (refused NoLine line)) (sym (slice_get_past earlier line (omega (arith, l, n)))) refl

      lent : (b : Bool) → nat_lt (length w) 64 ≡ b → Answered (cond b (refused Lines 0) (cond (nat_lt line (length s.lines)) (Ok tt) (refused NoLine line))) (cond b (refused Lines 0) (by_record (slice_get earlier line)))
      lent true e = refl
      lent false e = held (nat_lt line (length s.lines)) (ltb-false (length w) 64 e) refl
