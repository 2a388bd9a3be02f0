-- What add makes of a line, case by case.
use Rattle.std.proofs.Common.{◌≡◌, ℕ, ◌==◌, ◌≤◌, Bool, true, false, cond, nat_lt, List, length, take, refl, subst, arith, length-take-le}
use Rattle.std.proofs.lemmas.Bool.{ltb-false}
use Rattle.fault.specs.Refusals.{refused}
use Rattle.fault.specs.declared.fault.Cause.TheVariants.{Full, Lines}
use Rattle.kind.specs.Model.{Model}
use Rattle.line.specs.declared.line.Line.{Line}
use Rattle.rule.proofs.Fits.{fit_judges}
use Rattle.rule.specs.Fit.{Judged, fit}
use Rattle.rule.specs.Rule.{rule}
use Rattle.slope.specs.declared.record.Record.{Record}
use Rattle.sheet.specs.Calls.{Makes, addable, next}
use Rattle.sheet.specs.Contents.{Contents}

module _ {K : Type 0} (m : Model K) (s : Contents) (w : List (Record K)) (line : Line) where
  abbrev n : ℕ
  n = length s.lines

  abbrev earlier : List (Record K)
  earlier = take n w

  -- a line that can be added is refused by its records alone
  judged : n ≤ 64 → Judged n (addable s (length w) line) (next m s (length w) earlier line)
  judged few = lent (nat_lt (length w) 64) refl
    where
      full : 64 ≤ length w → (b : Bool) → Judged n (cond b (refused Full 64) (fit s.over n line)) (cond b (refused Full 64) (rule m s.over earlier line))
      full h true = refl
      full h false = subst (λ k. Judged k (fit s.over k line) (rule m s.over earlier line)) (length-take-le n w (omega arith)) (fit_judges m s.over earlier line)

      lent : (b : Bool) → nat_lt (length w) 64 ≡ b → Judged n (cond b (refused Lines 0) (cond (n == 64) (refused Full 64) (fit s.over n line)))
          (cond b (refused Lines 0) (cond (n == 64) (refused Full 64) (rule m s.over earlier line)))
      lent true e = refl
      lent false e = full (ltb-false (length w) 64 e) (n == 64)

  pub makes : n ≤ 64 → Makes m s w line (next m s (length w) earlier line)
  makes few = record { judged = judged few; ruled = λ _. refl }
