-- A rule refuses a line that is not fit for just that, and any other by its records alone.
use Rattle.std.proofs.Common.{◌≡◌, ℕ, Bool, true, false, cond, eqb, ltb, List, [], ◌∷◌, length, ℤ, Some, None, Ok, Err, Option, Result, sym, refl, ap, subst, inl, inr}
use Rattle.std.proofs.lemmas.Option.{slice_get_past}
use Rattle.std.proofs.lemmas.Bool.{ltb-false, ltb-true}
use Rattle.std.specs.List.{slice_get}
use Rattle.boxes.specs.Boxes.{Box, is_count}
use Rattle.fault.specs.Refusals.{after, found, refused}
use Rattle.fault.specs.declared.fault.Cause.TheVariants.{Divisor, NoChannel, Number, Operand}
use Rattle.fault.specs.declared.fault.Fault.{Fault}
use Rattle.kind.specs.Model.{Model}
use Rattle.line.specs.declared.line.Line.{Line}
use Rattle.line.specs.declared.line.Line.TheVariants.{Branch, Channel, Constant, Difference, Greater, Lesser, Magnitude, Product, Quotient, Square, Sum}
use Rattle.slope.specs.Curves.{lift, magnitude_shape}
use Rattle.slope.specs.Rules.{given}
use Rattle.slope.specs.declared.record.Record.{Record}
use Rattle.span.specs.Spans.{holds_zero, magnitude}
use Rattle.rule.proofs.Places.{nth_some}
use Rattle.rule.specs.Fit.{ByRecords, Judged, earlier_lines, fit}
use Rattle.rule.specs.Rule.{all_three, operand, rule, still_range, swept_range, two}

module _ {X : Type 0} (n : ℕ) where
  by_given : (o : Option X) → ByRecords n (given n o)
  by_given None = inr refl
  by_given (Some x) = tt

  by_test : (t : Bool) (v : Result X Fault) → ByRecords n v → ByRecords n (cond t (refused Divisor n) v)
  by_test true v h = inl refl
  by_test false v h = h

-- ---- operands, and what follows them
module _ {R X : Type 0} (rs : List R) where
  one : (l : ℕ) (rest : Result (Unit {0}) Fault) (f : R → Result X Fault) → ((x : R) → Judged (length rs) rest (f x)) → Judged (length rs) (cond (ltb l (length rs)) rest (refused Operand (length rs))) (after (operand rs l) f)
  one l rest f k = go (ltb l (length rs)) refl
    where
      go : (t : Bool) → ltb l (length rs) ≡ t → Judged (length rs) (cond t rest (refused Operand (length rs))) (after (operand rs l) f)
      go true e = let s = nth_some rs l (ltb-true l (length rs) e) in subst (λ o. Judged (length rs) rest (after (found Operand (length rs) o) f)) (sym s.1) (k s.0)
      go false e = ap (λ o. after (found Operand (length rs) o) f) (slice_get_past rs l (ltb-false l (length rs) e))

  two_is : (f : R × R → Result X Fault) (x y : Result R Fault) → after x (λ p. after y (λ q. f (p, q))) ≡ after (after x (λ p. after y (λ q. Ok (p, q)))) f
  two_is f (Ok p) (Ok q) = refl
  two_is f (Ok p) (Err e) = refl
  two_is f (Err e) y = refl

  three_is : (f : R × R × R → Result X Fault) (x y z : Result R Fault) → after x (λ s. after y (λ p. after z (λ q. f (s, p, q)))) ≡ after (after x (λ s. after y (λ p. after z (λ q. Ok (s, p, q))))) f
  three_is f (Ok s) (Ok p) (Ok q) = refl
  three_is f (Ok s) (Ok p) (Err e) = refl
  three_is f (Ok s) (Err e) z = refl
  three_is f (Err e) y z = refl

  both : (l r : ℕ) (f : R × R → Result X Fault) → ((x : R × R) → ByRecords (length rs) (f x)) → Judged (length rs) (earlier_lines (length rs) (l ∷ r ∷ [])) (after (two rs l r) f)
  both l r f k = subst (Judged (length rs) (earlier_lines (length rs) (l ∷ r ∷ []))) (two_is f (operand rs l) (operand rs r)) (one l _ _ (λ p. one r _ _ (λ q. k (p, q))))

  every : (s q r : ℕ) (f : R × R × R → Result X Fault) → ((x : R × R × R) → ByRecords (length rs) (f x)) → Judged (length rs) (earlier_lines (length rs) (s ∷ q ∷ r ∷ [])) (after (all_three rs s q r) f)
  every s q r f k = subst (Judged (length rs) (earlier_lines (length rs) (s ∷ q ∷ r ∷ []))) (three_is f (operand rs s) (operand rs q) (operand rs r)) (one s _ _ (λ x. one q _ _ (λ y. one r _ _ (λ z. k (x, y, z)))))

-- ---- each operation
module _ {K : Type 0} (m : Model K) (b : Box) (rs : List (Record K)) where
  by_channel : (c : ℕ) → Judged (length rs) (fit b (length rs) (Channel c)) (rule m b rs (Channel c))
  by_channel c = go (slice_get b.lower c) (slice_get b.upper c)
    where
      by_swept : (t : Bool) (l u : ℤ) → ByRecords (length rs) (cond t (swept_range m l u b.centre (length rs)) (still_range m l u (length rs)))
      by_swept true l u = by_given (length rs) _
      by_swept false l u = by_given (length rs) _

      go : (o q : Option ℤ) → Judged (length rs) (after (found NoChannel (length rs) o) (λ _. after (found NoChannel (length rs) q) (λ _. Ok tt)))
          (after (found NoChannel (length rs) o) (λ l. after (found NoChannel (length rs) q) (λ u. cond (eqb c b.swept) (swept_range m l u b.centre (length rs)) (still_range m l u (length rs)))))
      go None q = refl
      go (Some l) None = refl
      go (Some l) (Some u) = by_swept (eqb c b.swept) l u

  by_constant : (z : ℤ) → Judged (length rs) (fit b (length rs) (Constant z)) (rule m b rs (Constant z))
  by_constant z = go (is_count z)
    where
      go : (t : Bool) → Judged (length rs) (cond t (Ok tt) (refused Number (length rs))) (cond t (still_range m z z (length rs)) (refused Number (length rs)))
      go true = by_given (length rs) _
      go false = refl

  pub fit_judges : (line : Line) → Judged (length rs) (fit b (length rs) line) (rule m b rs line)
  fit_judges (Channel c) = by_channel c
  fit_judges (Constant z) = by_constant z
  fit_judges (Sum l r) = both rs l r _ (λ x. by_given (length rs) _)
  fit_judges (Difference l r) = both rs l r _ (λ x. by_given (length rs) _)
  fit_judges (Product l r) = both rs l r _ (λ x. by_given (length rs) _)
  fit_judges (Quotient l r) = both rs l r _ (λ x. by_test (length rs) (holds_zero m x.1.u) _ (by_given (length rs) _))
  fit_judges (Square l) = one rs l (Ok tt) _ (λ x. by_given (length rs) _)
  fit_judges (Magnitude l) = one rs l (Ok tt) _ (λ x. by_given (length rs) (lift m (λ s. Some (magnitude m s)) (magnitude_shape m) x))
  fit_judges (Greater l r) = both rs l r _ (λ x. tt)
  fit_judges (Lesser l r) = both rs l r _ (λ x. tt)
  fit_judges (Branch s q r) = every rs s q r _ (λ x. tt)
