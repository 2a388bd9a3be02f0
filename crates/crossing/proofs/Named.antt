-- A line's record is made of its operands' records alone.
use Rattle.std.proofs.Common.{◌≡◌, ℕ, ◌<◌, ◌≤◌, zero, suc, cond, eqb, Bool, true, false, List, [], ◌∷◌, length, take, Ok, refl, sym, ap, ◌∙◌, arith, length-take-le, ⊎_elim}
use Rattle.std.proofs.lemmas.Bool.{cases_lt}
use Rattle.std.proofs.lemmas.Option.{slice_get_past}
use Rattle.std.specs.List.{slice_get}
use Rattle.boxes.specs.Boxes.{Box}
use Rattle.crossing.specs.Lines.{line_of}
use Rattle.crossing.specs.declared.memory.CLine.{CLine}
use Rattle.fault.specs.Refusals.{after, found}
use Rattle.fault.specs.declared.fault.Cause.TheVariants.{Operand}
use Rattle.kind.specs.Model.{Model}
use Rattle.line.specs.declared.line.Line.{Line}
use Rattle.line.specs.declared.line.Line.TheVariants.{Branch, Channel, Constant, Difference, Greater, Lesser, Magnitude, Product, Quotient, Square, Sum}
use Rattle.rule.specs.Rule.{all_three, channel, constant, operand, rule, two}
use Rattle.slope.specs.Curves.{lift, magnitude_shape, square_shape}
use Rattle.slope.specs.Rules.{given}
use Rattle.slope.specs.declared.record.Record.{Record}
use Rattle.slope.specs.Rules as rules
use Rattle.span.specs.Spans as spans
use Rattle.std.proofs.Common.{Some}

module _ {R : Type 0} (v w : List R) (long : length v ≡ length w) where
  abbrev Same : ℕ → Type 0
  Same l = slice_get v l ≡ slice_get w l

  one_same : (l : ℕ) → Same l → operand v l ≡ operand w l
  one_same l e = ap (λ n. found Operand n (slice_get v l)) long ∙ ap (found Operand (length w)) e

  two_same : (l r : ℕ) → Same l → Same r → two v l r ≡ two w l r
  two_same l r e f = ap (λ x. after x (λ p. after (operand v r) (λ q. Ok (p, q)))) (one_same l e) ∙ ap (λ x. after (operand w l) (λ p. after x (λ q. Ok (p, q)))) (one_same r f)

  three_same : (s q r : ℕ) → Same s → Same q → Same r → all_three v s q r ≡ all_three w s q r
  three_same s q r d e f =
      ap (λ x. after x (λ i. after (operand v q) (λ j. after (operand v r) (λ k. Ok (i, j, k))))) (one_same s d)
      ∙ ap (λ x. after (operand w s) (λ i. after x (λ j. after (operand v r) (λ k. Ok (i, j, k))))) (one_same q e)
      ∙ ap (λ x. after (operand w s) (λ i. after (operand w q) (λ j. after x (λ k. Ok (i, j, k))))) (one_same r f)

  -- the operands of a line
  abbrev AllSame : Line → Type 0
  AllSame (Channel c) = Unit {0}
  AllSame (Constant n) = Unit {0}
  AllSame (Sum l r) = Same l × Same r
  AllSame (Difference l r) = Same l × Same r
  AllSame (Product l r) = Same l × Same r
  AllSame (Quotient l r) = Same l × Same r
  AllSame (Square l) = Same l
  AllSame (Magnitude l) = Same l
  AllSame (Greater l r) = Same l × Same r
  AllSame (Lesser l r) = Same l × Same r
  AllSame (Branch s q r) = Same s × Same q × Same r

  -- of a line in memory, which names no more than three
  all_same : (l : CLine) → Same l.a → Same l.b → Same l.c → AllSame (line_of l)
  all_same l a b c =
      either (eqb l.operation 0) (Channel l.a) _ tt (either (eqb l.operation 1) (Constant l.constant) _ tt
      (either (eqb l.operation 2) (Sum l.a l.b) _ (a, b) (either (eqb l.operation 3) (Difference l.a l.b) _ (a, b)
      (either (eqb l.operation 4) (Product l.a l.b) _ (a, b) (either (eqb l.operation 5) (Quotient l.a l.b) _ (a, b)
      (either (eqb l.operation 6) (Square l.a) _ a (either (eqb l.operation 7) (Magnitude l.a) _ a
      (either (eqb l.operation 8) (Greater l.a l.b) _ (a, b) (either (eqb l.operation 9) (Lesser l.a l.b) (Branch l.a l.b l.c) (a, b) (a, b, c))))))))))
    where
      either : (t : Bool) (x y : Line) → AllSame x → AllSame y → AllSame (cond t x y)
      either true x y p q = p
      either false x y p q = q

module _ {K : Type 0} (m : Model K) (b : Box) (v w : List (Record K)) (long : length v ≡ length w) where
  rule_same : (line : Line) → AllSame v w long line → rule m b v line ≡ rule m b w line
  rule_same (Channel c) _ = ap (channel m b c) long
  rule_same (Constant n) _ = ap (constant m n) long
  rule_same (Sum l r) e = ap (λ n. after (two v l r) (λ p. given n (rules.sum m p.0 p.1))) long ∙ ap (λ x. after x (λ p. given (length w) (rules.sum m p.0 p.1))) (two_same v w long l r e.0 e.1)
  rule_same (Difference l r) e = ap (λ n. after (two v l r) (λ p. given n (rules.difference m p.0 p.1))) long ∙ ap (λ x. after x (λ p. given (length w) (rules.difference m p.0 p.1))) (two_same v w long l r e.0 e.1)
  rule_same (Product l r) e = ap (λ n. after (two v l r) (λ p. given n (rules.product m p.0 p.1))) long ∙ ap (λ x. after x (λ p. given (length w) (rules.product m p.0 p.1))) (two_same v w long l r e.0 e.1)
  rule_same (Quotient l r) e = ap (λ n. after (two v l r) (λ p. rules.divided m n p.0 p.1)) long ∙ ap (λ x. after x (λ p. rules.divided m (length w) p.0 p.1)) (two_same v w long l r e.0 e.1)
  rule_same (Square l) e = ap (λ n. after (operand v l) (λ p. given n (lift m (spans.square m) (square_shape m) p))) long ∙ ap (λ x. after x (λ p. given (length w) (lift m (spans.square m) (square_shape m) p))) (one_same v w long l e)
  rule_same (Magnitude l) e = ap (λ n. after (operand v l) (λ p. given n (lift m (λ s. Some (spans.magnitude m s)) (magnitude_shape m) p))) long ∙ ap (λ x. after x (λ p. given (length w) (lift m (λ s. Some (spans.magnitude m s)) (magnitude_shape m) p))) (one_same v w long l e)
  rule_same (Greater l r) e = ap (λ x. after x (λ p. Ok (rules.greater m p.0 p.1))) (two_same v w long l r e.0 e.1)
  rule_same (Lesser l r) e = ap (λ x. after x (λ p. Ok (rules.lesser m p.0 p.1))) (two_same v w long l r e.0 e.1)
  rule_same (Branch s q r) e = ap (λ x. after x (λ p. Ok (rules.branch m p.0 p.1 p.2))) (three_same v w long s q r e.0 e.1 e.2)

-- what is among the first n of two lists
module _ {R : Type 0} where
  pub in_front : (v : List R) (n l : ℕ) → l < n → slice_get (take n v) l ≡ slice_get v l
  in_front [] zero l h = absurd (omega arith)
  in_front [] (suc n) l h = refl
  in_front (x ∷ v) zero l h = absurd (omega arith)
  in_front (x ∷ v) (suc n) zero h = refl
  in_front (x ∷ v) (suc n) (suc l) h = in_front v n l (omega arith)

  fronts_same : (v w : List R) (n : ℕ) → n ≤ length v → n ≤ length w → (l : ℕ) → (l < n → slice_get v l ≡ slice_get w l) → slice_get (take n v) l ≡ slice_get (take n w) l
  fronts_same v w n a b l e = ⊎_elim
      (λ h. in_front v n l h ∙ e h ∙ sym (in_front w n l h))
      (λ h. let p = length-take-le n v a in let q = length-take-le n w b in slice_get_past (take n v) l (omega (arith, h, p)) ∙ sym (slice_get_past (take n w) l (omega (arith, h, q))))
      (cases_lt l n)

-- the record of line n, by two lists that have the records of its operands
module _ {K : Type 0} (m : Model K) (b : Box) (v w : List (Record K)) (n : ℕ) (few : n ≤ length v) (few' : n ≤ length w) where
  abbrev Alike : ℕ → Type 0
  Alike l = l < n → slice_get v l ≡ slice_get w l

  pub by_operands : (line : CLine) → Alike line.a → Alike line.b → Alike line.c → rule m b (take n v) (line_of line) ≡ rule m b (take n w) (line_of line)
  by_operands line p q r = rule_same m b (take n v) (take n w) long (line_of line) (all_same (take n v) (take n w) long line (front line.a p) (front line.b q) (front line.c r))
    where
      long : length (take n v) ≡ length (take n w)
      long = length-take-le n v few ∙ sym (length-take-le n w few')

      front : (l : ℕ) → Alike l → slice_get (take n v) l ≡ slice_get (take n w) l
      front = fronts_same v w n few few'
