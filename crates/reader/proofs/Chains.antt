-- From answers and places to the definition's answer.
use Rattle.std.proofs.Common.{◌≡◌, ℕ, ◌≤◌, ltb, List, Ok, Err, Result, sym, ap, ◌∙◌, subst, ap₂, arith}
use Rattle.std.proofs.lemmas.Bool.{le-ltb}
use Rattle.fault.specs.Refusals.{after}
use Rattle.fault.specs.declared.fault.Fault.{Fault}
use Rattle.leb.specs.Places.{Stands, number_at}
use Rattle.line.specs.Operations.{arity, line_of}
use Rattle.line.specs.declared.line.Line.{Line}
use Rattle.reader.specs.Reading.{line_at, operand_at}

pub stands_ok : {X : Type 0} (L : Result (X × ℕ) Fault) (r : Result X Fault) (x : X) (from to : ℕ) → Stands L r from to → r ≡ Ok x → L ≡ Ok (x, to)
stands_ok (Ok p) r x from to s e = let a = s.0 in let b = s.1 in let q : p.0 ≡ x = cc in ap₂ (λ y t. Ok (y, t)) q (sym b)
stands_ok (Err y) r x from to s e = let a = s.0 in let z : ◌≡◌ {A = ℕ} 0 1 = cc in absurd (omega arith)

pub stands_err : {X : Type 0} (L : Result (X × ℕ) Fault) (r : Result X Fault) (y : Fault) (from to : ℕ) → Stands L r from to → r ≡ Err y → L ≡ Err y
stands_err (Ok p) r y from to s e = let a = s.0 in let z : ◌≡◌ {A = ℕ} 0 1 = cc in absurd (omega arith)
stands_err (Err x) r y from to s e = let a = s.0 in cc

pub ok_stands : {X : Type 0} (L : Result (X × ℕ) Fault) (x y : X) (from to t : ℕ) → L ≡ Ok (x, t) → y ≡ x → to ≡ t → Stands L (Ok y) from to
ok_stands L x y from to t e q p = subst (λ o. Stands o (Ok y) from to) (sym e) (ap Ok q, p)

pub err_stands : {X : Type 0} (L : Result (X × ℕ) Fault) (r : Result X Fault) (y : Fault) (from to : ℕ) → L ≡ Err y → r ≡ Err y → to ≡ from → Stands L r from to
err_stands L r y from to e q p = subst (λ o. Stands o r from to) (sym e) (q, p)

module _ (bytes : List ℕ) (at op t1 a t2 n : ℕ) (e1 : number_at bytes at at ≡ Ok (op, t1)) (h : op ≤ 10) (e2 : number_at bytes t1 at ≡ Ok (a, t2)) (k : n ≡ arity op) where
  abbrev rest : Result (ℕ × ℕ) Fault → Result (Line × ℕ) Fault
  rest o = after o (λ b. after (operand_at (ltb 2 n) bytes b.1 at) (λ c. Ok (line_of op a b.0 c.0, c.1)))

  two : line_at bytes at ≡ rest (operand_at (ltb 1 n) bytes t2 at)
  two = rw (e1, le-ltb 10 op h, e2, k)

  pub break_b : (y : Fault) → operand_at (ltb 1 n) bytes t2 at ≡ Err y → line_at bytes at ≡ Err y
  break_b y e = two ∙ ap rest e

  module _ (b t3 : ℕ) (e3 : operand_at (ltb 1 n) bytes t2 at ≡ Ok (b, t3)) where
    pub break_c : (y : Fault) → operand_at (ltb 2 n) bytes t3 at ≡ Err y → line_at bytes at ≡ Err y
    break_c y e = two ∙ ap rest e3 ∙ ap (λ o. after o (λ c. Ok (line_of op a b c.0, c.1))) e

    pub whole : (c t4 : ℕ) → operand_at (ltb 2 n) bytes t3 at ≡ Ok (c, t4) → line_at bytes at ≡ Ok (line_of op a b c, t4)
    whole c t4 e = two ∙ ap rest e3 ∙ ap (λ o. after o (λ c. Ok (line_of op a b c.0, c.1))) e
