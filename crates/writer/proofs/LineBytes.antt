-- The bytes of one line.
use Rattle.std.proofs.Common.{◌≡◌, ℕ, ◌+◌, ◌≤◌, Bool, true, false, ltb, List, ◌++◌, length, Option, refl, sym, subst, arith, length-append}
use Rattle.leb.specs.Numbers.{encode}
use Rattle.line.specs.Operations.{arity, first, held, operation, second, third}
use Rattle.line.specs.declared.line.Line.{Line}
use Rattle.writer.proofs.Groups.{at_most_ten}
use Rattle.writer.specs.Writing.{held_bytes, line_bytes, operand_bytes}

held_is : (b : Bool) (n : ℕ) → held_bytes (held b n) ≡ operand_bytes b n
held_is true n = refl
held_is false n = refl

pub operand_few : (b : Bool) (n : ℕ) → length (operand_bytes b n) ≤ 10
operand_few b n = subst (λ bs. length bs ≤ 10) (held_is b n) (at_most_ten (held b n))

-- by the numbers that the code has at hand
pub line_is : (l : Line) (op x : ℕ) (y z : Option ℕ) → op ≡ operation l → x ≡ first l → y ≡ held (ltb 1 (arity (operation l))) (second l) → z ≡ held (ltb 2 (arity (operation l))) (third l)
    → line_bytes l ≡ encode op ++ (encode x ++ (held_bytes y ++ held_bytes z))
line_is l op x y z eo ex ey ez = sym (rw (eo, ex, ey, ez, held_is (ltb 1 (arity (operation l))) (second l), held_is (ltb 2 (arity (operation l))) (third l)))

pub four : (a b c d : List ℕ) → length (a ++ (b ++ (c ++ d))) ≡ length a + length b + length c + length d
four a b c d = simp length-append (omega arith)
