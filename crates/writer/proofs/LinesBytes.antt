-- The bytes of lines, one line more.
use Rattle.std.proofs.Common.{◌≡◌, ℕ, ◌+◌, ◌*◌, ◌<◌, ◌≤◌, List, [], ◌∷◌, ◌++◌, length, get_or, sum_by, ltb, Some, take, drop, sym, refl, ap, ◌∙◌, append_assoc, append-nil, arith, length-append, take-append-drop}
use Rattle.std.proofs.lemmas.List.{take_more}
use Rattle.std.proofs.lemmas.List.Sums.{sum_by-cons}
use Rattle.leb.specs.Numbers.{encode}
use Rattle.line.specs.Operations.{arity, first, operation, second, third}
use Rattle.line.specs.declared.line.Line.{Line}
use Rattle.writer.proofs.Groups.{at_most_ten}
use Rattle.writer.proofs.LineBytes.{four, operand_few}
use Rattle.writer.specs.Writing.{line_bytes, operand_bytes, lines_bytes}

lines-++ : (xs ys : List Line) → lines_bytes (xs ++ ys) ≡ lines_bytes xs ++ lines_bytes ys
lines-++ [] ys = refl
lines-++ (x ∷ xs) ys = ap (λ z. line_bytes x ++ z) (lines-++ xs ys) ∙ sym (append_assoc (line_bytes x) (lines_bytes xs) (lines_bytes ys))

pub lines_more : (ls : List Line) (i : ℕ) (d : Line) → i < length ls → lines_bytes (take (i + 1) ls) ≡ lines_bytes (take i ls) ++ line_bytes (get_or ls i d)
lines_more ls i d h = ap lines_bytes (take_more ls i d h) ∙ lines-++ (take i ls) (get_or ls i d ∷ []) ∙ ap (λ z. lines_bytes (take i ls) ++ z) (append-nil (line_bytes (get_or ls i d)))

-- the front of the bytes
pub lines_front : (ls : List Line) (i : ℕ) → length (lines_bytes (take i ls)) ≤ length (lines_bytes ls)
lines_front ls i = let e = ap length (ap lines_bytes (sym (take-append-drop i ls)) ∙ lines-++ (take i ls) (drop i ls)) ∙ length-append (lines_bytes (take i ls)) (lines_bytes (drop i ls)) in omega (arith, e)

pub lines_sum : (ls : List Line) → sum_by (λ l. length (line_bytes l)) ls ≡ length (lines_bytes ls)
lines_sum [] = refl
lines_sum (l ∷ ls) = sum_by-cons (λ x. length (line_bytes x)) l ls ∙ ap (λ n. length (line_bytes l) + n) (lines_sum ls) ∙ sym (length-append (line_bytes l) (lines_bytes ls))

line_few : (l : Line) → length (line_bytes l) ≤ 40
line_few l =
    let op = operation l in
    let y = operand_bytes (ltb 1 (arity op)) (second l) in
    let z = operand_bytes (ltb 2 (arity op)) (third l) in
    let n = four (encode op) (encode (first l)) y z in
    omega (arith, at_most_ten (Some op), at_most_ten (Some (first l)), operand_few (ltb 1 (arity op)) (second l), operand_few (ltb 2 (arity op)) (third l))

pub lines_few : (ls : List Line) → length (lines_bytes ls) ≤ 40 * length ls
lines_few [] = omega arith
lines_few (l ∷ ls) = omega (arith, line_few l, lines_few ls, length-append (line_bytes l) (lines_bytes ls))
