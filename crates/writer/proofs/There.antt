-- What is written as lines is read back.
use Rattle.std.proofs.Common.{◌≡◌, ℕ, ◌+◌, ◌*◌, ◌%◌, ◌<◌, ◌≤◌, Bool, true, false, cond, eqb, ltb, List, [], ◌∷◌, ◌++◌, length, drop, ℤ, pos, negsuc, Ok, Result, sym, refl, ap, ◌∙◌, ap₂, append_assoc, append-nil, arith, length-drop, drop-drop}
use lib.Seq.{drop-append_seam}
use Rattle.std.proofs.lemmas.Bool.{eq-eqb, le-ltb, ne_eqb}
use Rattle.fault.specs.Refusals.{after, refused}
use Rattle.fault.specs.declared.fault.Cause.TheVariants.{Count, Left}
use Rattle.fault.specs.declared.fault.Fault.{Fault}
use Rattle.leb.proofs.Trip.{round_trips}
use Rattle.leb.specs.Numbers.{decode, encode, size}
use Rattle.leb.specs.Places.{number_at, placed}
use Rattle.leb.specs.declared.place.Place.{Place}
use Rattle.line.specs.Operations.{arity, first, folded, line_of, operation, second, third, unfolded}
use Rattle.line.specs.declared.line.Line.{Line}
use Rattle.line.specs.declared.line.Line.TheVariants.{Branch, Channel, Constant, Difference, Greater, Lesser, Magnitude, Product, Quotient, Square, Sum}
use Rattle.reader.proofs.Chains.{whole}
use Rattle.reader.specs.Reading.{count_at, end_at, formula_at, line_at, lines_from, operand_at}
use Rattle.writer.proofs.LineBytes.{four}
use Rattle.writer.specs.Trips.{AllReadable, Readable}
use Rattle.writer.specs.Writing.{formula_bytes, line_bytes, lines_bytes, operand_bytes}

-- ---- a line is the line of its numbers
unfold_folded : (n : ℤ) → unfolded (folded n) ≡ n
unfold_folded (pos n) = rw (eq-eqb ((2 * n) % 2) 0 (omega arith)) (ap pos (omega arith))
unfold_folded (negsuc n) = rw (ne_eqb ((2 * n + 1) % 2) 0 (λ z. omega arith)) (ap negsuc (omega arith))

same_line : (l : Line) → line_of (operation l) (first l) (second l) (third l) ≡ l
same_line (Channel c) = refl
same_line (Constant n) = ap Constant (unfold_folded n)
same_line (Sum l r) = refl
same_line (Difference l r) = refl
same_line (Product l r) = refl
same_line (Quotient l r) = refl
same_line (Square l) = refl
same_line (Magnitude l) = refl
same_line (Greater l r) = refl
same_line (Lesser l r) = refl
same_line (Branch s q r) = refl

known : (l : Line) → operation l ≤ 10
known (Channel c) = omega arith
known (Constant n) = omega arith
known (Sum l r) = omega arith
known (Difference l r) = omega arith
known (Product l r) = omega arith
known (Quotient l r) = omega arith
known (Square l) = omega arith
known (Magnitude l) = omega arith
known (Greater l r) = omega arith
known (Lesser l r) = omega arith
known (Branch s q r) = omega arith

-- an operand that the operation does not have is 0
no_second : (l : Line) → ltb 1 (arity (operation l)) ≡ false → second l ≡ 0
no_second (Channel c) e = refl
no_second (Constant n) e = refl
no_second (Sum l r) e = cc
no_second (Difference l r) e = cc
no_second (Product l r) e = cc
no_second (Quotient l r) e = cc
no_second (Square l) e = refl
no_second (Magnitude l) e = refl
no_second (Greater l r) e = cc
no_second (Lesser l r) e = cc
no_second (Branch s q r) e = cc

no_third : (l : Line) → ltb 2 (arity (operation l)) ≡ false → third l ≡ 0
no_third (Channel c) e = refl
no_third (Constant n) e = refl
no_third (Sum l r) e = refl
no_third (Difference l r) e = refl
no_third (Product l r) e = refl
no_third (Quotient l r) e = refl
no_third (Square l) e = refl
no_third (Magnitude l) e = refl
no_third (Greater l r) e = refl
no_third (Lesser l r) e = refl
no_third (Branch s q r) e = cc

-- the count of lines, judged
abbrev counted : Bool → Bool → ℕ → ℕ → Result (ℕ × Place) Fault
counted many none n at = cond many (refused Count 0) (cond none (refused Count 0) (Ok (n, record { at = at })))

-- bytes left over, judged
abbrev pub ended : Bool → ℕ → Result (Unit {0}) Fault
ended left at = cond left (refused Left at) (Ok tt)

module _ (bytes : List ℕ) where
  pub behind : (at : ℕ) (xs rest : List ℕ) → drop at bytes ≡ xs ++ rest → drop (at + length xs) bytes ≡ rest
  behind at xs rest e = sym (drop-drop (length xs) at bytes) ∙ ap (drop (length xs)) e ∙ drop-append_seam xs rest

  there_number : (at line n : ℕ) (rest : List ℕ) → n ≤ 2147483647 → drop at bytes ≡ encode n ++ rest → number_at bytes at line ≡ Ok (n, at + length (encode n))
  there_number at line n rest h e =
      let t = round_trips.there n rest h in
      ap (λ xs. after (placed line (decode xs)) (λ k. Ok (k, at + size xs))) e ∙ ap₂ (λ d k. after (placed line d) (λ m. Ok (m, at + k))) t.0 t.1

  there_operand : (wanted : Bool) (at line n : ℕ) (rest : List ℕ) → n ≤ 2147483647 → (wanted ≡ false → n ≡ 0) → drop at bytes ≡ operand_bytes wanted n ++ rest
      → operand_at wanted bytes at line ≡ Ok (n, at + length (operand_bytes wanted n))
  there_operand true at line n rest h z e = there_number at line n rest h e
  there_operand false at line n rest h z e = ap₂ (λ k t. Ok (k, t)) (sym (z refl)) (omega arith)

  pub there_line : (at : ℕ) (l : Line) (rest : List ℕ) → Readable l → drop at bytes ≡ line_bytes l ++ rest → line_at bytes at ≡ Ok (l, at + length (line_bytes l))
  there_line at l rest ok e =
      let op = operation l in
      let A = encode op in let B = encode (first l) in
      let C = operand_bytes (ltb 1 (arity op)) (second l) in let D = operand_bytes (ltb 2 (arity op)) (third l) in
      let e1 : drop at bytes ≡ A ++ (B ++ (C ++ (D ++ rest))) = e ∙ simp append_assoc in
      let d1 = behind at A _ e1 in
      let d2 = behind (at + length A) B _ d1 in
      let d3 = behind (at + length A + length B) C _ d2 in
      let k = known l in
      whole bytes at op _ (first l) _ (arity op) (there_number at at op _ (omega arith) e1) k (there_number _ at (first l) _ ok.0 d1) refl
      (second l) _ (there_operand _ _ at (second l) _ ok.1 (no_second l) d2) (third l) _ (there_operand _ _ at (third l) _ ok.2 (no_third l) d3)
      ∙ ap₂ (λ x t. Ok (x, t)) (same_line l) (let n = four A B C D in omega arith)

  -- nothing is left over, or the count of lines is one that is taken
  pub end_there : (at : ℕ) → drop at bytes ≡ [] → end_at bytes at ≡ Ok tt
  end_there at e = let h : length bytes ≤ at = omega (arith, length-drop at bytes, ap length e) in ap (λ t. ended t at) (le-ltb at (length bytes) h)

  pub count_there : (n : ℕ) (rest : List ℕ) → 0 < n → n ≤ 64 → bytes ≡ encode n ++ rest → count_at bytes ≡ Ok (n, record { at = length (encode n) })
  count_there n rest some few e =
      ap (λ r. after r (λ p. counted (ltb 64 p.0) (eqb p.0 0) p.0 p.1)) (there_number 0 0 n rest (omega arith) e)
      ∙ ap₂ (λ x y. counted x y n (0 + length (encode n))) (le-ltb 64 n few) (ne_eqb n 0 (λ z. omega arith))
      ∙ ap (λ t. Ok (n, record { at = t })) (omega arith)

  there_lines : (ls : List Line) (at : ℕ) (before : List Line) → AllReadable ls → drop at bytes ≡ lines_bytes ls → lines_from (length ls) bytes at before ≡ Ok (before ++ ls)
  there_lines [] at before ok e = ap (λ r. after r (λ _. Ok before)) (end_there at e) ∙ ap Ok (sym (append-nil before))
  there_lines (l ∷ ls) at before ok e =
      ap (λ r. after r (λ p. lines_from (length ls) bytes p.1 (before ++ p.0 ∷ []))) (there_line at l (lines_bytes ls) ok.0 e)
      ∙ there_lines ls _ (before ++ l ∷ []) ok.1 (behind at (line_bytes l) (lines_bytes ls) e)
      ∙ ap Ok (append_assoc before (l ∷ []) ls)

pub there : (ls : List Line) → 0 < length ls → length ls ≤ 64 → AllReadable ls → formula_at (formula_bytes ls) ≡ Ok ls
there ls some few ok =
    let bytes = formula_bytes ls in
    let n = length ls in
    ap (λ r. after r (λ p. lines_from p.0 bytes p.1.at [])) (count_there bytes n (lines_bytes ls) some few refl)
    ∙ there_lines bytes ls (length (encode n)) [] ok (drop-append_seam (encode n) (lines_bytes ls))
