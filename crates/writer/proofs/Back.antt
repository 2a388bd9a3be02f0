-- Bytes that were read as lines are what those lines write.
use Rattle.std.proofs.Common.{◌≡◌, ℕ, zero, suc, ◌/◌, ◌%◌, ◌≤◌, Bool, true, false, cond, eqb, ltb, List, [], ◌∷◌, ◌++◌, length, drop, Ok, Result, sym, refl, ap, ◌∙◌, subst, ap₂, append_assoc, append-nil, arith, take-append-drop, drop-drop}
use Rattle.std.proofs.lemmas.List.{drop_all}
use Rattle.std.proofs.lemmas.Bool.{eqb-false, eqb-true, ltb-false}
use Rattle.fault.proofs.Steps.{after_ok, err_ok, ok_is}
use Rattle.fault.specs.Refusals.{after, refused}
use Rattle.fault.specs.declared.fault.Cause.TheVariants.{Count, Operation}
use Rattle.fault.specs.declared.fault.Fault.{Fault}
use Rattle.leb.proofs.Placing.{placed_ok}
use Rattle.leb.proofs.Trip.{round_trips}
use Rattle.leb.specs.Numbers.{Bytes, decode, encode, size}
use Rattle.leb.specs.Places.{number_at, placed}
use Rattle.leb.specs.declared.place.Place.{Place}
use Rattle.line.specs.Operations.{arity, folded, line_of, unfolded}
use Rattle.line.specs.declared.line.Line.{Line}
use Rattle.reader.specs.Reading.{count_at, formula_at, line_at, lines_from, operand_at}
use Rattle.writer.proofs.There.{ended, there}
use Rattle.writer.specs.Trips.{FormulaTrips}
use Rattle.writer.specs.Writing.{formula_bytes, line_bytes, lines_bytes, operand_bytes}

-- ---- a line's numbers are those it was made of
fold_unfolded : (w : ℕ) → folded (unfolded w) ≡ w
fold_unfolded w = go (eqb (w % 2) 0) refl
  where
    go : (t : Bool) → eqb (w % 2) 0 ≡ t → folded (cond t (lib.IntN.pos (w / 2)) (lib.IntN.negsuc (w / 2))) ≡ w
    go true e = let z = eqb-true (w % 2) 0 e in omega arith
    go false e = let z = eqb-false (w % 2) 0 e in omega arith

abbrev spelled : ℕ → ℕ → ℕ → ℕ → List ℕ
spelled op a b c = encode op ++ (encode a ++ (operand_bytes (ltb 1 (arity op)) b ++ operand_bytes (ltb 2 (arity op)) c))

same_bytes : (op a b c : ℕ) → op ≤ 10 → line_bytes (line_of op a b c) ≡ spelled op a b c
same_bytes zero a b c h = refl
same_bytes (suc zero) a b c h = ap (λ n. encode 1 ++ (encode n ++ ([] ++ []))) (fold_unfolded a)
same_bytes (suc (suc zero)) a b c h = refl
same_bytes (suc (suc (suc zero))) a b c h = refl
same_bytes (suc (suc (suc (suc zero)))) a b c h = refl
same_bytes (suc (suc (suc (suc (suc zero))))) a b c h = refl
same_bytes (suc (suc (suc (suc (suc (suc zero)))))) a b c h = refl
same_bytes (suc (suc (suc (suc (suc (suc (suc zero))))))) a b c h = refl
same_bytes (suc (suc (suc (suc (suc (suc (suc (suc zero)))))))) a b c h = refl
same_bytes (suc (suc (suc (suc (suc (suc (suc (suc (suc zero))))))))) a b c h = refl
same_bytes (suc (suc (suc (suc (suc (suc (suc (suc (suc (suc zero)))))))))) a b c h = refl
same_bytes (suc (suc (suc (suc (suc (suc (suc (suc (suc (suc (suc op))))))))))) a b c h = absurd (omega arith)

bytes_drop : (n : ℕ) (xs : List ℕ) → Bytes xs → Bytes (drop n xs)
bytes_drop zero xs t = t
bytes_drop (suc n) [] t = tt
bytes_drop (suc n) (x ∷ xs) t = bytes_drop n xs t.1

module _ (bytes : List ℕ) (all : Bytes bytes) where
  -- from one place to another the bytes are those of xs
  abbrev Between : ℕ → List ℕ → ℕ → Type 0
  Between at xs to = drop at bytes ≡ xs ++ drop to bytes

  joined : (at mid to : ℕ) (xs ys : List ℕ) → Between at xs mid → Between mid ys to → Between at (xs ++ ys) to
  joined at mid to xs ys p q = p ∙ ap (λ zs. xs ++ zs) q ∙ sym (append_assoc xs ys (drop to bytes))

  back_number : (at line n to : ℕ) → number_at bytes at line ≡ Ok (n, to) → Between at (encode n) to
  back_number at line n to e = after_ok _ (placed line (decode (drop at bytes))) _ (n, to) e (λ k ek q.
      let same = ok_is q in
      let s = size (drop at bytes) in
      let d : decode (drop at bytes) ≡ Ok n = placed_ok line _ k ek ∙ ap (λ p. Ok p.0) same in
      sym (take-append-drop s (drop at bytes))
      ∙ ap₂ ◌++◌ (sym (round_trips.back n (drop at bytes) (bytes_drop at bytes all) d)) (drop-drop s at bytes ∙ ap (λ p. drop p.1 bytes) same))

  back_operand : (wanted : Bool) (at line n to : ℕ) → operand_at wanted bytes at line ≡ Ok (n, to) → Between at (operand_bytes wanted n) to
  back_operand true at line n to e = back_number at line n to e
  back_operand false at line n to e = ap (λ p. drop p.1 bytes) (ok_is e)

  back_line : (at to : ℕ) (l : Line) → line_at bytes at ≡ Ok (l, to) → Between at (line_bytes l) to
  back_line at to l e = after_ok _ (number_at bytes at at) _ (l, to) e (λ op e1 q. known op e1 (ltb 10 op.0) refl q)
    where
      operands : ℕ × ℕ → Result (Line × ℕ) Fault
      operands op = after (number_at bytes op.1 at) (λ a. after (operand_at (ltb 1 (arity op.0)) bytes a.1 at) (λ b. after (operand_at (ltb 2 (arity op.0)) bytes b.1 at) (λ c.
          Ok (line_of op.0 a.0 b.0 c.0, c.1))))

      known : (op : ℕ × ℕ) → number_at bytes at at ≡ Ok op → (t : Bool) → ltb 10 op.0 ≡ t → cond t (refused Operation at) (operands op) ≡ Ok (l, to) → Between at (line_bytes l) to
      known op e1 true h q = absurd (err_ok q)
      known op e1 false h q = after_ok _ (number_at bytes op.1 at) _ (l, to) q (λ a e2 q2. after_ok _ (operand_at (ltb 1 (arity op.0)) bytes a.1 at) _ (l, to) q2 (λ b e3 q3.
          after_ok _ (operand_at (ltb 2 (arity op.0)) bytes b.1 at) _ (l, to) q3 (λ c e4 q4.
          let same = ok_is q4 in
          subst (λ p. Between at (line_bytes p.0) p.1) same (subst (λ xs. Between at xs c.1) (sym (same_bytes op.0 a.0 b.0 c.0 (ltb-false 10 op.0 h)))
          (joined at _ _ (encode op.0) _ (back_number at at _ _ e1) (joined _ _ _ (encode a.0) _ (back_number _ at _ _ e2)
          (joined _ _ _ (operand_bytes (ltb 1 (arity op.0)) b.0) (operand_bytes (ltb 2 (arity op.0)) c.0) (back_operand _ _ at _ _ e3) (back_operand _ _ at _ _ e4))))))))

  -- lines that were read behind others
  record Follow (n at : ℕ) (before ls : List Line) : Type 0 where
    lines : List Line
    all_are : ls ≡ before ++ lines
    many : length lines ≡ n
    bytes_are : drop at bytes ≡ lines_bytes lines

  back_lines : (n at : ℕ) (before ls : List Line) → lines_from n bytes at before ≡ Ok ls → Follow n at before ls
  back_lines zero at before ls e = go (ltb at (length bytes)) refl e
    where
      go : (t : Bool) → ltb at (length bytes) ≡ t → after (ended t at) (λ _. Ok before) ≡ Ok ls → Follow zero at before ls
      go true h q = absurd (err_ok q)
      go false h q = record { lines = []; all_are = sym (ok_is q) ∙ sym (append-nil before); many = refl; bytes_are = drop_all at bytes (ltb-false at (length bytes) h) }
  back_lines (suc n) at before ls e = after_ok _ (line_at bytes at) _ ls e (λ p e1 q.
      let f = back_lines n p.1 (before ++ p.0 ∷ []) ls q in
      record {
        lines = p.0 ∷ f.lines;
        all_are = f.all_are ∙ append_assoc before (p.0 ∷ []) f.lines;
        many = ap suc f.many;
        bytes_are = back_line at p.1 p.0 e1 ∙ ap (λ xs. line_bytes p.0 ++ xs) f.bytes_are;
      })

  pub back : (ls : List Line) → formula_at bytes ≡ Ok ls → formula_bytes ls ≡ bytes
  back ls e = after_ok _ (count_at bytes) _ ls e (λ p e1 q. after_ok _ (number_at bytes 0 0) _ p e1 (λ n en qn.
      let same = counted n p qn in
      let f = back_lines p.0 p.1.at [] ls q in
      let c : Between 0 (encode p.0) p.1.at = subst (λ x. Between 0 (encode x.0) x.1.at) same (back_number 0 0 n.0 n.1 en) in
      sym (c ∙ ap₂ (λ k xs. encode k ++ xs) (sym f.many ∙ ap length (sym f.all_are)) (f.bytes_are ∙ ap lines_bytes (sym f.all_are)))))
    where
      counted : (n : ℕ × ℕ) (p : ℕ × Place) → cond (ltb 64 n.0) (refused Count 0) (cond (eqb n.0 0) (refused Count 0) (Ok (n.0, record { at = n.1 }))) ≡ Ok p
          → ◌≡◌ {A = ℕ × Place} (n.0, record { at = n.1 }) p
      counted n p q = go (ltb 64 n.0) (eqb n.0 0) q
        where
          go : (s t : Bool) → cond s (refused Count 0) (cond t (refused Count 0) (Ok (n.0, record { at = n.1 }))) ≡ Ok p → ◌≡◌ {A = ℕ × Place} (n.0, record { at = n.1 }) p
          go true t q = absurd (err_ok q)
          go false true q = absurd (err_ok q)
          go false false q = ok_is q

pub trips : FormulaTrips
trips = record { there = there; back = λ bytes ls all e. back bytes all ls e }
