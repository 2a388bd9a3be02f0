-- Both round trips through an empty sheet.
use Rattle.std.proofs.Common.{◌≡◌, ℕ, zero, suc, ◌+◌, ◌<◌, ◌≤◌, Bool, true, false, cond, ◌&&◌, T, ltb, List, [], ◌∷◌, ◌++◌, length, drop, ℤ, pos, negsuc, neg_ℤ, nat_abs, Ok, Err, Result, sym, refl, ap, ◌∙◌, subst, ap₂, append_assoc, append-nil, arith, length-append}
use borrow.Author.Differences.{ints}
use lib.Seq.{drop-append_seam}
use lib.Signed.{le_z, le_z_yes}
use Rattle.std.proofs.lemmas.Bool.{ltb-true}
use Rattle.std.specs.List.{slice_get}
use Rattle.boxes.specs.Boxes.{Box, is_count}
use Rattle.fault.proofs.Steps.{after_ok, err_ok, found_ok, ok_is}
use Rattle.fault.specs.Refusals.{after, found, refused}
use Rattle.fault.specs.declared.fault.Cause.TheVariants.{NoChannel, Number, Operand}
use Rattle.fault.specs.declared.fault.Fault.{Fault}
use Rattle.kind.specs.Model.{Model}
use Rattle.leb.specs.Numbers.{encode}
use Rattle.line.specs.Operations.{folded}
use Rattle.line.specs.declared.line.Line.{Line}
use Rattle.line.specs.declared.line.Line.TheVariants.{Branch, Channel, Constant, Difference, Greater, Lesser, Magnitude, Product, Quotient, Square, Sum}
use Rattle.reader.specs.Reading.{count_at, formula_at, line_at, lines_from}
use Rattle.rule.proofs.Fits.{fit_judges}
use Rattle.rule.proofs.Places.{nth_in}
use Rattle.rule.specs.Fit.{Judged, earlier_lines, fit}
use Rattle.rule.specs.Records.{records_from}
use Rattle.rule.specs.Rule.{rule}
use Rattle.slope.specs.declared.record.Record.{Record}
use Rattle.writer.proofs.Back.{back}
use Rattle.writer.proofs.There.{behind, end_there, count_there, there_line}
use Rattle.writer.specs.Trips.{Readable}
use Rattle.writer.specs.Writing.{formula_bytes, line_bytes, lines_bytes}
use Rattle.sheet.specs.Reading.{Outcome, ReadTrips, ends, goes_on, read_formula, read_lines}

both_true : (a b : Bool) → a && b ≡ true → T a × T b
both_true true b h = (tt, subst T (sym h) tt)
both_true false b h = absurd (subst T (sym h) tt)

-- ---- a line that is fit has numbers that can be read
fit_earlier : (n l : ℕ) (ls : List ℕ) → earlier_lines n (l ∷ ls) ≡ Ok tt → (l < n) × (earlier_lines n ls ≡ Ok tt)
fit_earlier n l ls e = go (ltb l n) refl e
  where
    go : (t : Bool) → ltb l n ≡ t → cond t (earlier_lines n ls) (refused Operand n) ≡ Ok tt → (l < n) × (earlier_lines n ls ≡ Ok tt)
    go true h q = (ltb-true l n h, q)
    go false h q = absurd (err_ok q)

fit_channel : (b : Box) (n c : ℕ) → fit b n (Channel c) ≡ Ok tt → c < length b.lower
fit_channel b n c e = after_ok _ (found NoChannel n (slice_get b.lower c)) _ tt e (λ l el _. nth_in b.lower c l (found_ok _ n _ l el))

abbrev judged : Bool → ℕ → Result (Unit {0}) Fault
judged t n = cond t (Ok tt) (refused Number n)

fit_constant : (b : Box) (n : ℕ) (z : ℤ) → fit b n (Constant z) ≡ Ok tt → folded z ≤ 2147483647
fit_constant b n z e = go (is_count z) refl e
  where
    within : (z : ℤ) → nat_abs z ≤ 1073741823 → folded z ≤ 2147483647
    within (pos k) h = omega arith
    within (negsuc k) h = omega arith

    go : (t : Bool) → is_count z ≡ t → judged t n ≡ Ok tt → folded z ≤ 2147483647
    go true h q = let p = both_true (le_z (neg_ℤ (pos 1073741823)) z) (le_z z (pos 1073741823)) h in let l = le_z_yes {a = neg_ℤ (pos 1073741823)} {b = z} p.0 in let u = le_z_yes {a = z} {b = pos 1073741823} p.1 in within z (omega (arith, ints))
    go false h q = absurd (err_ok q)

two : (n l r : ℕ) → n ≤ 64 → earlier_lines n (l ∷ r ∷ []) ≡ Ok tt → (l ≤ 2147483647) × (r ≤ 2147483647) × (0 ≤ 2147483647)
two n l r h e = let k = fit_earlier n l (r ∷ []) e in let x = k.0 in let y = (fit_earlier n r [] k.1).0 in (omega arith, omega arith, omega arith)

fit_readable : (b : Box) (n : ℕ) (l : Line) → length b.lower ≤ 8 → n ≤ 64 → fit b n l ≡ Ok tt → Readable l
fit_readable b n (Channel c) few h e = let k = fit_channel b n c e in (omega arith, omega arith, omega arith)
fit_readable b n (Constant z) few h e = (fit_constant b n z e, omega arith, omega arith)
fit_readable b n (Sum l r) few h e = two n l r h e
fit_readable b n (Difference l r) few h e = two n l r h e
fit_readable b n (Product l r) few h e = two n l r h e
fit_readable b n (Quotient l r) few h e = two n l r h e
fit_readable b n (Square l) few h e = let k = (fit_earlier n l [] e).0 in (omega arith, omega arith, omega arith)
fit_readable b n (Magnitude l) few h e = let k = (fit_earlier n l [] e).0 in (omega arith, omega arith, omega arith)
fit_readable b n (Greater l r) few h e = two n l r h e
fit_readable b n (Lesser l r) few h e = two n l r h e
fit_readable b n (Branch s q r) few h e =
    let k = fit_earlier n s (q ∷ r ∷ []) e in let j = fit_earlier n q (r ∷ []) k.1 in let i = (fit_earlier n r [] j.1).0 in
    let x = k.0 in let y = j.0 in (omega arith, omega arith, omega arith)

module _ {K : Type 0} (m : Model K) (b : Box) where
  -- a line that has a record is fit
  ruled_fit : (rs : List (Record K)) (l : Line) (r : Record K) → rule m b rs l ≡ Ok r → fit b (length rs) l ≡ Ok tt
  ruled_fit rs l r e = go (fit b (length rs) l) (fit_judges m b rs l)
    where
      go : (v : Result (Unit {0}) Fault) → Judged (length rs) v (rule m b rs l) → v ≡ Ok tt
      go (Ok tt) h = refl
      go (Err f) h = absurd (err_ok (sym h ∙ e))

  module _ (few : length b.lower ≤ 8) (bytes : List ℕ) where
    -- lines that have records are read from where they are written
    read_there : (ls : List Line) (at : ℕ) (before : List Line) (rs made : List (Record K)) → length rs + length ls ≤ 64 → drop at bytes ≡ lines_bytes ls → records_from m b rs ls ≡ Ok made
        → read_lines m b (length ls) bytes at before rs ≡ ends (Ok tt) (before ++ ls) made
    read_there [] at before rs made h e q = ap₂ (λ r ls. ends r ls rs) (end_there bytes at e) (sym (append-nil before)) ∙ ap (ends (Ok tt) (before ++ [])) (ok_is q)
    read_there (l ∷ ls) at before rs made h e q = after_ok _ (rule m b rs l) _ made q (λ r er q1.
        let ok = fit_readable b (length rs) l few (omega arith) (ruled_fit rs l r er) in
        let n = length-append rs (r ∷ []) in
        ap (λ x. goes_on x before rs (λ p. goes_on (rule m b rs p.0) before rs (λ r. read_lines m b (length ls) bytes p.1 (before ++ p.0 ∷ []) (rs ++ r ∷ [])))) (there_line bytes at l (lines_bytes ls) ok e)
        ∙ ap (λ x. goes_on x before rs (λ r. read_lines m b (length ls) bytes (at + length (line_bytes l)) (before ++ l ∷ []) (rs ++ r ∷ []))) er
        ∙ read_there ls _ (before ++ l ∷ []) (rs ++ r ∷ []) made (omega arith) (behind bytes at (line_bytes l) (lines_bytes ls) e) q1
        ∙ ap (λ xs. ends (Ok tt) xs made) (append_assoc before (l ∷ []) ls))

  -- a reading that was accepted went on at each step
  pub goes_ok : {X : Type 0} (P : Type 0) (x : Result X Fault) (ls : List Line) (rs : List (Record K)) (f : X → Outcome K) (all : List Line) (made : List (Record K)) → goes_on x ls rs f ≡ ends (Ok tt) all made
      → ((y : X) → x ≡ Ok y → f y ≡ ends (Ok tt) all made → P) → P
  goes_ok P (Ok y) ls rs f all made e k = k y refl e
  goes_ok P (Err d) ls rs f all made e k = absurd (err_ok (ap (λ o. o.answer) e))

  -- lines that were read with records are those of the bytes
  read_spells : (n : ℕ) (bytes : List ℕ) (at : ℕ) (before all : List Line) (rs made : List (Record K)) → read_lines m b n bytes at before rs ≡ ends (Ok tt) all made → lines_from n bytes at before ≡ Ok all
  read_spells zero bytes at before all rs made e = ap (λ r. after r (λ _. Ok before)) (ap (λ o. o.answer) e) ∙ ap (λ o. Ok o.lines) e
  read_spells (suc n) bytes at before all rs made e = goes_ok _ (line_at bytes at) before rs _ all made e (λ p ep q. goes_ok _ (rule m b rs p.0) before rs _ all made q (λ r er k.
      ap (λ x. after x (λ p. lines_from n bytes p.1 (before ++ p.0 ∷ []))) ep ∙ read_spells n bytes p.1 (before ++ p.0 ∷ []) all (rs ++ r ∷ []) made k))

  pub formula_spells : (bytes : List ℕ) (all : List Line) (made : List (Record K)) → read_formula m b bytes ≡ ends (Ok tt) all made → formula_at bytes ≡ Ok all
  formula_spells bytes all made e = goes_ok _ (count_at bytes) [] [] _ all made e (λ p ep q.
      ap (λ x. after x (λ p. lines_from p.0 bytes p.1.at [])) ep ∙ read_spells p.0 bytes p.1.at [] all [] made q)

pub read_trips : {K : Type 0} (m : Model K) → ReadTrips m
read_trips m = record {
  there = λ b ls rs few some most e.
      let n = length ls in
      ap (λ x. goes_on x [] [] (λ p. read_lines m b p.0 (formula_bytes ls) p.1.at [] [])) (count_there (formula_bytes ls) n (lines_bytes ls) some most refl)
      ∙ read_there m b few (formula_bytes ls) ls (length (encode n)) [] [] rs (omega arith) (drop-append_seam (encode n) (lines_bytes ls)) e;
  back = λ b bytes ls rs all e. back bytes all ls (formula_spells m b bytes ls rs e);
}
