-- What an accepted move and an accepted read tell of the records they made.
use Rattle.std.proofs.Common.{◌≡◌, ◌==◌, ℕ, zero, suc, ◌+◌, ◌<◌, ◌≤◌, Bool, true, false, cond, nat_lt, List, [], ◌∷◌, ◌++◌, length, ℤ, Ok, Err, Result, sym, refl, ap, ◌∙◌, subst, arith, length-append}
use Rattle.std.proofs.lemmas.Bool.{lt-ltb, ltb-false}
use Rattle.boxes.specs.Boxes.{Box}
use Rattle.boxes.specs.Moving.{moved}
use Rattle.fault.proofs.Steps.{after_ok, err_ok, ok_is}
use Rattle.fault.specs.Refusals.{after, refused}
use Rattle.fault.specs.declared.fault.Cause.TheVariants.{Count, Lines, NotEmpty}
use Rattle.fault.specs.declared.fault.Fault.{Fault}
use Rattle.kind.specs.Model.{Model}
use Rattle.leb.specs.declared.place.Place.{Place}
use Rattle.line.specs.declared.line.Line.{Line}
use Rattle.leb.specs.Places.{number_at}
use Rattle.reader.specs.Reading.{count_at, line_at}
use Rattle.rule.specs.Records.{records, records_from}
use Rattle.rule.specs.Rule.{rule}
use Rattle.runs.proofs.Lists.{grow}
use Rattle.runs.specs.Events.{given_of, lines_given}
use Rattle.sheet.proofs.Trips.{formula_spells, goes_ok}
use Rattle.sheet.specs.Contents.{Contents}
use Rattle.sheet.specs.Moving.{move_onto, new_box, remade}
use Rattle.sheet.specs.Reading.{Outcome, ends, read_formula, read_lines, read_onto}
use Rattle.slope.specs.declared.record.Record.{Record}

-- an accepted outcome
accepted_is : {K : Type 0} (o : Outcome K) → o.answer ≡ Ok tt → o ≡ ends (Ok tt) o.lines o.records
accepted_is o e = ap (λ a. ends a o.lines o.records) e

some_lines : (bytes : List ℕ) {p : ℕ × Place} → count_at bytes ≡ Ok p → p.0 ≤ 64
some_lines bytes {p} e = after_ok _ (number_at bytes 0 0) _ p e (λ n _ q. go n (nat_lt 64 n.0) refl q)
  where
    go : (n : ℕ × ℕ) (t : Bool) → nat_lt 64 n.0 ≡ t → cond t (refused Count 0) (cond (n.0 == 0) (refused Count 0) (Ok (n.0, record { at = n.1 }))) ≡ Ok p → p.0 ≤ 64
    go n true h q = absurd (err_ok q)
    go n false h q = here (n.0 == 0) q
      where
        here : (t : Bool) → cond t (refused Count 0) (Ok (n.0, record { at = n.1 })) ≡ Ok p → p.0 ≤ 64
        here true q = absurd (err_ok q)
        here false q = subst (λ k. k ≤ 64) (ap (λ x. x.0) (ok_is q)) (ltb-false 64 n.0 h)

module _ {K : Type 0} (m : Model K) where
  module _ (b : Box) where
    remade_ok : (ls done all : List Line) (rs made : List (Record K)) → remade m b ls done rs ≡ ends (Ok tt) all made → records_from m b rs ls ≡ Ok made
    remade_ok [] done all rs made e = ap (λ o. Ok o.records) e
    remade_ok (l ∷ ls) done all rs made e = goes_ok m b _ (rule m b rs l) done rs _ all made e (λ r er q.
        ap (λ x. after x (λ r. records_from m b (rs ++ r ∷ []) ls)) er ∙ remade_ok ls (done ++ l ∷ []) all (rs ++ r ∷ []) made q)

    lines_ok : (n : ℕ) (bytes : List ℕ) (at : ℕ) (before all : List Line) (rs made : List (Record K)) → read_lines m b n bytes at before rs ≡ ends (Ok tt) all made
        → records m b before ≡ Ok rs → (records m b all ≡ Ok made) × (length all ≡ length before + n)
    lines_ok zero bytes at before all rs made e h = (ap (records m b) (sym (ap (λ o. o.lines) e)) ∙ h ∙ ap (λ o. Ok o.records) e, let k = ap (λ o. length o.lines) e in omega arith)
    lines_ok (suc n) bytes at before all rs made e h = goes_ok m b _ (line_at bytes at) before rs _ all made e (λ p ep q. goes_ok m b _ (rule m b rs p.0) before rs _ all made q (λ r er k.
        let i = lines_ok n bytes p.1 (before ++ p.0 ∷ []) all (rs ++ r ∷ []) made k (grow m b before rs p.0 r h er) in
        let j = i.1 in let s = length-append before (p.0 ∷ []) in (i.0, omega arith)))

    pub formula_ok : (bytes : List ℕ) → (read_formula m b bytes).answer ≡ Ok tt
        → ((read_formula m b bytes).lines ≡ lines_given bytes) × (records m b (read_formula m b bytes).lines ≡ Ok (read_formula m b bytes).records) × (length (read_formula m b bytes).lines ≤ 64)
    formula_ok bytes e =
        let o = read_formula m b bytes in
        let q = accepted_is o e in
        let c = goes_ok m b ((records m b o.lines ≡ Ok o.records) × (length o.lines ≤ 64)) (count_at bytes) [] [] _ o.lines o.records q (λ p ep k.
        let i = lines_ok p.0 bytes p.1.at [] o.lines [] o.records k refl in let j = i.1 in let few = some_lines bytes ep in (i.0, omega arith)) in
        (sym (ap given_of (formula_spells m b bytes o.lines o.records q)), c.0, c.1)

  -- onto a sheet that holds no line, or some
  abbrev onto : Contents → ℕ → Bool → Bool → List ℕ → Outcome K
  onto s lent few some bytes = cond few (ends (refused Lines 0) [] []) (cond some (ends (refused NotEmpty 0) [] []) (read_formula m s.over bytes))

  -- an accepted read: the sheet held no line, and enough working lines were lent
  pub read_ok : (s : Contents) (lent : ℕ) (bytes : List ℕ) → (read_onto m s lent bytes).answer ≡ Ok tt → (s.lines ≡ []) × (64 ≤ lent) × (read_onto m s lent bytes ≡ read_formula m s.over bytes)
  read_ok s lent bytes e = go (nat_lt lent 64) refl (nat_lt 0 (length s.lines)) refl e
    where
      none : (ls : List Line) → nat_lt 0 (length ls) ≡ false → ls ≡ []
      none [] h = refl
      none (l ∷ ls) h = let k = ltb-false 0 (length (l ∷ ls)) h in absurd (omega arith)

      go : (t : Bool) → nat_lt lent 64 ≡ t → (u : Bool) → nat_lt 0 (length s.lines) ≡ u → (onto s lent t u bytes).answer ≡ Ok tt → (s.lines ≡ []) × (64 ≤ lent) × (onto s lent t u bytes ≡ read_formula m s.over bytes)
      go true h u k q = absurd (err_ok q)
      go false h true k q = absurd (err_ok q)
      go false h false k q = (none s.lines k, ltb-false lent 64 h, refl)

  -- a read leaves made records only where no line is held
  pub read_made : (s : Contents) (lent : ℕ) (bytes : List ℕ) → 0 < length s.lines → (read_onto m s lent bytes).records ≡ []
  read_made s lent bytes h = ap (λ u. (onto s lent (nat_lt lent 64) u bytes).records) (lt-ltb 0 (length s.lines) h) ∙ go (nat_lt lent 64)
    where
      go : (t : Bool) → (onto s lent t true bytes).records ≡ []
      go true = refl
      go false = refl

  -- an accepted move: there is a new box, and all records are those of the rules over it
  pub move_ok : (s : Contents) (over : Result Box Fault) → (move_onto m s over).answer ≡ Ok tt → (b : Box) × (over ≡ Ok b) × (records m b s.lines ≡ Ok (move_onto m s over).records)
  move_ok s (Err f) e = absurd (err_ok e)
  move_ok s (Ok b) e = (b, refl, remade_ok b s.lines [] _ [] _ (accepted_is (remade m b s.lines [] []) e))

-- a new box: the channel was moved
pub new_ok : (s : Contents) (lent spare channel : ℕ) (lower upper centre : ℤ) {b : Box} → new_box s lent spare channel lower upper centre ≡ Ok b → moved s.over channel lower upper centre ≡ Ok b
new_ok s lent spare channel lower upper centre {b} e = go (nat_lt lent 64) (nat_lt spare 64) e
  where
    go : (t u : Bool) → cond t (refused Lines 0) (cond u (refused Lines 0) (moved s.over channel lower upper centre)) ≡ Ok b → moved s.over channel lower upper centre ≡ Ok b
    go true u q = absurd (err_ok q)
    go false true q = absurd (err_ok q)
    go false false q = q
