-- A formula that was read is what reading it over a box makes records of.
use Rattle.std.proofs.Common.{◌≡◌, ℕ, zero, suc, List, [], ◌∷◌, ◌++◌, Ok, Err, Result, sym, refl, ap, ◌∙◌, append_assoc}
use Rattle.std.proofs.lemmas.List.{append-nil}
use Rattle.boxes.specs.Boxes.{Box}
use Rattle.fault.proofs.Steps.{err_ok, ok_is}
use Rattle.fault.specs.Refusals.{after}
use Rattle.fault.specs.declared.fault.Fault.{Fault}
use Rattle.kind.specs.Model.{Model}
use Rattle.line.specs.declared.line.Line.{Line}
use Rattle.reader.specs.Reading.{count_at, end_at, formula_at, line_at, lines_from}
use Rattle.rule.specs.Rule.{rule}
use Rattle.sheet.specs.Moving.{remade}
use Rattle.sheet.specs.Reading.{ends, goes_on, read_formula, read_lines}
use Rattle.slope.specs.declared.record.Record.{Record}

module _ {K : Type 0} (m : Model K) (b : Box) (bytes : List ℕ) where
  record Once (n at : ℕ) (ls all : List Line) : Type 0 where
    pub more : List Line
    pub all_are : all ≡ ls ++ more
    pub same : (rs : List (Record K)) → read_lines m b n bytes at ls rs ≡ remade m b more ls rs

  each : (n at : ℕ) (ls more : List Line) (line : Line) → ((rs : List (Record K)) → read_lines m b n bytes at (ls ++ line ∷ []) rs ≡ remade m b more (ls ++ line ∷ []) rs) → (F : Result (Record K) Fault) (rs : List (Record K))
      → goes_on F ls rs (λ r. read_lines m b n bytes at (ls ++ line ∷ []) (rs ++ r ∷ [])) ≡ goes_on F ls rs (λ r. remade m b more (ls ++ line ∷ []) (rs ++ r ∷ []))
  each n at ls more line h (Err e) rs = refl
  each n at ls more line h (Ok r) rs = h (rs ++ r ∷ [])

  once_more : (n at : ℕ) (ls all : List Line) → ((at : ℕ) (ls : List Line) → lines_from n bytes at ls ≡ Ok all → Once n at ls all)
      → (r : Result (Line × ℕ) Fault) → line_at bytes at ≡ r → after r (λ p. lines_from n bytes p.1 (ls ++ p.0 ∷ [])) ≡ Ok all → Once (suc n) at ls all
  once_more n at ls all h (Err e) q k = absurd (err_ok k)
  once_more n at ls all h (Ok p) q k = let o = h p.1 (ls ++ p.0 ∷ []) k in record {
    more = p.0 ∷ o.more;
    all_are = o.all_are ∙ append_assoc ls (p.0 ∷ []) o.more;
    same = λ rs. ap (λ r. goes_on r ls rs (λ p. goes_on (rule m b rs p.0) ls rs (λ r. read_lines m b n bytes p.1 (ls ++ p.0 ∷ []) (rs ++ r ∷ [])))) q ∙ each n p.1 ls o.more p.0 o.same (rule m b rs p.0) rs;
  }

  at_end : (at : ℕ) (ls all : List Line) (r : Result (Unit {0}) Fault) → end_at bytes at ≡ r → after r (λ _. Ok ls) ≡ Ok all → Once zero at ls all
  at_end at ls all (Err e) q h = absurd (err_ok h)
  at_end at ls all (Ok _) q h = record { more = []; all_are = sym (ok_is h) ∙ sym (append-nil ls); same = λ rs. ap (λ r. ends r ls rs) q }

  once : (n at : ℕ) (ls all : List Line) → lines_from n bytes at ls ≡ Ok all → Once n at ls all
  once zero at ls all h = at_end at ls all (end_at bytes at) refl h
  once (suc n) at ls all h = once_more n at ls all (λ at ls. once n at ls all) (line_at bytes at) refl h

  pub read_once : (ls : List Line) → formula_at bytes ≡ Ok ls → read_formula m b bytes ≡ remade m b ls [] []
  read_once ls = go (count_at bytes) refl
    where
      go : (r : _) → count_at bytes ≡ r → after r (λ p. lines_from p.0 bytes p.1.at []) ≡ Ok ls → goes_on (count_at bytes) [] [] (λ p. read_lines m b p.0 bytes p.1.at [] []) ≡ remade m b ls [] []
      go (Err e) q h = absurd (err_ok h)
      go (Ok p) q h = let k = once p.0 p.1.at [] ls h in
          ap (λ r. goes_on r [] [] (λ p. read_lines m b p.0 bytes p.1.at [] [])) q ∙ k.same [] ∙ ap (λ ls. remade m b ls [] []) (sym k.all_are)
