-- Reading line by line.
use Rattle.std.proofs.Common.{◌≡◌, ℕ, suc, ◌+◌, ◌-◌, ◌<◌, ◌≤◌, true, List, [], ◌∷◌, ◌++◌, length, take, set, is_ok, IsErrAnd, IfOk, IfErr, Ok, Err, Result, sym, refl, ap, ◌∙◌, subst, ap₂, true≢false, arith, MatchResult}
use Rattle.std.proofs.lemmas.List.{take_more_set}
use Rattle.std.proofs.lemmas.Result.{err_from_is_err_and}
use Rattle.boxes.specs.Boxes.{Box}
use Rattle.fault.specs.declared.fault.Fault.{Fault}
use Rattle.kind.specs.Model.{Model}
use Rattle.leb.specs.Places.{Stands}
use Rattle.line.specs.declared.line.Line.{Line}
use Rattle.reader.specs.Reading.{end_at, line_at}
use Rattle.rule.specs.Rule.{rule}
use Rattle.slope.specs.declared.record.Record.{Record}
use Rattle.sheet.proofs.Overlay.{Front, front_grows, front_is}
use Rattle.sheet.specs.Reading.{Outcome, ends, goes_on, overlaid, read_lines}

no_ok : {X : Type 0} (e : Fault) (r : Result X Fault) → IsErrAnd r (λ y. y ≡ e) → is_ok r ≡ true → ⊥
no_ok e (Ok x) h t = h
no_ok e (Err y) h t = true≢false (sym t)

-- ---- what the reader's answer says of the bytes

module _ {X : Type 0} (from to : ℕ) where
  pub stands_err : (F : Result (X × ℕ) Fault) {r : Result X Fault} {e : Fault} → Stands F r from to → r ≡ Err e → F ≡ Err e
  stands_err (Ok p) {e = e} s q = absurd (subst (λ r. IfOk r (λ _. ⊥)) (sym q ∙ s.0) tt)
  stands_err (Err f) {e = e} s q = ap Err (subst (λ r. MatchResult r (λ _. ⊥) (λ y. y ≡ e)) (sym q ∙ s.0) refl)

  pub stands_ok : (F : Result (X × ℕ) Fault) {r : Result X Fault} {x : X} → Stands F r from to → r ≡ Ok x → F ≡ Ok (x, to)
  stands_ok (Ok p) {x = x} s q = let e : p.0 ≡ x = subst (λ r. MatchResult r (λ y. y ≡ x) (λ _. ⊥)) (sym q ∙ s.0) refl in (λ i. Ok (e i, sym s.1 i))
  stands_ok (Err f) {x = x} s q = absurd (subst (λ r. IfErr r (λ _. ⊥)) (sym q ∙ s.0) tt)

module _ {K : Type 0} (m : Model K) (b : Box) (count : ℕ) (bytes : List ℕ) (from : ℕ) (w0 : List (Record K)) where
  abbrev outcome : Outcome K
  outcome = read_lines m b count bytes from [] []

  -- n lines are read, and the reader stands at a place
  pub record Going (lines : List Line) (working : List (Record K)) (place n : ℕ) : Type 0 where
    pub so_far : outcome ≡ read_lines m b (count - n) bytes place (take n lines) (take n working)
    pub front : Front working w0 n
    pub some : n ≤ count

  -- the reading has ended
  pub record Ended (r : Result (Unit {0}) Fault) (lines : List Line) (working : List (Record K)) : Type 0 where
    pub answer_is : r ≡ outcome.answer
    pub lines_are : is_ok r ≡ true → take count lines ≡ outcome.lines
    pub records_are : working ≡ overlaid outcome.records w0

  module _ {lines : List Line} {working : List (Record K)} {place n : ℕ} (g : Going lines working place n) where
    ended : (r : Result (Unit {0}) Fault) → (is_ok r ≡ true → n ≡ count) → outcome ≡ ends r (take n lines) (take n working) → Ended r lines working
    ended r all e = record {
      answer_is = sym (ap (λ o. o.answer) e);
      lines_are = λ t. ap (λ k. take k lines) (sym (all t)) ∙ sym (ap (λ o. o.lines) e);
      records_are = front_is g.front ∙ sym (ap (λ o. overlaid o.records w0) e);
    }

    pub going_end : count ≤ n → (r : Result (Unit {0}) Fault) → r ≡ end_at bytes place → Ended r lines working
    going_end h r q = ended r (λ _. let s = g.some in omega arith) (g.so_far ∙ ap (λ k. read_lines m b k bytes place (take n lines) (take n working)) {x = count - n} {y = 0} (omega arith)
        ∙ ap (λ x. ends x (take n lines) (take n working)) (sym q))

    module _ (k : n < count) where
      abbrev one : Result (Line × ℕ) Fault → Outcome K
      one F = goes_on F (take n lines) (take n working) (λ p. goes_on (rule m b (take n working) p.0) (take n lines) (take n working) (λ r.
          read_lines m b (count - (n + 1)) bytes p.1 (take n lines ++ p.0 ∷ []) (take n working ++ r ∷ [])))

      next_line : outcome ≡ one (line_at bytes place)
      next_line = g.so_far ∙ ap (λ k. read_lines m b k bytes place (take n lines) (take n working)) {x = count - n} {y = suc (count - (n + 1))} (omega arith)

      pub bad_line : {e : Fault} → line_at bytes place ≡ Err e → (r : Result (Unit {0}) Fault) → IsErrAnd r (λ y. y ≡ e) → Ended r lines working
      bad_line {e} q r h = let p = err_from_is_err_and r h in ended r (λ t. absurd (no_ok e r h t)) (next_line ∙ ap one q ∙ ap (λ x. ends x (take n lines) (take n working)) (sym (p.1 ∙ ap Err p.2)))

      module _ {line : Line} {place' : ℕ} (q : line_at bytes place ≡ Ok (line, place')) where
        abbrev two : Result (Record K) Fault → Outcome K
        two F = goes_on F (take n lines) (take n working) (λ r. read_lines m b (count - (n + 1)) bytes place' (take n lines ++ line ∷ []) (take n working ++ r ∷ []))

        pub bad_record : {e : Fault} → Err e ≡ rule m b (take n working) line → (r : Result (Unit {0}) Fault) → IsErrAnd r (λ y. y ≡ e) → Ended r lines working
        bad_record {e} f r h = let p = err_from_is_err_and r h in ended r (λ t. absurd (no_ok e r h t)) (next_line ∙ ap one q ∙ ap two (sym f) ∙ ap (λ x. ends x (take n lines) (take n working)) (sym (p.1 ∙ ap Err p.2)))

        pub going_on : {made : Record K} {after : List (Record K)} → after ≡ set working n made → Ok made ≡ rule m b (take n working) line → n < length lines → n < length working → Going (set lines n line) after place' (n + 1)
        going_on {made} e f hl hw = subst (λ w. Going (set lines n line) w place' (n + 1)) (sym e) (record {
          so_far = next_line ∙ ap one q ∙ ap two (sym f)
              ∙ ap₂ (read_lines m b (count - (n + 1)) bytes place') (sym (take_more_set lines n line hl)) (sym (take_more_set working n made hw));
          front = front_grows g.front made hw;
          some = omega arith;
        })
