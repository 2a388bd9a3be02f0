-- Making the records anew, line by line.
use Rattle.std.proofs.Common.{◌≡◌, ℕ, ◌+◌, ◌<◌, ◌≤◌, List, [], ◌∷◌, ◌++◌, length, get_or, take, drop, set, IsErrAnd, Ok, Err, Result, sym, ap, ◌∙◌, subst, ap₂, arith, length-append}
use Rattle.std.proofs.lemmas.List.{drop_all, drop_more, take_more, take_more_set}
use Rattle.std.proofs.lemmas.Result.{err_from_is_err_and}
use Rattle.boxes.specs.Boxes.{Box}
use Rattle.fault.specs.declared.fault.Fault.{Fault}
use Rattle.kind.specs.Model.{Model}
use Rattle.line.specs.declared.line.Line.{Line}
use Rattle.rule.specs.Rule.{rule}
use Rattle.slope.specs.declared.record.Record.{Record}
use Rattle.sheet.proofs.Trips.{goes_ok}
use Rattle.sheet.proofs.Overlay.{Front, front_grows, front_is}
use Rattle.sheet.specs.Moving.{remade}
use Rattle.sheet.specs.Reading.{Outcome, ends, goes_on, overlaid}

module _ {K : Type 0} (m : Model K) (b : Box) (ls : List Line) (w0 : List (Record K)) where
  abbrev outcome : Outcome K
  outcome = remade m b ls [] []

  -- the records of n lines are made
  pub record Going (w : List (Record K)) (n : ℕ) : Type 0 where
    pub so_far : outcome ≡ remade m b (drop n ls) (take n ls) (take n w)
    pub front : Front w w0 n
    pub some : n ≤ length ls

  pub record Ended (r : Result (Unit {0}) Fault) (w : List (Record K)) : Type 0 where
    pub answer_is : r ≡ outcome.answer
    pub records_are : w ≡ overlaid outcome.records w0

  module _ {w : List (Record K)} {n : ℕ} (g : Going w n) where
    ended : (r : Result (Unit {0}) Fault) → outcome ≡ ends r (take n ls) (take n w) → Ended r w
    ended r e = record { answer_is = sym (ap (λ o. o.answer) e); records_are = front_is g.front ∙ sym (ap (λ o. overlaid o.records w0) e) }

    pub going_end : length ls ≤ n → Ended (Ok tt) w
    going_end h = ended (Ok tt) (g.so_far ∙ ap (λ k. remade m b k (take n ls) (take n w)) (drop_all n ls h))

    module _ {line : Line} (d : Line) (h : n < length ls) (here : line ≡ get_or ls n d) where
      abbrev one : Result (Record K) Fault → Outcome K
      one F = goes_on F (take n ls) (take n w) (λ r. remade m b (drop (n + 1) ls) (take n ls ++ line ∷ []) (take n w ++ r ∷ []))

      next_line : outcome ≡ one (rule m b (take n w) line)
      next_line = g.so_far ∙ ap (λ k. remade m b k (take n ls) (take n w)) (drop_more ls n d h) ∙ ap (λ l. remade m b (l ∷ drop (n + 1) ls) (take n ls) (take n w)) (sym here)

      pub bad_record : {e : Fault} → Err e ≡ rule m b (take n w) line → (r : Result (Unit {0}) Fault) → IsErrAnd r (λ y. y ≡ e) → Ended r w
      bad_record {e} f r k = let p = err_from_is_err_and r k in ended r (next_line ∙ ap one (sym f) ∙ ap (λ x. ends x (take n ls) (take n w)) (sym (p.1 ∙ ap Err p.2)))

      pub going_on : {made : Record K} {after : List (Record K)} → after ≡ set w n made → Ok made ≡ rule m b (take n w) line → n < length w → Going after (n + 1)
      going_on {made} e f k = subst (λ w. Going w (n + 1)) (sym e) (record {
        so_far = next_line ∙ ap one (sym f) ∙ ap₂ (remade m b (drop (n + 1) ls)) (sym (take_more ls n d h ∙ ap (λ l. take n ls ++ l ∷ []) (sym here))) (sym (take_more_set w n made k));
        front = front_grows g.front made k;
        some = omega arith;
      })

module _ {K : Type 0} (m : Model K) (b : Box) where
  -- records of accepted lines are made by the rules, one for each line
  pub remade_long : (ls done all : List Line) (rs made : List (Record K)) → remade m b ls done rs ≡ ends (Ok tt) all made → length made ≡ length rs + length ls
  remade_long [] done all rs made e = let l = ap (λ o. length o.records) e in omega arith
  remade_long (l ∷ ls) done all rs made e = goes_ok m b _ (rule m b rs l) done rs _ all made e (λ r er q. let n = remade_long ls (done ++ l ∷ []) all (rs ++ r ∷ []) made q in let k = length-append rs (r ∷ []) in omega arith)
