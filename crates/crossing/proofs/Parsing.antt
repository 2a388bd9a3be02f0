-- Reading the lines of a formula one by one.
use Rattle.std.proofs.Common.{◌≡◌, ◌==◌, ℕ, Bool, true, false, cond, nat_lt, suc, refl, ◌+◌, ◌-◌, ◌<◌, ◌≤◌, List, [], ◌∷◌, ◌++◌, length, take, set, Ok, sym, ap, ◌∙◌, arith, length-set}
use Rattle.std.proofs.lemmas.Bool.{ltb-false}
use Rattle.std.proofs.lemmas.List.{take_more_set}
use Rattle.fault.proofs.Steps.{after_ok, err_ok, ok_is}
use Rattle.fault.specs.Refusals.{after, refused}
use Rattle.fault.specs.declared.fault.Cause.TheVariants.{Count}
use Rattle.leb.specs.Places.{number_at}
use Rattle.leb.specs.declared.place.Place.{Place}
use Rattle.line.specs.declared.line.Line.{Line}
use Rattle.reader.specs.Reading.{count_at, end_at, line_at, lines_from}

pub count_few : (bytes : List ℕ) {n : ℕ} {p : Place} → count_at bytes ≡ Ok (n, p) → n ≤ 64
count_few bytes {n} {p} e = after_ok (n ≤ 64) (number_at bytes 0 0) (λ k. cond (nat_lt 64 k.0) (refused {X = ℕ × Place} Count 0) (cond (k.0 == 0) (refused {X = ℕ × Place} Count 0) (Ok (k.0, record { at = k.1 })))) (n, p) e (λ k _ q. go k (nat_lt 64 k.0) (k.0 == 0) refl q)
  where
    go : (k : ℕ × ℕ) (t u : Bool) → nat_lt 64 k.0 ≡ t → cond t (refused {X = ℕ × Place} Count 0) (cond u (refused {X = ℕ × Place} Count 0) (Ok (k.0, record { at = k.1 }))) ≡ Ok (n, p) → n ≤ 64
    go k true u e q = absurd (err_ok q)
    go k false true e q = absurd (err_ok q)
    go k false false e q = let few = ltb-false 64 k.0 e in let is : k.0 ≡ n = ap (λ r. r.0) (ok_is q) in omega arith

module _ (bytes : List ℕ) (count from : ℕ) where
  -- n lines are read
  pub record Going (lines : List Line) (place n : ℕ) : Type 0 where
    pub so_far : lines_from count bytes from [] ≡ lines_from (count - n) bytes place (take n lines)
    pub some : n ≤ count
    pub whole : length lines ≡ 64

  module _ {lines : List Line} {place n : ℕ} (g : Going lines place n) where
    pub goes_on : {line : Line} {place' : ℕ} → line_at bytes place ≡ Ok (line, place') → n < count → count ≤ 64 → Going (set lines n line) place' (n + 1)
    goes_on {line} {place'} q h few = record {
      so_far = g.so_far
          ∙ ap (λ k. lines_from k bytes place (take n lines)) {x = count - n} {y = suc (count - (n + 1))} (omega arith)
          ∙ ap (λ r. after r (λ p. lines_from (count - (n + 1)) bytes p.1 (take n lines ++ p.0 ∷ []))) q
          ∙ ap (lines_from (count - (n + 1)) bytes place') (sym (take_more_set lines n line (let l = g.whole in omega arith)));
      some = omega arith;
      whole = length-set lines n line ∙ g.whole;
    }

    pub all_read : count ≤ n → Ok tt ≡ end_at bytes place → lines_from count bytes from [] ≡ Ok (take count lines)
    all_read h q = g.so_far
        ∙ ap (λ k. lines_from k bytes place (take n lines)) {x = count - n} {y = 0} (omega arith)
        ∙ ap (λ r. after r (λ _. Ok (take n lines))) (sym q)
        ∙ ap (λ k. Ok (take k lines)) {x = n} {y = count} (let s = g.some in omega arith)
