-- Records of lines that are taken away, or put on.
use Rattle.std.proofs.Common.{◌≡◌, ℕ, zero, suc, ◌+◌, ◌≤◌, List, [], ◌∷◌, ◌++◌, length, take, drop, Ok, Err, Result, sym, refl, ap, ◌∙◌, arith, append-nil, length-append, length-take-le, take-append-drop}
use Rattle.std.proofs.Math.Seq.{take-append_seam}
use Rattle.boxes.specs.Boxes.{Box}
use Rattle.fault.proofs.Steps.{after_ok, ok_is}
use Rattle.fault.specs.Refusals.{after}
use Rattle.fault.specs.declared.fault.Fault.{Fault}
use Rattle.kind.specs.Model.{Model}
use Rattle.line.specs.declared.line.Line.{Line}
use Rattle.rule.specs.Records.{records, records_from}
use Rattle.rule.specs.Rule.{rule}
use Rattle.slope.specs.declared.record.Record.{Record}

module _ {X : Type 0} where
  pub take_shorter : (k n : ℕ) (xs : List X) → k ≤ n → take k (take n xs) ≡ take k xs
  take_shorter zero n xs h = refl
  take_shorter (suc k) zero xs h = absurd (omega arith)
  take_shorter (suc k) (suc n) [] h = refl
  take_shorter (suc k) (suc n) (x ∷ xs) h = ap (λ zs. x ∷ zs) (take_shorter k n xs (omega arith))

module _ {K : Type 0} (m : Model K) (b : Box) where
  pub split : (rs : List (Record K)) (ls more : List Line) → records_from m b rs (ls ++ more) ≡ after (records_from m b rs ls) (λ made. records_from m b made more)
  split rs [] more = refl
  split rs (l ∷ ls) more = go (rule m b rs l) (λ r. split (rs ++ r ∷ []) ls more)
    where
      go : (r : Result (Record K) Fault) → ((r : Record K) → records_from m b (rs ++ r ∷ []) (ls ++ more) ≡ after (records_from m b (rs ++ r ∷ []) ls) (λ made. records_from m b made more))
          → after r (λ r. records_from m b (rs ++ r ∷ []) (ls ++ more)) ≡ after (after r (λ r. records_from m b (rs ++ r ∷ []) ls)) (λ made. records_from m b made more)
      go (Ok r) k = k r
      go (Err e) k = refl

  -- one record for each line
  pub lengths : (rs : List (Record K)) (ls : List Line) (made : List (Record K)) → records_from m b rs ls ≡ Ok made → length made ≡ length rs + length ls
  lengths rs [] made e = let l = ap length (ok_is e) in omega arith
  lengths rs (l ∷ ls) made e = after_ok _ (rule m b rs l) _ made e (λ r er q. let n = lengths (rs ++ r ∷ []) ls made q in let k = length-append rs (r ∷ []) in omega arith)

  -- later lines leave the records of earlier ones
  pub front : (rs : List (Record K)) (ls : List Line) (made : List (Record K)) → records_from m b rs ls ≡ Ok made → take (length rs) made ≡ rs
  front rs [] made e = ap (take (length rs)) (sym (ok_is e) ∙ sym (append-nil rs)) ∙ take-append_seam rs []
  front rs (l ∷ ls) made e = after_ok _ (rule m b rs l) _ made e (λ r er q.
      sym (take_shorter (length rs) (length (rs ++ r ∷ [])) made (let k = length-append rs (r ∷ []) in omega arith)) ∙ ap (take (length rs)) (front (rs ++ r ∷ []) ls made q) ∙ take-append_seam rs (r ∷ []))

  pub grow : (ls : List Line) (rs : List (Record K)) (l : Line) (r : Record K) → records m b ls ≡ Ok rs → rule m b rs l ≡ Ok r → records m b (ls ++ l ∷ []) ≡ Ok (rs ++ r ∷ [])
  grow ls rs l r e q = split [] ls (l ∷ []) ∙ ap (λ x. after x (λ made. records_from m b made (l ∷ []))) e ∙ ap (λ x. after x (λ r. Ok (rs ++ r ∷ []))) q

  -- the records of the first k lines are the first k records
  pub shorten : (k : ℕ) (ls : List Line) (rs : List (Record K)) → k ≤ length ls → records m b ls ≡ Ok rs → records m b (take k ls) ≡ Ok (take k rs)
  shorten k ls rs h e =
      after_ok _ (records m b (take k ls)) (λ made. records_from m b made (drop k ls)) rs (sym (split [] (take k ls) (drop k ls)) ∙ ap (records m b) (take-append-drop k ls) ∙ e) (λ made em q.
      em ∙ ap Ok (sym (front made (drop k ls) rs q) ∙ ap (λ n. take n rs) (let n = lengths [] (take k ls) made em in let l = length-take-le k ls h in omega arith)))

  -- a line more has its record by those of the lines before it
  pub last : (ls : List Line) (l : Line) (made : List (Record K)) → records m b (ls ++ l ∷ []) ≡ Ok made → (rs : List (Record K)) × (r : Record K) × (records m b ls ≡ Ok rs) × (rule m b rs l ≡ Ok r)
  last ls l made e = after_ok _ (records m b ls) (λ rs. records_from m b rs (l ∷ [])) made (sym (split [] ls (l ∷ [])) ∙ e) (λ rs er q. after_ok _ (rule m b rs l) _ made q (λ r el _. (rs, r, er, el)))
