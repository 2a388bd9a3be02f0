-- Records that are made one after the other: the first n are made, and behind them stands what was there.
use Rattle.std.proofs.Common.{◌≡◌, ℕ, ◌+◌, ◌<◌, ◌≤◌, List, ◌++◌, length, take, drop, set, sym, ap, ◌∙◌, arith, length-set, take-append-drop, length-take-le, drop-drop, drop-set-lt}
use Rattle.slope.specs.declared.record.Record.{Record}
use Rattle.sheet.specs.Reading.{overlaid}

module _ {K : Type 0} where
  pub record Front (w w0 : List (Record K)) (n : ℕ) : Type 0 where
    pub rest : drop n w ≡ drop n w0
    pub long : length w ≡ length w0
    pub within : n ≤ length w

  module _ {w w0 : List (Record K)} {n : ℕ} (f : Front w w0 n) where
    pub front_is : w ≡ overlaid (take n w) w0
    front_is = sym (ap (λ k. take n w ++ drop k w0) (length-take-le n w f.within) ∙ ap (λ ws. take n w ++ ws) (sym f.rest) ∙ take-append-drop n w)

    pub front_grows : (made : Record K) → n < length w → Front (set w n made) w0 (n + 1)
    front_grows made h = record {
      rest = drop-set-lt (n + 1) w n made (omega arith) ∙ (sym (drop-drop 1 n w) ∙ ap (drop 1) f.rest ∙ drop-drop 1 n w0);
      long = length-set w n made ∙ f.long;
      within = let l = length-set w n made in omega arith;
    }
