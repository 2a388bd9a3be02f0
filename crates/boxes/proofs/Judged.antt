-- Judging the ranges of the channels one by one, by counts or by their order alone.
use Rattle.std.proofs.Common.{◌≡◌, ℕ, suc, ◌+◌, ◌<◌, List, [], ◌∷◌, ◌++◌, length, get_or, map, take, drop, set, ℤ, pos, Ok, Err, Result, sym, refl, ap, ◌∙◌, ap₂, arith, length-set, take_all}
use Rattle.std.proofs.lemmas.List.{drop_all, drop_more, map_push, take_more, take_more_set}
use Rattle.fault.specs.Refusals.{after}
use Rattle.fault.specs.declared.fault.Fault.{Fault}
use Rattle.boxes.proofs.Accepted.{ordered_is, range_tells}
use Rattle.boxes.specs.Boxes.{ordered, range, ranges}
use Rattle.boxes.specs.Rising.{orders}
use Rattle.boxes.specs.Stored.{lowers, ranged, uppers}
use Rattle.boxes.specs.declared.range.Range.{Range}

-- ---- the judge of a channel's two ends, and of those of all channels from a number on
pub record Judge : Type 0 where
  pub one : ℤ → ℤ → ℕ → Result (ℤ × ℤ) Fault
  pub all : ℕ → List ℤ → List ℤ → Result (Unit {0}) Fault
  pub none : (n : ℕ) (us : List ℤ) → all n [] us ≡ Ok tt
  pub more : (n : ℕ) (l u : ℤ) (ls us : List ℤ) → all n (l ∷ ls) (u ∷ us) ≡ after (one l u n) (λ _. all (suc n) ls us)
  pub told : (l u : ℤ) (n : ℕ) {p : ℤ × ℤ} → one l u n ≡ Ok p → (l, u) ≡ p

-- that of open
abbrev pub by_count : Judge
by_count = record { one = range; all = ranges; none = λ n us. refl; more = λ n l u ls us. refl; told = λ l u n e. (range_tells l u n e).0 }

-- that of ends which need not be counts
abbrev pub by_order : Judge
by_order = record { one = ordered; all = orders; none = λ n us. refl; more = λ n l u ls us. refl; told = λ l u n e. (ordered_is l u n e).0 }

-- ---- the first n channels are judged and stored
pub record Judged (judge : Judge) (lower upper : List ℤ) (rs : List Range) (n : ℕ) : Type 0 where
  pub all : length rs ≡ 8
  pub lows : lowers (take n rs) ≡ take n lower
  pub highs : uppers (take n rs) ≡ take n upper
  pub rest : judge.all 0 lower upper ≡ judge.all n (drop n lower) (drop n upper)

module _ {judge : Judge} {lower upper : List ℤ} where
  -- the ends of the next channel as the code has them
  module _ {rs : List Range} {n : ℕ} (j : Judged judge lower upper rs n) (k : n < length lower) (k' : n < length upper)
      {x y : ℤ} (ex : x ≡ get_or lower n (pos 0)) (ey : y ≡ get_or upper n (pos 0)) where
    next : judge.all 0 lower upper ≡ after (judge.one x y n) (λ _. judge.all (n + 1) (drop (n + 1) lower) (drop (n + 1) upper))
    next = j.rest ∙ ap₂ (judge.all n) (drop_more lower n (pos 0) k) (drop_more upper n (pos 0) k')
        ∙ judge.more n _ _ _ _
        ∙ ap (λ i. after (judge.one (get_or lower n (pos 0)) (get_or upper n (pos 0)) n) (λ _. judge.all i (drop (n + 1) lower) (drop (n + 1) upper))) {x = suc n} {y = n + 1} (omega arith)
        ∙ sym (ap₂ (λ a b. after (judge.one a b n) (λ _. judge.all (n + 1) (drop (n + 1) lower) (drop (n + 1) upper))) ex ey)

    pub judged_out : {e : Fault} → Err e ≡ judge.one x y n → judge.all 0 lower upper ≡ Err e
    judged_out q = next ∙ ap (λ r. after r (λ _. judge.all (n + 1) (drop (n + 1) lower) (drop (n + 1) upper))) (sym q)

    pub judged_on : (r : Range) → n < 8 → ranged (Ok r) ≡ judge.one x y n → Judged judge lower upper (set rs n r) (n + 1)
    judged_on r few q = record {
      all = length-set rs n r ∙ j.all;
      lows = stored (λ r. r.lower) lower k j.lows (sym (ap (λ p. p.0) (judge.told x y n (sym q))) ∙ ex);
      highs = stored (λ r. r.upper) upper k' j.highs (sym (ap (λ p. p.1) (judge.told x y n (sym q))) ∙ ey);
      rest = next ∙ ap (λ r. after r (λ _. judge.all (n + 1) (drop (n + 1) lower) (drop (n + 1) upper))) (sym q);
    }
      where
        stored : (f : Range → ℤ) (ys : List ℤ) → n < length ys → map f (take n rs) ≡ take n ys → f r ≡ get_or ys n (pos 0) → map f (take (n + 1) (set rs n r)) ≡ take (n + 1) ys
        stored f ys h e v = ap (map f) (take_more_set rs n r (omega (arith, j.all))) ∙ map_push f (take n rs) r ∙ (λ i. e i ++ v i ∷ []) ∙ sym (take_more ys n (pos 0) h)

  -- ---- all of them
  module _ {rs : List Range} {n : ℕ} (j : Judged judge lower upper rs n) (is : n ≡ length lower) where
    pub judged_all : judge.all 0 lower upper ≡ Ok tt
    judged_all = j.rest ∙ ap (λ ls. judge.all n ls (drop n upper)) (drop_all n lower (omega (arith, is))) ∙ judge.none n _

    whole : (f : Range → ℤ) (ys : List ℤ) → map f (take n rs) ≡ take n ys → length lower ≡ length ys → map f (take (length lower) rs) ≡ ys
    whole f ys e h = ap (λ k. map f (take k rs)) (sym is) ∙ e ∙ take_all n ys (omega (arith, is, h))

    pub all_low : lowers (take (length lower) rs) ≡ lower
    all_low = whole (λ r. r.lower) lower j.lows refl

    pub all_high : length lower ≡ length upper → uppers (take (length lower) rs) ≡ upper
    all_high = whole (λ r. r.upper) upper j.highs
