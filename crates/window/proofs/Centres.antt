-- A centre is looked at only where the ends of its channel are counts.
use Rattle.std.proofs.Common.{◌≡◌, ◌==◌, Bool, true, false, cond, not, ◌||◌, nat_lt, List, [], ◌∷◌, length, ℤ, pos, ◌+ℤ◌, Some, Ok, Result, refl, ap, ◌∙◌}
use Rattle.std.specs.Int.{int_div_euclid}
use Rattle.std.specs.List.{slice_get}
use Rattle.boxes.specs.Boxes.{Box, centred, is_count, opened, ordered, ranges}
use Rattle.fault.specs.Refusals.{after, refused}
use Rattle.fault.specs.declared.fault.Cause.TheVariants.{Channels, Number}
use Rattle.fault.specs.declared.fault.Fault.{Fault}
use Rattle.window.specs.Windows.{swept_about}

module _ (l u : ℤ) (ls us : List ℤ) where
  -- by whether the ends are counts
  abbrev by_counts : Bool → Bool → ℤ → Result Box Fault
  by_counts a b x =
      cond (length (l ∷ ls) == 0 || nat_lt 8 (length (l ∷ ls)) || not (length (l ∷ ls) == length (u ∷ us))) (refused Channels 0)
      (after (after (after (cond a (Ok l) (refused Number 0)) (λ l. after (cond b (Ok u) (refused Number 0)) (λ u. ordered l u 0))) (λ _. ranges 1 ls us)) (λ _.
      after (centred l u x 0) (λ x. Ok (record { lower = l ∷ ls; upper = u ∷ us; swept = 0; centre = x }))))

  alike : (a b : Bool) (x y : ℤ) → (a ≡ true → b ≡ true → x ≡ y) → by_counts a b x ≡ by_counts a b y
  alike true true x y h = ap (by_counts true true) (h refl refl)
  alike true false x y h = refl
  alike false b x y h = refl

-- a centre x that is the midpoint n of counts
pub by_midpoint : (lower upper : List ℤ) (n : ℤ) {x : ℤ} → x ≡ n
    → ((l u : ℤ) → slice_get lower 0 ≡ Some l → slice_get upper 0 ≡ Some u → is_count l ≡ true → is_count u ≡ true → n ≡ int_div_euclid (l +ℤ u) (pos 2))
    → opened lower upper 0 x ≡ swept_about lower upper
by_midpoint [] upper n e h = refl
by_midpoint (l ∷ ls) [] n e h = refl
by_midpoint (l ∷ ls) (u ∷ us) n {x} e h = alike l u ls us (is_count l) (is_count u) x (int_div_euclid (l +ℤ u) (pos 2)) (λ a b. e ∙ h l u refl refl a b)
