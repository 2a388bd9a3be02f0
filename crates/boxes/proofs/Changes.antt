-- Another range for one channel of a box.
use Rattle.std.proofs.Common.{length-set, ⊎_elim, ◌≡◌, ℕ, zero, suc, ◌<◌, List, [], ◌∷◌, length, take, set, ℤ, ◌≤ℤ◌, Some, refl, ap, ◌∙◌, sym, arith}
use Rattle.std.proofs.Math.Seq.{take-set-lt}
use Rattle.std.proofs.lemmas.List.{map-set}
use Rattle.std.proofs.lemmas.Option.{same_Some, slice_get_within}
use Rattle.std.proofs.lemmas.Bool.Decides.{eqb_tells}
use Rattle.std.specs.List.{slice_get}
use Rattle.boxes.specs.Moving.{changed}
use Rattle.boxes.specs.Stored.{box_of, lowers, uppers}
use Rattle.boxes.specs.declared.channels.ChannelBox.{ChannelBox}
use Rattle.boxes.specs.declared.range.Range.{Range}

-- ---- the elements of a list with one replaced
module _ {X : Type 0} (y : X) where
  replaced : (xs : List X) (i : ℕ) → i < length xs → slice_get (set xs i y) i ≡ Some y
  replaced [] i h = absurd (omega arith)
  replaced (x ∷ xs) zero h = refl
  replaced (x ∷ xs) (suc i) h = replaced xs i (omega arith)

  pub left : (xs : List X) (i j : ℕ) → (i ≡ j → ⊥) → slice_get (set xs i y) j ≡ slice_get xs j
  left [] i j h = refl
  left (x ∷ xs) zero zero h = absurd (h refl)
  left (x ∷ xs) zero (suc j) h = refl
  left (x ∷ xs) (suc i) zero h = refl
  left (x ∷ xs) (suc i) (suc j) h = left xs i j (λ e. h (ap suc e))

-- an element that is found in it
module _ {X : Type 0} (y : X) (xs : List X) (i j : ℕ) {z : X} (e : slice_get (set xs i y) j ≡ Some z) where
  pub there : i ≡ j → y ≡ z
  there s = same_Some y z (sym (replaced y xs i (let h = slice_get_within (set xs i y) j z e in omega (arith, h, s, length-set xs i y))) ∙ ap (slice_get (set xs i y)) s ∙ e)

  pub elsewhere : (i ≡ j → ⊥) → slice_get xs j ≡ Some z
  elsewhere n = sym (left y xs i j n) ∙ e

-- two cases
pub which : (i j : ℕ) {P : Type 0} → (i ≡ j → P) → ((i ≡ j → ⊥) → P) → P
which i j f g = ⊎_elim (λ p. f p.1) (λ p. g p.1) (eqb_tells i j)

-- ---- the ends of a stored box
module _ (rs : List Range) (c : ℕ) (r : Range) (n : ℕ) (h : c < n) where
  low_set : lowers (take n (set rs c r)) ≡ set (lowers (take n rs)) c r.lower
  low_set = ap lowers (take-set-lt n rs c r h) ∙ map-set (λ r. r.lower) (take n rs) c r

  high_set : uppers (take n (set rs c r)) ≡ set (uppers (take n rs)) c r.upper
  high_set = ap uppers (take-set-lt n rs c r h) ∙ map-set (λ r. r.upper) (take n rs) c r

-- what the code's box holds with another range for a channel
pub changed_is : (b : ChannelBox) (c : ℕ) (r : Range) {x x' : ℤ} → x' ≡ x → c < b.channels
    → record { lower = lowers (take b.channels (set b.ranges c r)); upper = uppers (take b.channels (set b.ranges c r)); swept = b.swept; centre = x' } ≡ changed (box_of b) c r.lower r.upper x
changed_is b c r e h = λ i. record { lower = low_set b.ranges c r b.channels h i; upper = high_set b.ranges c r b.channels h i; swept = b.swept; centre = e i }

-- a number between the ends of a range
abbrev pub Between : Range → ℤ → Type 0
Between r x = (r.lower ≤ℤ x) × (x ≤ℤ r.upper)
