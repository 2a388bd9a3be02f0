-- The ends of the channels of a stored box.
use Rattle.std.proofs.Common.{◌≡◌, ℕ, zero, suc, ◌<◌, List, [], ◌∷◌, length, get_or, map, take, pos, Some, refl, ap, ◌∙◌, arith}
use Rattle.std.proofs.lemmas.List.{length-map, length-take-le}
use Rattle.std.proofs.lemmas.Option.{slice_get-get_or, slice_get-map}
use Rattle.std.specs.List.{slice_get}
use Rattle.std.specs.Option.{option_map}
use Rattle.fault.proofs.Steps.{none_some}
use Rattle.boxes.specs.Stored.{box_of, lowers, uppers}
use Rattle.boxes.specs.declared.channels.ChannelBox.{ChannelBox}
use Rattle.boxes.specs.declared.range.Range.{Range}

-- the elements of the first n of a list
module _ {X : Type 0} where
  first_at : (n : ℕ) (xs : List X) (i : ℕ) → i < n → slice_get (take n xs) i ≡ slice_get xs i
  first_at zero xs i h = absurd (omega arith)
  first_at (suc n) [] i h = refl
  first_at (suc n) (x ∷ xs) zero h = refl
  first_at (suc n) (x ∷ xs) (suc i) h = first_at n xs i (omega arith)

  pub first_in : (n : ℕ) (xs : List X) (i : ℕ) {x : X} → slice_get (take n xs) i ≡ Some x → (i < n) × (slice_get xs i ≡ Some x)
  first_in zero xs i e = absurd (none_some e)
  first_in (suc n) [] i e = absurd (none_some e)
  first_in (suc n) (x ∷ xs) zero e = (omega arith, e)
  first_in (suc n) (x ∷ xs) (suc i) e = let h = first_in n xs i e in (let k = h.0 in omega arith, h.1)

module _ (rs : List Range) (n c : ℕ) where
  -- an end of each of the first ranges
  end_at : {Y : Type 0} (f : Range → Y) {r : Range} → c < n → slice_get rs c ≡ Some r → slice_get (map f (take n rs)) c ≡ Some (f r)
  end_at f h e = slice_get-map f (take n rs) c ∙ ap (option_map f) (first_at n rs c h ∙ e)

  pub lower_at : {r : Range} → c < n → slice_get rs c ≡ Some r → slice_get (lowers (take n rs)) c ≡ Some r.lower
  lower_at = end_at (λ r. r.lower)

  pub upper_at : {r : Range} → c < n → slice_get rs c ≡ Some r → slice_get (uppers (take n rs)) c ≡ Some r.upper
  upper_at = end_at (λ r. r.upper)

-- the range of channel c as the code reads it
pub stored_at : (b : ChannelBox) (c : ℕ) (d : Range) → c < b.channels → slice_get b.ranges c ≡ Some (get_or b.ranges c d)
stored_at b c d h = slice_get-get_or b.ranges c d (let k = b.few in let w = b.whole in omega arith)

-- a box of the code has as many ends as channels
module _ (b : ChannelBox) where
  pub length_of : {Y : Type 0} (f : Range → Y) → length (map f (take b.channels b.ranges)) ≡ b.channels
  length_of f = length-map (take b.channels b.ranges) f ∙ length-take-le b.channels b.ranges (omega (arith, b.few, b.whole))

  pub low_end : (c : ℕ) → c < b.channels → slice_get (box_of b).lower c ≡ Some (get_or (box_of b).lower c (pos 0))
  low_end c h = slice_get-get_or (box_of b).lower c (pos 0) (omega (arith, h, length_of (λ r. r.lower)))
