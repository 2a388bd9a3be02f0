-- Opening, case by case.
use Rattle.std.proofs.Common.{◌≡◌, ℕ, ◌<◌, ◌≤◌, List, length, take, ℤ, ◌≤ℤ◌, IsErrAnd, Some, None, Ok, Err, Option, Result, sym, refl, ap, ◌∙◌, ap₂, subst₂}
use Rattle.std.proofs.lemmas.Option.{slice_get-map}
use Rattle.std.specs.Option.{option_map}
use Rattle.fault.proofs.Steps.{found_ok, some_is}
use Rattle.boxes.proofs.Ends.{first_in}
use Rattle.std.proofs.lemmas.Result.{err_from_is_err_and}
use Rattle.std.proofs.lemmas.Bool.{eq-eqb, le-ltb, ne_eqb}
use Rattle.std.specs.List.{slice_get}
use Rattle.fault.specs.Refusals.{after, found}
use Rattle.fault.specs.declared.fault.Cause.TheVariants.{NoChannel}
use Rattle.fault.specs.declared.fault.Fault.{Fault}
use Rattle.boxes.specs.Boxes.{Box, centred, inside, opened, ranges}
use Rattle.boxes.specs.Rising.{asked, of_ends, orders}
use Rattle.boxes.specs.Stored.{boxed, lowers, uppers}
use Rattle.boxes.specs.declared.channels.ChannelBox.{ChannelBox}
use Rattle.boxes.specs.declared.range.Range.{Range}

-- ---- an accepted centre lies in the range of its channel, as the code has both
pub centre_inside : (rs : List Range) (n swept : ℕ) {r r' : Range} → Ok r' ≡ found NoChannel swept (slice_get (take n rs) swept) → slice_get rs swept ≡ Some r
    → (x : ℤ) {y y' : ℤ} → y' ≡ y → (x ≡ y) × (r'.lower ≤ℤ x) × (x ≤ℤ r'.upper) → (r.lower ≤ℤ y') × (y' ≤ℤ r.upper)
centre_inside rs n swept {r = r} {r' = r'} k e x {y = y} {y' = y'} same p =
    subst₂ (λ r z. (r.lower ≤ℤ z) × (z ≤ℤ r.upper)) (some_is (sym (first_in n rs swept (found_ok NoChannel swept _ r' (sym k))).1 ∙ e)) (p.0 ∙ sym same) (p.1, p.2)

-- and there is such a channel
pub swept_inside : (rs : List Range) (n swept : ℕ) {r : Range} → Ok r ≡ found NoChannel swept (slice_get (take n rs) swept) → swept < n
swept_inside rs n swept {r = r} k = (first_in n rs swept (found_ok NoChannel swept _ r (sym k))).0

-- ---- the steps of opening, by the judge of a centre
module _ (inner : ℤ → ℤ → ℤ → ℕ → Result ℤ Fault) (lower upper : List ℤ) (swept : ℕ) (centre : ℤ) where
  -- the box about an accepted centre
  abbrev around : Result ℤ Fault → Result Box Fault
  around r = after r (λ x. Ok (asked lower upper swept x))

  abbrev about : ℤ → ℤ → Result Box Fault
  about l u = around (inner l u centre swept)

  -- what follows the judged channels
  abbrev judged : Result (Unit {0}) Fault → Result Box Fault
  judged r = after r (λ _. after (found NoChannel swept (slice_get lower swept)) (λ l. after (found NoChannel swept (slice_get upper swept)) (λ u. about l u)))

  module _ {all : Result (Unit {0}) Fault} {answer : Result Box Fault} (is : answer ≡ judged all) where
    pub bad_channel : {e : Fault} → all ≡ Err e → Err e ≡ answer
    bad_channel q = sym (is ∙ ap judged q)

    -- accepted ranges, and the ends of the swept channel
    pub from_ends : all ≡ Ok tt → {l u : ℤ} → slice_get lower swept ≡ Some l → slice_get upper swept ≡ Some u → answer ≡ about l u
    from_ends q el eu = is ∙ ap judged q ∙ ap₂ (λ o n. after (found NoChannel swept o) (λ l. after (found NoChannel swept n) (λ u. about l u))) el eu

    -- the ranges that were stored
    module _ (q : all ≡ Ok tt) (rs : List Range) (el : lowers rs ≡ lower) (eu : uppers rs ≡ upper) where
      by_range : answer ≡ after (found NoChannel swept (slice_get rs swept)) (λ r. about r.lower r.upper)
      by_range = is ∙ ap judged q
          ∙ ap₂ (λ ls us. after (found NoChannel swept (slice_get ls swept)) (λ l. after (found NoChannel swept (slice_get us swept)) (λ u. about l u))) (sym el) (sym eu)
          ∙ ap₂ (λ o n. after (found NoChannel swept o) (λ l. after (found NoChannel swept n) (λ u. about l u))) (slice_get-map (λ r. r.lower) rs swept) (slice_get-map (λ r. r.upper) rs swept)
          ∙ both (slice_get rs swept)
        where
          both : (o : Option Range) → after (found NoChannel swept (option_map (λ r. r.lower) o)) (λ l. after (found NoChannel swept (option_map (λ r. r.upper) o)) (λ u. about l u))
              ≡ after (found NoChannel swept o) (λ r. about r.lower r.upper)
          both None = refl
          both (Some r) = refl

      pub not_swept : {e : Fault} → Err e ≡ found NoChannel swept (slice_get rs swept) → Err e ≡ answer
      not_swept k = sym (by_range ∙ ap (λ o. after o (λ r. about r.lower r.upper)) (sym k))

      -- the range of the swept channel, and the centre as the code has it
      module _ {r : Range} (er : Ok r ≡ found NoChannel swept (slice_get rs swept)) {x : ℤ} (ex : x ≡ centre) where
        ends : answer ≡ around (inner r.lower r.upper x swept)
        ends = by_range ∙ ap (λ o. after o (λ r. about r.lower r.upper)) (sym er) ∙ ap (λ x. around (inner r.lower r.upper x swept)) (sym ex)

        pub bad_centre : {e : Fault} → Err e ≡ inner r.lower r.upper x swept → Err e ≡ answer
        bad_centre k = sym (ends ∙ ap around (sym k))

        pub opens : {y y' : ℤ} → y' ≡ y → Ok y ≡ inner r.lower r.upper x swept → Ok (asked (lowers rs) (uppers rs) swept y') ≡ answer
        opens ey k = (λ i. Ok (asked (el i) (eu i) swept (ey i))) ∙ sym (ends ∙ ap around (sym k))

-- of lists of one length, from 1 to 8
module _ (lower upper : List ℤ) (swept : ℕ) (centre : ℤ) (some : length lower ≡ 0 → ⊥) (few : length lower ≤ 8) (same : length lower ≡ length upper) where
  pub opened_is : opened lower upper swept centre ≡ judged centred lower upper swept centre (ranges 0 lower upper)
  opened_is = rw (ne_eqb (length lower) 0 some, le-ltb 8 (length lower) few, eq-eqb (length lower) (length upper) same)

  pub of_ends_is : of_ends lower upper swept centre ≡ judged inside lower upper swept centre (orders 0 lower upper)
  of_ends_is = rw (ne_eqb (length lower) 0 some, le-ltb 8 (length lower) few, eq-eqb (length lower) (length upper) same)

-- what a refused step returns
pub exit : (r : Result ChannelBox Fault) {e : Fault} {F : Result Box Fault} → IsErrAnd r (λ y. y ≡ e) → Err e ≡ F → boxed r ≡ F
exit r b q = let p = err_from_is_err_and r b in ap boxed p.1 ∙ ap Err p.2 ∙ q
