-- Boxes that are blank, opened or moved are proper, and open takes a proper box again.
use Rattle.std.proofs.Common.{◌≡◌, ℕ, zero, suc, Bool, true, false, cond, not, ◌||◌, nat_lt, List, [], ◌∷◌, length, set, ℤ, ◌≤ℤ◌, Some, Ok, Result, sym, refl, ap, ◌∙◌, subst, subst₂, arith, length-set, ◌==◌}
use Rattle.std.proofs.lemmas.Bool.{eqb-false, eqb-true, ltb-false, not-false}
use Rattle.std.proofs.lemmas.Option.{none-some, same_Some, slice_get_within}
use Rattle.std.specs.List.{slice_get}
use Rattle.fault.specs.Refusals.{after, found}
use Rattle.fault.specs.declared.fault.Fault.{Fault}
use Rattle.fault.specs.declared.fault.Cause.TheVariants.{NoChannel}
use Rattle.fault.proofs.Steps.{found_ok, ok_is}
use Rattle.boxes.proofs.Accepted.{centred_tells, ok_after, ok_unless, range_tells}
use Rattle.boxes.proofs.Changes.{elsewhere, there, which}
use Rattle.boxes.proofs.Moved.{Fits, judged_fits, judged_is}
use Rattle.boxes.specs.Boxes.{Box, Centred, InOrder, Proper, blank_box, centred, opened, range, ranges}
use Rattle.boxes.specs.Rising.{asked}
use Rattle.boxes.specs.Moving.{changed, judged, moved}

-- ---- a changed box
module _ {b : Box} (proper : Proper b) (channel : ℕ) (m : ℤ × ℤ × ℤ) (f : Fits b channel m) where
  changed_ranges : (c : ℕ) (l u : ℤ) → slice_get (set b.lower channel m.0) c ≡ Some l → slice_get (set b.upper channel m.1) c ≡ Some u → InOrder l u
  changed_ranges c l u el eu = which channel c
      (λ s. subst₂ InOrder (there m.0 b.lower channel c el s) (there m.1 b.upper channel c eu s) f.range)
      (λ n. proper.ranges c l u (elsewhere m.0 b.lower channel c el n) (elsewhere m.1 b.upper channel c eu n))

  changed_centre : Centred (changed b channel m.0 m.1 m.2)
  changed_centre l u el eu = which channel b.swept
      (λ s. subst₂ (λ l u. (l ≤ℤ m.2) × (m.2 ≤ℤ u)) (there m.0 b.lower channel b.swept el s) (there m.1 b.upper channel b.swept eu s) (f.within s))
      (λ n. subst (λ x. (l ≤ℤ x) × (x ≤ℤ u)) (sym (f.still n)) (proper.centre l u (elsewhere m.0 b.lower channel b.swept el n) (elsewhere m.1 b.upper channel b.swept eu n)))

  changed_proper : Proper (changed b channel m.0 m.1 m.2)
  changed_proper = record {
    some = omega (arith, proper.some, length-set b.lower channel m.0);
    few = omega (arith, proper.few, length-set b.lower channel m.0);
    same = length-set b.lower channel m.0 ∙ proper.same ∙ sym (length-set b.upper channel m.1);
    ranges = changed_ranges;
    swept = omega (arith, proper.swept, length-set b.lower channel m.0);
    centre = changed_centre;
  }

-- ---- moving
module _ (b : Box) (channel : ℕ) (lower upper centre : ℤ) {to : Box} (e : moved b channel lower upper centre ≡ Ok to) where
  found_in : (l : ℤ) × (found NoChannel channel (slice_get b.lower channel) ≡ Ok l) × (after (judged b channel lower upper centre) (λ m. Ok (changed b channel m.0 m.1 m.2)) ≡ Ok to)
  found_in = ok_after (found NoChannel channel (slice_get b.lower channel)) _ e

  judged_in : (m : ℤ × ℤ × ℤ) × (judged b channel lower upper centre ≡ Ok m) × (◌≡◌ {A = Result Box Fault} (Ok (changed b channel m.0 m.1 m.2)) (Ok to))
  judged_in = ok_after (judged b channel lower upper centre) _ found_in.2

  -- nothing changes but its range and, if it is swept, the centre
  pub moved_is : to ≡ changed b channel lower upper (cond (channel == b.swept) centre b.centre)
  moved_is = sym (ok_is judged_in.2) ∙ ap (λ m. changed b channel m.0 m.1 m.2) (sym (judged_is b channel lower upper centre judged_in.1))

  pub moved_proper : Proper b → Proper to
  moved_proper proper = subst Proper (ok_is judged_in.2) (changed_proper proper channel judged_in.0 (judged_fits b channel lower upper centre judged_in.1))

-- ---- opening
ranges_told : (n : ℕ) (ls us : List ℤ) → ranges n ls us ≡ Ok tt → (c : ℕ) (l u : ℤ) → slice_get ls c ≡ Some l → slice_get us c ≡ Some u → InOrder l u
ranges_told n [] us e c l u el eu = absurd (none-some l el)
ranges_told n (x ∷ ls) [] e c l u el eu = absurd (none-some u eu)
ranges_told n (x ∷ ls) (y ∷ us) e zero l u el eu =
    let a = ok_after (range x y n) (λ _. ranges (suc n) ls us) e in
    subst₂ InOrder (same_Some x l el) (same_Some y u eu) (range_tells x y n a.1).1
ranges_told n (x ∷ ls) (y ∷ us) e (suc c) l u el eu =
    let a = ok_after (range x y n) (λ _. ranges (suc n) ls us) e in
    ranges_told (suc n) ls us a.2 c l u el eu

either_false : (a b : Bool) → (a || b) ≡ false → (a ≡ false) × (b ≡ false)
either_false true b e = cc
either_false false b e = (refl, e)

module _ (lower upper : List ℤ) (swept : ℕ) (centre : ℤ) {to : Box} where
  centre_told : (l u : ℤ) → after (centred l u centre swept) (λ x. Ok (asked lower upper swept x)) ≡ Ok to → (asked lower upper swept centre ≡ to) × ((l ≤ℤ centre) × (centre ≤ℤ u))
  centre_told l u e =
      let x = ok_after (centred l u centre swept) _ e in
      let t = centred_tells l u centre swept x.1 in
      (ap (asked lower upper swept) t.0 ∙ ok_is x.2, (t.1, t.2))

  opened_both : opened lower upper swept centre ≡ Ok to → (asked lower upper swept centre ≡ to) × Proper (asked lower upper swept centre)
  opened_both e =
      let a = ok_unless (length lower == 0 || nat_lt 8 (length lower) || not (length lower == length upper)) _ _ e in
      let few = either_false (length lower == 0 || nat_lt 8 (length lower)) (not (length lower == length upper)) a.0 in
      let some = either_false (length lower == 0) (nat_lt 8 (length lower)) few.0 in
      let none : length lower ≡ 0 → ⊥ = eqb-false (length lower) 0 some.0 in
      let r = ok_after (ranges 0 lower upper) _ a.1 in
      let l = ok_after (found NoChannel swept (slice_get lower swept)) _ r.2 in
      let u = ok_after (found NoChannel swept (slice_get upper swept)) _ l.2 in
      let el = found_ok NoChannel swept (slice_get lower swept) l.0 l.1 in
      let eu = found_ok NoChannel swept (slice_get upper swept) u.0 u.1 in
      let t = centre_told l.0 u.0 u.2 in (
        t.0,
        record {
          some = omega (arith, none);
          few = ltb-false 8 (length lower) some.1;
          same = eqb-true (length lower) (length upper) (not-false (length lower == length upper) few.1);
          ranges = ranges_told 0 lower upper r.1;
          swept = slice_get_within lower swept l.0 el;
          centre = λ y z ey ez. subst₂ (λ y z. (y ≤ℤ centre) × (centre ≤ℤ z)) (same_Some l.0 y (sym el ∙ ey)) (same_Some u.0 z (sym eu ∙ ez)) t.1;
        },
      )

  pub opened_is : opened lower upper swept centre ≡ Ok to → to ≡ record { lower = lower; upper = upper; swept = swept; centre = centre }
  opened_is e = sym (opened_both e).0

  pub opened_proper : opened lower upper swept centre ≡ Ok to → Proper to
  opened_proper e = let p = opened_both e in subst Proper p.0 p.1

-- ---- the blank box
pub blank_proper : Proper blank_box
blank_proper = opened_proper blank_box.lower blank_box.upper blank_box.swept blank_box.centre refl
