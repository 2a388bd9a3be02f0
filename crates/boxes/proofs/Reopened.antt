-- Open takes a proper box again, and of_ends each box with its ends in order.
use Rattle.std.proofs.Common.{◌≡◌, ℕ, suc, Bool, true, false, T, List, [], ◌∷◌, ℤ, pos, neg_ℤ, ◌≤ℤ◌, Some, Ok, ◌&&◌, refl, ap, ◌∙◌, ap₂, arith}
use lib.Signed.{le_z}
use Rattle.std.proofs.lemmas.Option.{slice_get-get_or}
use Rattle.std.proofs.lemmas.Int.{ints}
use Rattle.std.specs.List.{slice_get}
use Rattle.fault.specs.Refusals.{after}
use Rattle.boxes.proofs.Accepted.{both_true, le_is}
use Rattle.boxes.proofs.Opened.{from_ends, of_ends_is, opened_is}
use Rattle.boxes.specs.Boxes.{Box, InOrder, Proper, centred, inside, is_count, opened, ordered, range, ranges}
use Rattle.boxes.specs.Rising.{Rising, asked, of_ends, orders}

holds : (b : Bool) → T b → b ≡ true
holds true h = refl
holds false h = absurd h

count_between : {l u x : ℤ} → InOrder l u → l ≤ℤ x → x ≤ℤ u → is_count x ≡ true
count_between {l} {u} {x} r h k =
    let low = both_true (le_z (neg_ℤ (pos 1073741823)) l) (le_z l (pos 1073741823)) r.low in
    let high = both_true (le_z (neg_ℤ (pos 1073741823)) u) (le_z u (pos 1073741823)) r.high in
    let a : neg_ℤ (pos 1073741823) ≤ℤ l = le_is low.0 in
    let b : u ≤ℤ pos 1073741823 = le_is high.1 in
    let c : neg_ℤ (pos 1073741823) ≤ℤ x = omega (arith, ints) in
    let d : x ≤ℤ pos 1073741823 = omega (arith, ints) in
    ap₂ (λ a b. a && b) (holds (le_z (neg_ℤ (pos 1073741823)) x) c.le) (holds (le_z x (pos 1073741823)) d.le)

range_taken : {l u : ℤ} (channel : ℕ) → InOrder l u → range l u channel ≡ Ok (l, u)
range_taken {l} {u} channel r = rw (r.low, r.high, holds (le_z l u) r.order.le)

centred_taken : {l u x : ℤ} (channel : ℕ) → InOrder l u → l ≤ℤ x → x ≤ℤ u → centred l u x channel ≡ Ok x
centred_taken {l} {u} {x} channel r h k = rw (count_between r h k, holds (le_z l x) h.le, holds (le_z x u) k.le)

ranges_taken : (n : ℕ) (ls us : List ℤ) → ((c : ℕ) (l u : ℤ) → slice_get ls c ≡ Some l → slice_get us c ≡ Some u → InOrder l u) → ranges n ls us ≡ Ok tt
ranges_taken n [] us all = refl
ranges_taken n (l ∷ ls) [] all = refl
ranges_taken n (l ∷ ls) (u ∷ us) all = rw (range_taken n (all 0 l u refl refl)) (ranges_taken (suc n) ls us (λ c. all (suc c)))

pub reopens : (b : Box) → Proper b → opened b.lower b.upper b.swept b.centre ≡ Ok b
reopens b p =
    let el = slice_get-get_or b.lower b.swept (pos 0) p.swept in
    let eu = slice_get-get_or b.upper b.swept (pos 0) (omega (arith, p.swept, p.same)) in
    let r = p.ranges b.swept _ _ el eu in
    let i = p.centre _ _ el eu in
    from_ends centred b.lower b.upper b.swept b.centre (opened_is b.lower b.upper b.swept b.centre (λ e. omega (arith, p.some, e)) p.few p.same) (ranges_taken 0 b.lower b.upper p.ranges) el eu
    ∙ ap (λ r. after r (λ x. Ok (asked b.lower b.upper b.swept x))) (centred_taken b.swept r i.0 i.1)

-- ---- ends that need not be counts
ordered_taken : {l u : ℤ} (channel : ℕ) → l ≤ℤ u → ordered l u channel ≡ Ok (l, u)
ordered_taken {l} {u} channel h = rw (holds (le_z l u) h.le)

inside_taken : {l u x : ℤ} (channel : ℕ) → l ≤ℤ x → x ≤ℤ u → inside l u x channel ≡ Ok x
inside_taken {l} {u} {x} channel h k = rw (holds (le_z l x) h.le, holds (le_z x u) k.le)

orders_taken : (n : ℕ) (ls us : List ℤ) → ((c : ℕ) (l u : ℤ) → slice_get ls c ≡ Some l → slice_get us c ≡ Some u → l ≤ℤ u) → orders n ls us ≡ Ok tt
orders_taken n [] us all = refl
orders_taken n (l ∷ ls) [] all = refl
orders_taken n (l ∷ ls) (u ∷ us) all = rw (ordered_taken n (all 0 l u refl refl)) (orders_taken (suc n) ls us (λ c. all (suc c)))

pub takes : (b : Box) → Rising b → of_ends b.lower b.upper b.swept b.centre ≡ Ok b
takes b p =
    let el = slice_get-get_or b.lower b.swept (pos 0) p.swept in
    let eu = slice_get-get_or b.upper b.swept (pos 0) (omega (arith, p.swept, p.same)) in
    let i = p.centre _ _ el eu in
    from_ends inside b.lower b.upper b.swept b.centre (of_ends_is b.lower b.upper b.swept b.centre (λ e. omega (arith, p.some, e)) p.few p.same) (orders_taken 0 b.lower b.upper p.ranges) el eu
    ∙ ap (λ r. after r (λ x. Ok (asked b.lower b.upper b.swept x))) (inside_taken b.swept i.0 i.1)
