-- What it tells that nothing was refused.
use Rattle.std.proofs.Common.{◌≡◌, ℕ, Bool, true, false, cond, ◌&&◌, ◌⊎◌, inl, inr, T, ℤ, ◌≤ℤ◌, Ok, Err, Result, sym, refl, ap, ◌∙◌, subst, subst₂, ap₂}
use lib.Signed.{le_z, le_z_yes}
use Rattle.fault.proofs.Steps.{ok_is}
use Rattle.fault.specs.Refusals.{after}
use Rattle.fault.specs.declared.fault.Fault.{Fault}
use Rattle.boxes.specs.Boxes.{InOrder, centred, counted, inside, is_count, ordered, range}
use Rattle.boxes.specs.Moving.{about, range_about}

-- ---- of a step, and of a choice
module _ {Y : Type 0} where
  pub ok_after : {X : Type 0} (r : Result X Fault) (f : X → Result Y Fault) {y : Y} → after r f ≡ Ok y → (x : X) × (r ≡ Ok x) × (f x ≡ Ok y)
  ok_after (Ok x) f e = (x, refl, e)
  ok_after (Err q) f e = cc

  pub ok_if : (b : Bool) (r : Result Y Fault) (q : Fault) {y : Y} → cond b r (Err q) ≡ Ok y → (b ≡ true) × (r ≡ Ok y)
  ok_if true r q e = (refl, e)
  ok_if false r q e = cc

  pub ok_unless : (b : Bool) (q : Fault) (r : Result Y Fault) {y : Y} → cond b (Err q) r ≡ Ok y → (b ≡ false) × (r ≡ Ok y)
  ok_unless true q r e = cc
  ok_unless false q r e = (refl, e)

  pub ok_either : (b : Bool) (r s : Result Y Fault) {y : Y} → cond b r s ≡ Ok y → ((b ≡ true) × (r ≡ Ok y)) ⊎ ((b ≡ false) × (s ≡ Ok y))
  ok_either true r s e = inl (refl, e)
  ok_either false r s e = inr (refl, e)

pub both_true : (a b : Bool) → (a && b) ≡ true → (a ≡ true) × (b ≡ true)
both_true true b e = (refl, e)
both_true false b e = cc

pub le_is : {a b : ℤ} → le_z a b ≡ true → a ≤ℤ b
le_is e = le_z_yes (subst T (sym e) tt)

-- ---- of counts, ranges and centres
counted_is : (n : ℤ) (place : ℕ) {m : ℤ} → counted n place ≡ Ok m → (n ≡ m) × (is_count n ≡ true)
counted_is n place e = let p = ok_if (is_count n) (Ok n) _ e in (ok_is p.1, p.0)

pub ordered_is : (l u : ℤ) (channel : ℕ) {p : ℤ × ℤ} → ordered l u channel ≡ Ok p → ((l, u) ≡ p) × (l ≤ℤ u)
ordered_is l u channel e = let p = ok_if (le_z l u) (Ok (l, u)) _ e in (ok_is p.1, le_is p.0)

pub inside_is : (l u x : ℤ) (channel : ℕ) {y : ℤ} → inside l u x channel ≡ Ok y → (x ≡ y) × (l ≤ℤ x) × (x ≤ℤ u)
inside_is l u x channel e =
    let p = ok_if (le_z l x && le_z x u) (Ok x) _ e in
    let q = both_true (le_z l x) (le_z x u) p.0 in
    (ok_is p.1, le_is q.0, le_is q.1)

pub range_tells : (l u : ℤ) (channel : ℕ) {p : ℤ × ℤ} → range l u channel ≡ Ok p → ((l, u) ≡ p) × InOrder l u
range_tells l u channel e =
    let a = ok_after (counted l channel) _ e in
    let b = ok_after (counted u channel) _ a.2 in
    let l_is = counted_is l channel a.1 in
    let u_is = counted_is u channel b.1 in
    let c = ordered_is a.0 b.0 channel b.2 in
    (ap₂ (λ l u. (l, u)) l_is.0 u_is.0 ∙ c.0, record { low = l_is.1; high = u_is.1; order = subst₂ (λ l u. l ≤ℤ u) (sym l_is.0) (sym u_is.0) c.1 })

pub centred_tells : (l u x : ℤ) (channel : ℕ) {y : ℤ} → centred l u x channel ≡ Ok y → (x ≡ y) × (l ≤ℤ x) × (x ≤ℤ u)
centred_tells l u x channel {y} e =
    let a = ok_after (counted x channel) _ e in
    let x_is = counted_is x channel a.1 in
    let c = inside_is l u a.0 channel a.2 in
    subst (λ z. (z ≡ y) × (l ≤ℤ z) × (z ≤ℤ u)) (sym x_is.0) c

about_tells : (l u x : ℤ) (channel : ℕ) {m : ℤ × ℤ × ℤ} → about l u x channel ≡ Ok m → ((l, u, x) ≡ m) × (l ≤ℤ u) × ((l ≤ℤ x) × (x ≤ℤ u))
about_tells l u x channel {m} e =
    let r = ok_after (ordered l u channel) _ e in
    let o = ordered_is l u channel r.1 in
    let p = subst (λ p. after (inside p.0 p.1 x channel) (λ x. Ok (p.0, p.1, x)) ≡ Ok m) (sym o.0) r.2 in
    let c = ok_after (inside l u x channel) _ p in
    let i = inside_is l u x channel c.1 in
    (ap (λ x. (l, u, x)) i.0 ∙ ok_is c.2, o.1, (i.1, i.2))

pub range_about_tells : (l u x : ℤ) (channel : ℕ) {m : ℤ × ℤ × ℤ} → range_about l u x channel ≡ Ok m → ((l, u, x) ≡ m) × InOrder l u × ((l ≤ℤ x) × (x ≤ℤ u))
range_about_tells l u x channel {m} e =
    let a = ok_after (counted l channel) _ e in
    let b = ok_after (counted u channel) _ a.2 in
    let c = ok_after (counted x channel) _ b.2 in
    let l_is = counted_is l channel a.1 in
    let u_is = counted_is u channel b.1 in
    let x_is = counted_is x channel c.1 in
    let p : about l u x channel ≡ Ok m = (λ i. about (l_is.0 i) (u_is.0 i) (x_is.0 i) channel) ∙ c.2 in
    let t = about_tells l u x channel p in
    (t.0, record { low = l_is.1; high = u_is.1; order = t.1 }, t.2)
