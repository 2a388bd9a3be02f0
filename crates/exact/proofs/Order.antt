-- The order of fractions. An inequality of expressions is shown by a certificate: a difference that is not negative.
use Rattle.std.proofs.Common.{◌≡◌, Bool, true, false, cond, T, ◌⊎◌, List, [], ◌∷◌, pos, ◌*ℤ◌, ◌≤ℤ◌, ◌<ℤ◌, sym, refl, subst, inl, inr, ⊎_elim, arith}
use lib.Signed.{le_z, le_z_yes}
use borrow.Author.Differences.{ints}
use Rattle.std.proofs.lemmas.Int.{by_lt_z}
use Rattle.exact.specs.Fraction.{Frac, ◌+F◌, ◌*F◌, neg_F, ◌-F◌, ◌≈◌, ◌≤F◌, ◌<F◌, le_F}
use Rattle.exact.proofs.Ring.{Expr, ◌⊕◌, ◌⊖◌, ⊝◌, norm, ev, x0, x1, x2, x3}
use Rattle.exact.proofs.Integers.{≤ℤ_cancel, ≤ℤ_times, neg-*ℤ, nn_times}
use Rattle.exact.proofs.Fractions.{F_ring, ring_F, ≈_sym, neg_neg}

-- ---- not negative
pub record NN (x : Frac) : Type 0 where
  pub nn : pos 0 ≤ℤ x.top

pub le→nn : {x y : Frac} → x ≤F y → NN (y -F x)
unfolding ◌+F◌ neg_F
le→nn {x} {y} h = let k : (x.top *ℤ pos y.bot) ≤ℤ (y.top *ℤ pos x.bot) = h.cross in
    record { nn = rw (neg-*ℤ x.top (pos y.bot)) (omega (arith, ints)) }

pub nn→le : {x y : Frac} → NN (y -F x) → x ≤F y
unfolding ◌+F◌ neg_F
nn→le {x} {y} h = let k = rw (neg-*ℤ x.top (pos y.bot)) at h.nn in record { cross = omega (arith, ints) }

pub nn_add : {x y : Frac} → NN x → NN y → NN (x +F y)
unfolding ◌+F◌
nn_add {x} {y} h k = record { nn = let p = ≤ℤ_times (pos 0) x.top y.bot h.nn in let q = ≤ℤ_times (pos 0) y.top x.bot k.nn in omega (arith, ints) }

pub nn_mul : {x y : Frac} → NN x → NN y → NN (x *F y)
unfolding ◌*F◌
nn_mul {x} {y} h k = record { nn = nn_times x.top y.top h.nn k.nn }

pub nn-≈ : {x y : Frac} → x ≈ y → NN x → NN y
nn-≈ {x} {y} e h = record { nn = ≤ℤ_cancel (pos 0) y.top x.bot x.positive (let p = ≤ℤ_times (pos 0) x.top y.bot h.nn in let q = e.cross in omega (arith, ints)) }

-- y − x is the expression c, and c is not negative
pub le_by : (ρ : List Frac) (x y c : Expr) → norm c ≡ norm (y ⊖ x) → NN (ev F_ring ρ c) → ev F_ring ρ x ≤F ev F_ring ρ y
le_by ρ x y c e h = nn→le (nn-≈ (ring_F ρ c (y ⊖ x) e) h)

-- ---- at most
pub ≤F_refl : (x : Frac) → x ≤F x
≤F_refl x = record { cross = omega (arith, ints) }

pub ≤F_of_≈ : {x y : Frac} → x ≈ y → x ≤F y
≤F_of_≈ {x} {y} e = let k : x.top *ℤ pos y.bot ≡ y.top *ℤ pos x.bot = e.cross in record { cross = omega (arith, ints) }

pub ≤F_trans : {x y z : Frac} → x ≤F y → y ≤F z → x ≤F z
≤F_trans {x} {y} {z} p q = le_by (x ∷ y ∷ z ∷ []) x0 x2 ((x1 ⊖ x0) ⊕ (x2 ⊖ x1)) refl (nn_add (le→nn p) (le→nn q))

pub ≤F_antisym : {x y : Frac} → x ≤F y → y ≤F x → x ≈ y
≤F_antisym {x} {y} p q = let k : (x.top *ℤ pos y.bot) ≤ℤ (y.top *ℤ pos x.bot) = p.cross in let l : (y.top *ℤ pos x.bot) ≤ℤ (x.top *ℤ pos y.bot) = q.cross in record { cross = omega (arith, ints) }

-- of equal fractions
pub ≤F-≈ : {x x' y y' : Frac} → x ≈ x' → y ≈ y' → x ≤F y → x' ≤F y'
≤F-≈ p q h = ≤F_trans (≤F_of_≈ (≈_sym p)) (≤F_trans h (≤F_of_≈ q))

pub +F_mono : {a b c d : Frac} → a ≤F b → c ≤F d → (a +F c) ≤F (b +F d)
+F_mono {a} {b} {c} {d} p q = le_by (a ∷ b ∷ c ∷ d ∷ []) (x0 ⊕ x2) (x1 ⊕ x3) ((x1 ⊖ x0) ⊕ (x3 ⊖ x2)) refl (nn_add (le→nn p) (le→nn q))

-- ---- negatives
pub neg_mono : {x y : Frac} → x ≤F y → neg_F y ≤F neg_F x
neg_mono {x} {y} h = le_by (x ∷ y ∷ []) (⊝ x1) (⊝ x0) (x1 ⊖ x0) refl (le→nn h)

-- −x ≤ y gives −y ≤ x
pub neg_left : {x y : Frac} → neg_F x ≤F y → neg_F y ≤F x
neg_left {x} p = ≤F_trans (neg_mono p) (≤F_of_≈ (neg_neg x))

-- x ≤ −y gives y ≤ −x
pub neg_right : {x y : Frac} → x ≤F neg_F y → y ≤F neg_F x
neg_right {x} {y} p = ≤F_trans (≤F_of_≈ (≈_sym (neg_neg y))) (neg_mono p)

-- ---- below
pub lt_or_le : (x y : Frac) → (x <F y) ⊎ (y ≤F x)
lt_or_le x y = by_lt_z (x.top *ℤ pos y.bot) (y.top *ℤ pos x.bot) (λ h. inl (record { cross = h })) (λ h. inr (record { cross = h }))

pub le_of_lt : {x y : Frac} → x <F y → x ≤F y
le_of_lt {x} {y} p = let k : (x.top *ℤ pos y.bot) <ℤ (y.top *ℤ pos x.bot) = p.cross in record { cross = omega (arith, ints) }

pub lt_not_le : {x y : Frac} → x <F y → y ≤F x → ⊥
lt_not_le {x} {y} p q = let k : (x.top *ℤ pos y.bot) <ℤ (y.top *ℤ pos x.bot) = p.cross in let l : (y.top *ℤ pos x.bot) ≤ℤ (x.top *ℤ pos y.bot) = q.cross in omega (arith, ints)

pub not_le_lt : {x y : Frac} → (y ≤F x → ⊥) → x <F y
not_le_lt {x} {y} n = ⊎_elim (λ h. h) (λ h. absurd (n h)) (lt_or_le x y)

pub ≤F_total : (x y : Frac) → (x ≤F y) ⊎ (y ≤F x)
≤F_total x y = ⊎_elim (λ h. inl (le_of_lt h)) inr (lt_or_le x y)

pub <≤ : {x y z : Frac} → x <F y → y ≤F z → x <F z
<≤ h k = not_le_lt (λ r. lt_not_le h (≤F_trans k r))

pub ≤< : {x y z : Frac} → x ≤F y → y <F z → x <F z
≤< h k = not_le_lt (λ r. lt_not_le k (≤F_trans r h))

-- ---- the test
pub le_F_yes : (x y : Frac) → le_F x y ≡ true → x ≤F y
unfolding le_F
le_F_yes x y e = record { cross = le_z_yes (subst T (sym e) tt) }

pub le_F_no : (x y : Frac) → le_F x y ≡ false → y <F x
unfolding le_F
le_F_no x y e = let k : le_z (x.top *ℤ pos y.bot) (y.top *ℤ pos x.bot) ≡ false = e in record { cross = omega (arith, ints) }

-- a choice by the test
pub by_le : {X : Type 0} (x y : Frac) (N : X → Type 0) (p q : X) → (x ≤F y → N p) → (y <F x → N q) → N (cond (le_F x y) p q)
by_le x y N p q f g = go (le_F x y) refl
  where
    go : (t : Bool) → le_F x y ≡ t → N (cond t p q)
    go true e = f (le_F_yes x y e)
    go false e = g (le_F_no x y e)

pub le_F_true : (x y : Frac) → x ≤F y → le_F x y ≡ true
le_F_true x y h = go (le_F x y) refl
  where
    go : (t : Bool) → le_F x y ≡ t → t ≡ true
    go true e = refl
    go false e = absurd (lt_not_le (le_F_no x y e) h)
