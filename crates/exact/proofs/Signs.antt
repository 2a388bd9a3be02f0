-- Signs of fractions, and the corners of a product.
use Rattle.std.proofs.Common.{◌≡◌, zero, suc, ◌<◌, ◌⊎◌, [], ◌∷◌, ℤ, pos, negsuc, ◌*ℤ◌, neg_ℤ, ◌≤ℤ◌, ◌<ℤ◌, refl, inl, inr, mul-pos, arith}
use borrow.Author.Differences.{ints}
use Rattle.exact.proofs.Fractions.{ring_F}
use Rattle.exact.proofs.Integers.{≤ℤ_cancel}
use Rattle.exact.proofs.Order.{NN, le_by, le→nn, lt_or_le, nn_add, nn_mul, nn-≈, ≤F_antisym}
use Rattle.exact.proofs.Ring.{◌⊕◌, ◌⊖◌, ◌⊗◌, num, x0, x1, x2, x3, ⊝◌}
use Rattle.exact.specs.Fraction.{Frac, Nonzero, ◌*F◌, ◌+F◌, ◌-F◌, ◌<F◌, ◌≈◌, ◌≤F◌, neg_F, whole}

abbrev pub 0F : Frac
0F = whole (pos 0)

abbrev pub 1F : Frac
1F = whole (pos 1)

abbrev pub −1F : Frac
−1F = whole (negsuc 0)

-- ---- not negative
pub nn_of : {x : Frac} → 0F ≤F x → NN x
nn_of {x} h = nn-≈ (ring_F (x ∷ []) (x0 ⊖ num (pos 0)) x0 refl) (le→nn h)

pub nn_of_neg : {x : Frac} → x ≤F 0F → NN (neg_F x)
nn_of_neg {x} h = nn-≈ (ring_F (x ∷ []) (num (pos 0) ⊖ x0) (⊝ x0) refl) (le→nn h)

pub nn_le : {x : Frac} → NN x → 0F ≤F x
nn_le {x} h = le_by (x ∷ []) (num (pos 0)) x0 x0 refl h

pub nn_one : NN 1F
unfolding whole
nn_one = record { nn = omega (arith, ints) }

pub nn_zero : NN 0F
unfolding whole
nn_zero = record { nn = omega (arith, ints) }

-- ---- positive
pub record PP (x : Frac) : Type 0 where
  pub pp : pos 0 <ℤ x.top

pub pp_of : {x : Frac} → 0F <F x → PP x
unfolding whole
pp_of {x} h = let k : (pos 0 *ℤ pos x.bot) <ℤ (x.top *ℤ pos 1) = h.cross in record { pp = omega (arith, ints) }

pub pp_of_neg : {x : Frac} → x <F 0F → PP (neg_F x)
unfolding whole neg_F
pp_of_neg {x} h = let k : (x.top *ℤ pos 1) <ℤ (pos 0 *ℤ pos x.bot) = h.cross in record { pp = omega (arith, ints) }

pub pp_nn : {x : Frac} → PP x → NN x
pp_nn {x} p = let l : pos 0 <ℤ x.top = p.pp in record { nn = omega (arith, ints) }

pub pp_nonzero : {x : Frac} → PP x → Nonzero x
unfolding whole
pp_nonzero {x} p e = let k : x.top *ℤ pos 1 ≡ pos 0 *ℤ pos x.bot = e.cross in let l : pos 0 <ℤ x.top = p.pp in omega (arith, ints)

pub pp_not : {x : Frac} → PP x → NN (neg_F x) → ⊥
unfolding neg_F
pp_not {x} p n = let k : pos 0 <ℤ x.top = p.pp in let l : pos 0 ≤ℤ neg_ℤ x.top = n.nn in omega (arith, ints)

pub pp_or_nn : (x : Frac) → PP x ⊎ NN (neg_F x)
pp_or_nn x = elim (lt_or_le 0F x) [ inl h ↦ inl (pp_of h) | inr h ↦ inr (nn_of_neg h) ]

times : (a b : ℤ) → pos 0 <ℤ a → pos 0 <ℤ b → pos 0 <ℤ (a *ℤ b)
times (pos a) (pos b) h k = let i : 0 < a = omega (arith, ints) in let j : 0 < b = omega (arith, ints) in omega (arith, ints, mul-pos i j)
times (pos a) (negsuc b) h k = absurd (omega (arith, ints))
times (negsuc a) b h k = absurd (omega (arith, ints))

pub pp_mul : {x y : Frac} → PP x → PP y → PP (x *F y)
unfolding ◌*F◌
pp_mul {x} {y} h k = record { pp = times x.top y.top h.pp k.pp }

pub pp_add : {x y : Frac} → PP x → NN y → PP (x +F y)
pp_add {x} {y} p k = elim (pp_or_nn (x +F y)) [
  | inl q ↦ q
  | inr n ↦ absurd (pp_not p (nn-≈ (ring_F (x ∷ y ∷ []) (⊝ (x0 ⊕ x1) ⊕ x1) (⊝ x0) refl) (nn_add n k)))
]

cut : (a b : ℤ) → pos 0 <ℤ b → pos 0 ≤ℤ (a *ℤ b) → pos 0 ≤ℤ a
cut a (pos zero) h k = absurd (omega (arith, ints))
cut a (pos (suc n)) h k = ≤ℤ_cancel (pos 0) a (suc n) (omega arith) (omega (arith, ints))
cut a (negsuc n) h k = absurd (omega (arith, ints))

-- a positive factor is taken away
pub nn_cut : {x d : Frac} → PP d → NN (x *F d) → NN x
unfolding ◌*F◌
nn_cut {x} {d} p h = record { nn = cut x.top d.top p.pp h.nn }

-- both signs: it is 0
pub nn_antisym : {x : Frac} → NN x → NN (neg_F x) → x ≈ 0F
nn_antisym {x} h k = ≤F_antisym (le_by (x ∷ []) x0 (num (pos 0)) (⊝ x0) refl k) (nn_le h)

pub nn_square : (x : Frac) → NN (x *F x)
nn_square x = elim (pp_or_nn x) [ inl p ↦ nn_mul (pp_nn p) (pp_nn p) | inr n ↦ nn-≈ (ring_F (x ∷ []) (⊝ x0 ⊗ ⊝ x0) (x0 ⊗ x0) refl) (nn_mul n n) ]

-- ---- the corners of a product
-- x × (z − y) is not negative: both factors have one sign
pub both_up : {x y z : Frac} → 0F ≤F x → y ≤F z → NN (x *F (z -F y))
both_up h k = nn_mul (nn_of h) (le→nn k)

pub both_down : {x y z : Frac} → x ≤F 0F → z ≤F y → NN (x *F (z -F y))
both_down {x} {y} {z} h k = nn-≈ (ring_F (x ∷ y ∷ z ∷ []) ((num (pos 0) ⊖ x0) ⊗ (x1 ⊖ x2)) (x0 ⊗ (x2 ⊖ x1)) refl) (nn_mul (le→nn h) (le→nn k))

-- the corner p × q is at most a × b: go from b to q along a, then from a to p along q
pub corner_low : (a b p q : Frac) → NN (a *F (b -F q)) → NN (q *F (a -F p)) → (p *F q) ≤F (a *F b)
corner_low a b p q h k = le_by (a ∷ b ∷ p ∷ q ∷ []) (x2 ⊗ x3) (x0 ⊗ x1) (x0 ⊗ (x1 ⊖ x3) ⊕ x3 ⊗ (x0 ⊖ x2)) refl (nn_add h k)

pub corner_high : (a b p q : Frac) → NN (a *F (q -F b)) → NN (q *F (p -F a)) → (a *F b) ≤F (p *F q)
corner_high a b p q h k = le_by (a ∷ b ∷ p ∷ q ∷ []) (x0 ⊗ x1) (x2 ⊗ x3) (x0 ⊗ (x3 ⊖ x1) ⊕ x3 ⊗ (x2 ⊖ x0)) refl (nn_add h k)
