-- The greater of two moves as a weighted mean of both, and a span holds what lies between two of its members.
use mathlib.Core.List.{List, [], ◌∷◌}
use mathlib.Core.Logic.{inl, inr}
use mathlib.Core.Path.{refl}
use lib.IntN.{negsuc, pos}
use Rattle.exact.proofs.Division.{divided}
use Rattle.exact.proofs.Extremes.{max_ind, min_mirror}
use Rattle.exact.proofs.Fractions.{F_ring, ring_F, ≈_sym, ≈_trans}
use Rattle.exact.proofs.Order.{NN, le_by, le→nn, nn_add, nn_mul, nn-≈}
use Rattle.exact.proofs.Ring.{◌⊕◌, ◌⊖◌, ◌⊗◌, combine, num, var, x0, x1, x2, x3, x4, x5, x6, ⊝◌}
use Rattle.exact.proofs.Signs.{nn_antisym, nn_cut, nn_one, nn_zero, pp_nonzero, pp_or_nn}
use Rattle.exact.specs.Fraction.{Frac, ◌*F◌, ◌+F◌, ◌-F◌, ◌≈◌, inv_F, max_F, min_F, neg_F, whole}
use Rattle.exact.specs.Interval.{In, Interval}
use Rattle.truth.proofs.Slopes.{weighted_slope}
use Rattle.truth.proofs.Steps.{Hull}
use Rattle.truth.specs.Truth.{Sloped}

pub record Weight (t : Frac) : Type 0 where
  pub low : NN t
  pub high : NN (whole (pos 1) -F t)

pub weight_zero : Weight (whole (pos 0))
weight_zero = record { low = nn_zero; high = nn-≈ (ring_F [] (num (pos 1)) (num (pos 1) ⊖ num (pos 0)) refl) nn_one }

pub weight_one : Weight (whole (pos 1))
weight_one = record { low = nn_one; high = nn-≈ (ring_F [] (num (pos 0)) (num (pos 1) ⊖ num (pos 1)) refl) nn_zero }

-- x's share of x + y; if both are 0 any weight does
pub share : (x y : Frac) → NN x → NN y → (t : Frac) × Weight t × ((t *F (x +F y)) ≈ x)
share x y h k = elim (pp_or_nn (x +F y)) [
  | inl p ↦ (let n = pp_nonzero p in let t = x *F inv_F (x +F y) in let e = divided x (x +F y) n in (
    t,
    record {
      low = nn_cut p (nn-≈ (≈_sym e) h);
      high = nn_cut p (nn-≈ (≈_sym (rest t e)) k);
    },
    e,
  ))
  | inr n ↦ (
    whole (pos 0),
    weight_zero,
    ≈_trans (ring_F (x ∷ y ∷ []) (num (pos 0) ⊗ (x0 ⊕ x1)) (num (pos 0)) refl)
        (≈_sym (nn_antisym h (nn-≈ (ring_F (x ∷ y ∷ []) (⊝ (x0 ⊕ x1) ⊕ x1) (⊝ x0) refl) (nn_add n k)))),
  )
]
  where
    rest : (t : Frac) → (t *F (x +F y)) ≈ x → ((whole (pos 1) -F t) *F (x +F y)) ≈ y
    rest t e = combine F_ring (t ∷ x ∷ y ∷ []) ((num (pos 1) ⊖ x0) ⊗ (x1 ⊕ x2)) x2
        (record { by = num (negsuc 0); lhs = x0 ⊗ (x1 ⊕ x2); rhs = x1 } ∷ []) (e, tt) refl

-- a span holds what lies between two of its members
pub between : {t x y : Frac} {S : Interval} → Weight t → In x S → In y S → In (t *F x +F (whole (pos 1) -F t) *F y) S
between {t} {x} {y} {S} w i j = record {
  low = le_by (t ∷ x ∷ y ∷ S.lo ∷ []) x3 (x0 ⊗ x1 ⊕ (num (pos 1) ⊖ x0) ⊗ x2) (x0 ⊗ (x1 ⊖ x3) ⊕ (num (pos 1) ⊖ x0) ⊗ (x2 ⊖ x3)) refl
      (nn_add (nn_mul w.low (le→nn i.low)) (nn_mul w.high (le→nn j.low)));
  high = le_by (t ∷ x ∷ y ∷ S.hi ∷ []) (x0 ⊗ x1 ⊕ (num (pos 1) ⊖ x0) ⊗ x2) x3 (x0 ⊗ (x3 ⊖ x1) ⊕ (num (pos 1) ⊖ x0) ⊗ (x3 ⊖ x2)) refl
      (nn_add (nn_mul w.low (le→nn i.high)) (nn_mul w.high (le→nn j.high)));
}

-- ---- w moves as a weighted mean of u and v
pub record Mixed (u u0 v v0 w w0 : Frac) : Type 0 where
  pub t : Frac
  pub weight : Weight t
  pub is : (w -F w0) ≈ (t *F (u -F u0) +F (whole (pos 1) -F t) *F (v -F v0))

pub max_mixed : (u u0 v v0 : Frac) → Mixed u u0 v v0 (max_F u v) (max_F u0 v0)
max_mixed u u0 v v0 =
    max_ind u v (λ w. Mixed u u0 v v0 w (max_F u0 v0))
    (λ h. max_ind u0 v0 (λ w0. Mixed u u0 v v0 u w0)
    (λ k. record { t = whole (pos 1); weight = weight_one; is = ring_F ρ (x0 ⊖ x1) (num (pos 1) ⊗ (x0 ⊖ x1) ⊕ (num (pos 1) ⊖ num (pos 1)) ⊗ (x2 ⊖ x3)) refl })
    (λ k. let s = share (u -F v) (v0 -F u0) (le→nn h) (le→nn k) in record {
      t = s.0;
      weight = s.1;
      is =
          combine F_ring (u ∷ u0 ∷ v ∷ v0 ∷ s.0 ∷ []) (x0 ⊖ x3) (x4 ⊗ (x0 ⊖ x1) ⊕ (num (pos 1) ⊖ x4) ⊗ (x2 ⊖ x3))
          (record { by = num (negsuc 0); lhs = x4 ⊗ ((x0 ⊖ x2) ⊕ (x3 ⊖ x1)); rhs = x0 ⊖ x2 } ∷ []) (s.2, tt) refl;
    }))
    (λ h. max_ind u0 v0 (λ w0. Mixed u u0 v v0 v w0)
    (λ k. let s = share (u0 -F v0) (v -F u) (le→nn k) (le→nn h) in record {
      t = s.0;
      weight = s.1;
      is =
          combine F_ring (u ∷ u0 ∷ v ∷ v0 ∷ s.0 ∷ []) (x2 ⊖ x1) (x4 ⊗ (x0 ⊖ x1) ⊕ (num (pos 1) ⊖ x4) ⊗ (x2 ⊖ x3))
          (record { by = num (pos 1); lhs = x4 ⊗ ((x1 ⊖ x3) ⊕ (x2 ⊖ x0)); rhs = x1 ⊖ x3 } ∷ []) (s.2, tt) refl;
    })
    (λ k. record { t = whole (pos 0); weight = weight_zero; is = ring_F ρ (x2 ⊖ x3) (num (pos 0) ⊗ (x0 ⊖ x1) ⊕ (num (pos 1) ⊖ num (pos 0)) ⊗ (x2 ⊖ x3)) refl }))
  where
    ρ : List Frac
    ρ = u ∷ u0 ∷ v ∷ v0 ∷ []

-- the lesser by the mirror image
pub min_mixed : (u u0 v v0 : Frac) → Mixed u u0 v v0 (min_F u v) (min_F u0 v0)
min_mixed u u0 v v0 = let m = max_mixed (neg_F u) (neg_F u0) (neg_F v) (neg_F v0) in record {
  t = m.t;
  weight = m.weight;
  is =
      combine F_ring (u ∷ u0 ∷ v ∷ v0 ∷ m.t ∷ min_F u v ∷ min_F u0 v0 ∷ max_F (neg_F u) (neg_F v) ∷ max_F (neg_F u0) (neg_F v0) ∷ [])
      (x5 ⊖ x6) (x4 ⊗ (x0 ⊖ x1) ⊕ (num (pos 1) ⊖ x4) ⊗ (x2 ⊖ x3))
      (record { by = num (pos 1); lhs = x5; rhs = ⊝ var 7 }
      ∷ record { by = num (negsuc 0); lhs = x6; rhs = ⊝ var 8 }
      ∷ record { by = num (negsuc 0); lhs = var 7 ⊖ var 8; rhs = x4 ⊗ (⊝ x0 ⊖ ⊝ x1) ⊕ (num (pos 1) ⊖ x4) ⊗ (⊝ x2 ⊖ ⊝ x3) } ∷ [])
      (min_mirror u v, (min_mirror u0 v0, (m.is, tt))) refl;
}

-- one weight serves a, b and c
pub mixed_sloped : {A1 A2 B1 B2 C1 C2 A B C : Interval} {h u u0 v v0 w w0 : Frac} → Mixed u u0 v v0 w w0
    → Hull A1 A2 A → Hull B1 B2 B → Hull C1 C2 C → Sloped A1 B1 C1 h u u0 → Sloped A2 B2 C2 h v v0 → Sloped A B C h w w0
mixed_sloped m ha hb hc s t = record {
  a = _;
  b = _;
  c = _;
  a_in = between m.weight (ha.left _ s.a_in) (ha.right _ t.a_in);
  b_in = between m.weight (hb.left _ s.b_in) (hb.right _ t.b_in);
  c_in = between m.weight (hc.left _ s.c_in) (hc.right _ t.c_in);
  slope = weighted_slope m.t (whole (pos 1) -F m.t) m.is s.slope t.slope;
}
