-- The law of the magnitude, row by row; p, q are the ends of U, and r, s those of U0.
use mathlib.Core.List.{List, [], ◌∷◌}
use mathlib.Core.Logic.{inl, inr}
use mathlib.Core.Path.{refl}
use lib.IntN.{negsuc, pos}
use Rattle.exact.proofs.Division.{divided}
use Rattle.exact.proofs.Extremes.{max_is_left, max_is_right}
use Rattle.exact.proofs.Fractions.{F_ring, ring_F, ≈_refl, ≈_sym, ≈_trans}
use Rattle.exact.proofs.Order.{NN, le_by, le_of_lt, le→nn, nn_add, nn_mul, nn-≈, nn→le, ≤F_total, ≤F_trans}
use Rattle.exact.proofs.Ring.{Expr, ◌⊕◌, ◌⊖◌, ◌⊗◌, combine, num, x0, x1, x2, x3, x4, x5, ⊝◌}
use Rattle.exact.proofs.Signs.{0F, 1F, PP, nn_cut, nn_le, nn_of, nn_of_neg, nn_one, nn_square, pp_add, pp_mul, pp_nn, pp_nonzero, pp_of, pp_of_neg, pp_or_nn, −1F}
use Rattle.exact.specs.Fraction.{Frac, ◌*F◌, ◌+F◌, ◌-F◌, ◌<F◌, ◌≈◌, ◌≤F◌, inv_F, neg_F}
use Rattle.exact.specs.Interval.{In, Interval}
use Rattle.truth.proofs.Steps.{Mirrored}
use Rattle.truth.proofs.Weights.{between, max_mixed}
use Rattle.truth.specs.Curve.{Chord, CurveLaw, magnitude_F}

-- ---- values
pub mag_up : {x : Frac} → NN x → magnitude_F x ≈ x
unfolding magnitude_F
mag_up {x} h = max_is_left (le_by (x ∷ []) (⊝ x0) x0 (x0 ⊕ x0) refl (nn_add h h))

pub mag_down : (x : Frac) → NN (neg_F x) → magnitude_F x ≈ neg_F x
unfolding magnitude_F
mag_down x h = max_is_right (le_by (x ∷ []) x0 (⊝ x0) (⊝ x0 ⊕ ⊝ x0) refl (nn_add h h))

pub mag_mirror : (x : Frac) → magnitude_F (neg_F x) ≈ magnitude_F x
mag_mirror x = elim (≤F_total 0F x) [
  | inl h ↦ ≈_trans (mag_down (neg_F x) (nn-≈ (ring_F (x ∷ []) x0 (⊝ (⊝ x0)) refl) (nn_of h))) (≈_trans (ring_F (x ∷ []) (⊝ (⊝ x0)) x0 refl) (≈_sym (mag_up (nn_of h))))
  | inr h ↦ ≈_trans (mag_up (nn_of_neg h)) (≈_sym (mag_down x (nn_of_neg h)))
]

-- ---- one sign
down_chord : (E G K : Interval) (u u0 : Frac) → NN (neg_F u) → NN (neg_F u0) → In −1F E → In −1F G → In 0F K → Chord magnitude_F E G K u u0
down_chord E G K u u0 n n0 iE iG iK = record {
  e = −1F;
  g = −1F;
  k = 0F;
  e_in = iE;
  g_in = iG;
  k_in = iK;
  rise = combine F_ring (u ∷ u0 ∷ magnitude_F u ∷ magnitude_F u0 ∷ []) (x2 ⊖ x3) (num (negsuc 0) ⊗ (x0 ⊖ x1))
      (record { by = num (pos 1); lhs = x2; rhs = ⊝ x0 } ∷ record { by = num (negsuc 0); lhs = x3; rhs = ⊝ x1 } ∷ []) (mag_down u n, (mag_down u0 n0, tt)) refl;
  bend = ring_F (u ∷ u0 ∷ []) (num (negsuc 0)) (num (negsuc 0) ⊕ num (pos 0) ⊗ (x0 ⊖ x1)) refl;
}

up_chord : (E G K : Interval) (u u0 : Frac) → NN u → NN u0 → In 1F E → In 1F G → In 0F K → Chord magnitude_F E G K u u0
up_chord E G K u u0 n n0 iE iG iK = record {
  e = 1F;
  g = 1F;
  k = 0F;
  e_in = iE;
  g_in = iG;
  k_in = iK;
  rise = combine F_ring (u ∷ u0 ∷ magnitude_F u ∷ magnitude_F u0 ∷ []) (x2 ⊖ x3) (num (pos 1) ⊗ (x0 ⊖ x1))
      (record { by = num (pos 1); lhs = x2; rhs = x0 } ∷ record { by = num (negsuc 0); lhs = x3; rhs = x1 } ∷ []) (mag_up n, (mag_up n0, tt)) refl;
  bend = ring_F (u ∷ u0 ∷ []) (num (pos 1)) (num (pos 1) ⊕ num (pos 0) ⊗ (x0 ⊖ x1)) refl;
}

pub magnitude_falling : (U U0 E G K : Interval) → U.hi ≤F 0F → In −1F E → In −1F G → In 0F K → CurveLaw magnitude_F U U0 E G K
magnitude_falling U U0 E G K h iE iG iK u u0 i i0 j =
    down_chord E G K u u0 (nn_of_neg (≤F_trans i.high h)) (nn_of_neg (≤F_trans j.high h)) iE iG iK

pub magnitude_rising : (U U0 E G K : Interval) → 0F ≤F U.lo → In 1F E → In 1F G → In 0F K → CurveLaw magnitude_F U U0 E G K
magnitude_rising U U0 E G K h iE iG iK u u0 i i0 j =
    up_chord E G K u u0 (nn_of (≤F_trans h i.low)) (nn_of (≤F_trans h j.low)) iE iG iK

-- ---- any signs: |x| is the greater of x and −x
pub magnitude_across : (U U0 E G K : Interval) → In −1F E → In 1F E → In −1F G → In 1F G → In 0F K → CurveLaw magnitude_F U U0 E G K
unfolding magnitude_F
magnitude_across U U0 E G K lE hE lG hG iK u u0 i i0 j =
    let m = max_mixed u u0 (neg_F u) (neg_F u0) in
    record {
      e = _;
      g = _;
      k = 0F;
      e_in = between m.weight hE lE;
      g_in = between m.weight hG lG;
      k_in = iK;
      rise = ≈_trans m.is (ring_F (u ∷ u0 ∷ m.t ∷ [])
          (x2 ⊗ (x0 ⊖ x1) ⊕ (num (pos 1) ⊖ x2) ⊗ (⊝ x0 ⊖ ⊝ x1)) ((x2 ⊗ num (pos 1) ⊕ (num (pos 1) ⊖ x2) ⊗ num (negsuc 0)) ⊗ (x0 ⊖ x1)) refl);
      bend = ring_F (u ∷ u0 ∷ m.t ∷ []) (x2 ⊗ num (pos 1) ⊕ (num (pos 1) ⊖ x2) ⊗ num (negsuc 0))
          (x2 ⊗ num (pos 1) ⊕ (num (pos 1) ⊖ x2) ⊗ num (negsuc 0) ⊕ num (pos 0) ⊗ (x0 ⊖ x1)) refl;
    }

-- ---- u0 negative
-- y is not below n / d
abbrev pub Above : Frac → Frac → Frac → Type 0
Above n d y = (x : Frac) → (x *F d) ≈ n → x ≤F y

-- s < 0 < q: G from −1 to a bound of (q + s) / (q − s), K from 0 to a bound of 1 / (−s − s)
pub record LeftRow (U U0 E G K : Interval) : Type 0 where
  pub q_above : 0F <F U.hi
  pub s_below : U0.hi <F 0F
  pub e_is : In −1F E
  pub g_low : G.lo ≤F −1F
  pub g_high : Above (U.hi +F U0.hi) (U.hi -F U0.hi) G.hi
  pub k_low : K.lo ≤F 0F
  pub k_high : Above 1F (neg_F U0.hi +F neg_F U0.hi) K.hi

above_nn : {n d y : Frac} → PP d → Above n d y → NN (y *F d -F n)
above_nn {n} {d} {y} p a = let x = n *F inv_F d in let e = divided n d (pp_nonzero p) in
    nn-≈ (combine F_ring (n ∷ d ∷ y ∷ x ∷ []) ((x2 ⊖ x3) ⊗ x1) (x2 ⊗ x1 ⊖ x0) (record { by = num (negsuc 0); lhs = x3 ⊗ x1; rhs = x0 } ∷ []) (e, tt) refl)
    (nn_mul (le→nn (a x e)) (pp_nn p))

-- u > 0: k = 2 u / (u − u0)², g = −1 + k (u − u0)
left_chord : (U U0 E G K : Interval) (u u0 : Frac) → LeftRow U U0 E G K → In u U → In u0 U0 → PP u → Chord magnitude_F E G K u u0
left_chord U U0 E G K u u0 row i i0 pU = record {
  e = −1F;
  g = −1F +F k *F D;
  k = k;
  e_in = row.e_is;
  g_in = record {
    low = ≤F_trans row.g_low (le_by (k ∷ D ∷ []) (num (negsuc 0)) (num (negsuc 0) ⊕ x0 ⊗ x1) (x0 ⊗ x1) refl (nn_mul nK (pp_nn pD)));
    high = nn→le (nn_cut (pp_mul pD pQS) (nn-≈ (≈_sym (combine F_ring (ρ G.hi)
        ((x5 ⊖ (num (negsuc 0) ⊕ x4 ⊗ (x0 ⊖ x1))) ⊗ ((x0 ⊖ x1) ⊗ (x2 ⊖ x3)))
        ((x5 ⊗ (x2 ⊖ x3) ⊖ (x2 ⊕ x3)) ⊗ (x0 ⊖ x1) ⊕ ((x3 ⊖ x1) ⊗ x2 ⊕ ⊝ x3 ⊗ (x2 ⊖ x0)) ⊕ ((x3 ⊖ x1) ⊗ x2 ⊕ ⊝ x3 ⊗ (x2 ⊖ x0)))
        (record { by = ⊝ (x2 ⊖ x3); lhs = x4 ⊗ ((x0 ⊖ x1) ⊗ (x0 ⊖ x1)); rhs = x0 ⊕ x0 } ∷ []) (kD, tt) refl))
        (nn_add (nn_add (nn_mul bG (pp_nn pD)) nG) nG)));
  };
  k_in = record {
    low = ≤F_trans row.k_low (nn_le nK);
    high = nn→le (nn_cut (pp_mul (pp_mul pD pD) pSS) (nn-≈ (≈_sym (combine F_ring (ρ K.hi)
        ((x5 ⊖ x4) ⊗ ((x0 ⊖ x1) ⊗ (x0 ⊖ x1) ⊗ (⊝ x3 ⊕ ⊝ x3)))
        ((x5 ⊗ (⊝ x3 ⊕ ⊝ x3) ⊖ num (pos 1)) ⊗ ((x0 ⊖ x1) ⊗ (x0 ⊖ x1)) ⊕ ((x0 ⊕ x3) ⊗ (x0 ⊕ x3) ⊕ (x3 ⊖ x1) ⊗ ((x0 ⊖ x1) ⊕ (x0 ⊖ x3))))
        (record { by = ⊝ (⊝ x3 ⊕ ⊝ x3); lhs = x4 ⊗ ((x0 ⊖ x1) ⊗ (x0 ⊖ x1)); rhs = x0 ⊕ x0 } ∷ []) (kD, tt) refl))
        (nn_add (nn_mul bK (pp_nn (pp_mul pD pD))) (nn_add (nn_square (u +F s)) (nn_mul n0 (nn_add (pp_nn pD) (pp_nn (pp_add pU (pp_nn pS)))))))));
  };
  rise = combine F_ring (u ∷ u0 ∷ magnitude_F u ∷ magnitude_F u0 ∷ k ∷ []) (x2 ⊖ x3) ((num (negsuc 0) ⊕ x4 ⊗ (x0 ⊖ x1)) ⊗ (x0 ⊖ x1))
      (record { by = num (pos 1); lhs = x2; rhs = x0 } ∷ record { by = num (negsuc 0); lhs = x3; rhs = ⊝ x1 }
      ∷ record { by = num (negsuc 0); lhs = x4 ⊗ ((x0 ⊖ x1) ⊗ (x0 ⊖ x1)); rhs = x0 ⊕ x0 } ∷ []) (mag_up (pp_nn pU), (mag_down u0 nu0, (kD, tt))) refl;
  bend = ≈_refl _;
}
  where
    q : Frac
    q = U.hi

    s : Frac
    s = U0.hi

    D : Frac
    D = u -F u0

    pQ : PP q
    pQ = pp_of row.q_above

    pS : PP (neg_F s)
    pS = pp_of_neg row.s_below

    pQS : PP (q -F s)
    pQS = pp_add pQ (pp_nn pS)

    pSS : PP (neg_F s +F neg_F s)
    pSS = pp_add pS (pp_nn pS)

    n0 : NN (s -F u0)
    n0 = le→nn i0.high

    nu0 : NN (neg_F u0)
    nu0 = nn-≈ (ring_F (s ∷ u0 ∷ []) ((x0 ⊖ x1) ⊕ ⊝ x0) (⊝ x1) refl) (nn_add n0 (pp_nn pS))

    pD : PP (u -F u0)
    pD = pp_add pU nu0

    k : Frac
    k = (u +F u) *F inv_F (D *F D)

    kD : (k *F (D *F D)) ≈ (u +F u)
    kD = divided (u +F u) (D *F D) (pp_nonzero (pp_mul pD pD))

    nK : NN k
    nK = nn_cut (pp_mul pD pD) (nn-≈ (≈_sym kD) (nn_add (pp_nn pU) (pp_nn pU)))

    bG : NN (G.hi *F (q -F s) -F (q +F s))
    bG = above_nn pQS row.g_high

    bK : NN (K.hi *F (neg_F s +F neg_F s) -F 1F)
    bK = above_nn pSS row.k_high

    nG : NN ((s -F u0) *F q +F neg_F s *F (q -F u))
    nG = nn_add (nn_mul n0 (pp_nn pQ)) (nn_mul (pp_nn pS) (le→nn i.high))

    ρ : Frac → List Frac
    ρ y = u ∷ u0 ∷ q ∷ s ∷ k ∷ y ∷ []

pub left_row_proper : (U U0 E G K : Interval) → LeftRow U U0 E G K → In −1F G × In 0F K
left_row_proper U U0 E G K row = (
  record {
    low = row.g_low;
    high = le_by (q ∷ s ∷ G.hi ∷ []) (num (negsuc 0)) x2 (x2 ⊕ num (pos 1)) refl
        (nn_cut pQS (nn-≈ (ring_F (q ∷ s ∷ G.hi ∷ []) (x2 ⊗ (x0 ⊖ x1) ⊖ (x0 ⊕ x1) ⊕ (x0 ⊕ x0)) ((x2 ⊕ num (pos 1)) ⊗ (x0 ⊖ x1)) refl)
        (nn_add (above_nn pQS row.g_high) (nn_add (pp_nn pQ) (pp_nn pQ)))));
  },
  record {
    low = row.k_low;
    high = nn_le (nn_cut pSS (nn-≈ (ring_F (s ∷ K.hi ∷ []) (x1 ⊗ (⊝ x0 ⊕ ⊝ x0) ⊖ num (pos 1) ⊕ num (pos 1)) (x1 ⊗ (⊝ x0 ⊕ ⊝ x0)) refl)
        (nn_add (above_nn pSS row.k_high) nn_one)));
  },
)
  where
    q : Frac
    q = U.hi

    s : Frac
    s = U0.hi

    pQ : PP q
    pQ = pp_of row.q_above

    pS : PP (neg_F s)
    pS = pp_of_neg row.s_below

    pQS : PP (q -F s)
    pQS = pp_add pQ (pp_nn pS)

    pSS : PP (neg_F s +F neg_F s)
    pSS = pp_add pS (pp_nn pS)

pub magnitude_left : (U U0 E G K : Interval) → LeftRow U U0 E G K → CurveLaw magnitude_F U U0 E G K
magnitude_left U U0 E G K row u u0 i i0 j = elim (pp_or_nn u) [
  | inl p ↦ left_chord U U0 E G K u u0 row i i0 p
  | inr n ↦ down_chord E G K u u0 n (nn_of_neg (≤F_trans i0.high (le_of_lt row.s_below))) row.e_is (left_row_proper U U0 E G K row).0 (left_row_proper U U0 E G K row).1
]

-- ---- the magnitude is the same of the negative
pub magnitude_mirror : (U U0 E G K U' U0' E' G' : Interval) → Mirrored U U' → Mirrored U0 U0' → Mirrored E' E → Mirrored G' G
    → CurveLaw magnitude_F U' U0' E' G' K → CurveLaw magnitude_F U U0 E G K
magnitude_mirror U U0 E G K U' U0' E' G' mU mU0 mE mG law u u0 i i0 j =
    let c = law (neg_F u) (neg_F u0) (mU u i) (mU0 u0 i0) (mU u0 j) in
    record {
      e = neg_F c.e;
      g = neg_F c.g;
      k = c.k;
      e_in = mE _ c.e_in;
      g_in = mG _ c.g_in;
      k_in = c.k_in;
      rise = combine F_ring (u ∷ u0 ∷ magnitude_F u ∷ magnitude_F u0 ∷ magnitude_F (neg_F u) ∷ magnitude_F (neg_F u0) ∷ c.g ∷ []) (x2 ⊖ x3) (⊝ Expr.var 6 ⊗ (x0 ⊖ x1))
          (record { by = num (negsuc 0); lhs = x4; rhs = x2 } ∷ record { by = num (pos 1); lhs = x5; rhs = x3 }
          ∷ record { by = num (pos 1); lhs = x4 ⊖ x5; rhs = Expr.var 6 ⊗ (⊝ x0 ⊖ ⊝ x1) } ∷ []) (mag_mirror u, (mag_mirror u0, (c.rise, tt))) refl;
      bend = combine F_ring (u ∷ u0 ∷ c.e ∷ c.g ∷ c.k ∷ []) (⊝ x3) (⊝ x2 ⊕ x4 ⊗ (x0 ⊖ x1))
          (record { by = num (negsuc 0); lhs = x3; rhs = x2 ⊕ x4 ⊗ (⊝ x0 ⊖ ⊝ x1) } ∷ []) (c.bend, tt) refl;
    }
