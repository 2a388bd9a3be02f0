-- The slope rules as identities of fractions: if u and v have these slopes, so has the result. No span occurs.
use mathlib.Core.List.{List, [], ◌∷◌}
use mathlib.Core.Path.{refl}
use lib.IntN.{negsuc, pos}
use Rattle.exact.proofs.Division.{cancel_F}
use Rattle.exact.proofs.Fractions.{F_ring, ring_F, −-cong, ≈_sym, ≈_trans}
use Rattle.exact.proofs.Ring.{Expr, Hyp, ◌⊕◌, ◌⊖◌, ◌⊗◌, combine, num, x0, x1, x10, x11, x12, x13, x2, x3, x4, x5, x6, x7, x8, x9, ⊝◌}
use Rattle.exact.specs.Fraction.{Frac, Nonzero, ◌*F◌, ◌+F◌, ◌-F◌, ◌≈◌, whole}
use Rattle.truth.specs.Truth.{Slope}

pub slope-≈ : {h u u0 v v0 a b c : Frac} → u ≈ v → u0 ≈ v0 → Slope h u u0 a b c → Slope h v v0 a b c
slope-≈ e e0 s = record { first = ≈_trans (≈_sym (−-cong e e0)) s.first; second = ≈_trans (≈_sym (−-cong e e0)) s.second }

pub swept_slope : {h u u0 : Frac} → (u -F u0) ≈ h → Slope h u u0 (whole (pos 1)) (whole (pos 1)) (whole (pos 0))
swept_slope {h} {u} {u0} e = record {
  first = ≈_trans e (ring_F (h ∷ []) x0 (num (pos 1) ⊗ x0) refl);
  second = ≈_trans e (ring_F (h ∷ []) x0 (num (pos 1) ⊗ x0 ⊕ num (pos 0) ⊗ x0 ⊗ x0) refl);
}

pub still_slope : {h u u0 : Frac} → u ≈ u0 → Slope h u u0 (whole (pos 0)) (whole (pos 0)) (whole (pos 0))
still_slope {h} {u} {u0} e = record {
  first = combine F_ring (h ∷ u ∷ u0 ∷ []) (x1 ⊖ x2) (num (pos 0) ⊗ x0) hs (e, tt) refl;
  second = combine F_ring (h ∷ u ∷ u0 ∷ []) (x1 ⊖ x2) (num (pos 0) ⊗ x0 ⊕ num (pos 0) ⊗ x0 ⊗ x0) hs (e, tt) refl;
}
  where
    hs : List Hyp
    hs = record { by = num (pos 1); lhs = x1; rhs = x2 } ∷ []

-- a weighted sum m u + n v has the weighted slopes
pub weighted_slope : (m n : Frac) {h u u0 v v0 w w0 au bu cu av bv cv : Frac}
    → (w -F w0) ≈ (m *F (u -F u0) +F n *F (v -F v0)) → Slope h u u0 au bu cu → Slope h v v0 av bv cv
    → Slope h w w0 (m *F au +F n *F av) (m *F bu +F n *F bv) (m *F cu +F n *F cv)
weighted_slope m n {h} {u} {u0} {v} {v0} {w} {w0} {au} {bu} {cu} {av} {bv} {cv} e s t = record {
  first = ≈_trans e (combine F_ring (m ∷ n ∷ h ∷ (u -F u0) ∷ (v -F v0) ∷ au ∷ av ∷ [])
      (x0 ⊗ x3 ⊕ x1 ⊗ x4) ((x0 ⊗ x5 ⊕ x1 ⊗ x6) ⊗ x2)
      (record { by = x0; lhs = x3; rhs = x5 ⊗ x2 } ∷ record { by = x1; lhs = x4; rhs = x6 ⊗ x2 } ∷ [])
      (s.first, (t.first, tt)) refl);
  second = ≈_trans e (combine F_ring (m ∷ n ∷ h ∷ (u -F u0) ∷ (v -F v0) ∷ bu ∷ bv ∷ cu ∷ cv ∷ [])
      (x0 ⊗ x3 ⊕ x1 ⊗ x4) ((x0 ⊗ x5 ⊕ x1 ⊗ x6) ⊗ x2 ⊕ (x0 ⊗ x7 ⊕ x1 ⊗ x8) ⊗ x2 ⊗ x2)
      (record { by = x0; lhs = x3; rhs = x5 ⊗ x2 ⊕ x7 ⊗ x2 ⊗ x2 } ∷ record { by = x1; lhs = x4; rhs = x6 ⊗ x2 ⊕ x8 ⊗ x2 ⊗ x2 } ∷ [])
      (s.second, (t.second, tt)) refl);
}

pub sum_slope : {h u u0 v v0 au bu cu av bv cv : Frac} → Slope h u u0 au bu cu → Slope h v v0 av bv cv
    → Slope h (u +F v) (u0 +F v0) (au +F av) (bu +F bv) (cu +F cv)
sum_slope {h} {u} {u0} {v} {v0} {au} {bu} {cu} {av} {bv} {cv} s t = record {
  first = combine F_ring (h ∷ u ∷ u0 ∷ v ∷ v0 ∷ au ∷ av ∷ []) (x1 ⊕ x3 ⊖ (x2 ⊕ x4)) ((x5 ⊕ x6) ⊗ x0)
      (record { by = num (pos 1); lhs = x1 ⊖ x2; rhs = x5 ⊗ x0 } ∷ record { by = num (pos 1); lhs = x3 ⊖ x4; rhs = x6 ⊗ x0 } ∷ [])
      (s.first, (t.first, tt)) refl;
  second = combine F_ring (h ∷ u ∷ u0 ∷ v ∷ v0 ∷ bu ∷ bv ∷ cu ∷ cv ∷ []) (x1 ⊕ x3 ⊖ (x2 ⊕ x4)) ((x5 ⊕ x6) ⊗ x0 ⊕ (x7 ⊕ x8) ⊗ x0 ⊗ x0)
      (record { by = num (pos 1); lhs = x1 ⊖ x2; rhs = x5 ⊗ x0 ⊕ x7 ⊗ x0 ⊗ x0 } ∷ record { by = num (pos 1); lhs = x3 ⊖ x4; rhs = x6 ⊗ x0 ⊕ x8 ⊗ x0 ⊗ x0 } ∷ [])
      (s.second, (t.second, tt)) refl;
}

pub difference_slope : {h u u0 v v0 au bu cu av bv cv : Frac} → Slope h u u0 au bu cu → Slope h v v0 av bv cv
    → Slope h (u -F v) (u0 -F v0) (au -F av) (bu -F bv) (cu -F cv)
difference_slope {h} {u} {u0} {v} {v0} {au} {bu} {cu} {av} {bv} {cv} s t = record {
  first = combine F_ring (h ∷ u ∷ u0 ∷ v ∷ v0 ∷ au ∷ av ∷ []) (x1 ⊖ x3 ⊖ (x2 ⊖ x4)) ((x5 ⊖ x6) ⊗ x0)
      (record { by = num (pos 1); lhs = x1 ⊖ x2; rhs = x5 ⊗ x0 } ∷ record { by = num (negsuc 0); lhs = x3 ⊖ x4; rhs = x6 ⊗ x0 } ∷ [])
      (s.first, (t.first, tt)) refl;
  second = combine F_ring (h ∷ u ∷ u0 ∷ v ∷ v0 ∷ bu ∷ bv ∷ cu ∷ cv ∷ []) (x1 ⊖ x3 ⊖ (x2 ⊖ x4)) ((x5 ⊖ x6) ⊗ x0 ⊕ (x7 ⊖ x8) ⊗ x0 ⊗ x0)
      (record { by = num (pos 1); lhs = x1 ⊖ x2; rhs = x5 ⊗ x0 ⊕ x7 ⊗ x0 ⊗ x0 } ∷ record { by = num (negsuc 0); lhs = x3 ⊖ x4; rhs = x6 ⊗ x0 ⊕ x8 ⊗ x0 ⊗ x0 } ∷ [])
      (s.second, (t.second, tt)) refl;
}

-- ---- product
product_second : (u u0 v v0 au bu cu bv cv h : Frac)
    → (u -F u0) ≈ (bu *F h +F cu *F h *F h) → (u -F u0) ≈ (au *F h) → (v -F v0) ≈ (bv *F h +F cv *F h *F h)
    → (u *F v -F u0 *F v0) ≈ ((bu *F v0 +F u0 *F bv) *F h +F (cu *F v0 +F u *F cv +F au *F bv) *F h *F h)
product_second u u0 v v0 au bu cu bv cv h p q r =
    combine F_ring (u ∷ u0 ∷ v ∷ v0 ∷ au ∷ bu ∷ cu ∷ bv ∷ cv ∷ h ∷ [])
    (U ⊗ V ⊖ U0 ⊗ V0)
    ((BU ⊗ V0 ⊕ U0 ⊗ BV) ⊗ H ⊕ (CU ⊗ V0 ⊕ U ⊗ CV ⊕ AU ⊗ BV) ⊗ H ⊗ H)
    (record { by = V0; lhs = U ⊖ U0; rhs = BU ⊗ H ⊕ CU ⊗ H ⊗ H }
    ∷ record { by = BV ⊗ H; lhs = U ⊖ U0; rhs = AU ⊗ H }
    ∷ record { by = U; lhs = V ⊖ V0; rhs = BV ⊗ H ⊕ CV ⊗ H ⊗ H } ∷ [])
    (p, (q, (r, tt))) refl
  where
    U : Expr
    U = x0

    U0 : Expr
    U0 = x1

    V : Expr
    V = x2

    V0 : Expr
    V0 = x3

    AU : Expr
    AU = x4

    BU : Expr
    BU = x5

    CU : Expr
    CU = x6

    BV : Expr
    BV = x7

    CV : Expr
    CV = x8

    H : Expr
    H = x9

pub product_slope : {h u u0 v v0 au bu cu av bv cv : Frac} → Slope h u u0 au bu cu → Slope h v v0 av bv cv
    → Slope h (u *F v) (u0 *F v0) (au *F v0 +F u *F av) (bu *F v0 +F u0 *F bv) (cu *F v0 +F u *F cv +F au *F bv)
product_slope {h} {u} {u0} {v} {v0} {au} {bu} {cu} {av} {bv} {cv} s t = record {
  first = combine F_ring (h ∷ u ∷ u0 ∷ v ∷ v0 ∷ au ∷ av ∷ []) (x1 ⊗ x3 ⊖ x2 ⊗ x4) ((x5 ⊗ x4 ⊕ x1 ⊗ x6) ⊗ x0)
      (record { by = x4; lhs = x1 ⊖ x2; rhs = x5 ⊗ x0 } ∷ record { by = x1; lhs = x3 ⊖ x4; rhs = x6 ⊗ x0 } ∷ [])
      (s.first, (t.first, tt)) refl;
  second = product_second u u0 v v0 au bu cu bv cv h s.second s.first t.second;
}

-- ---- quotient and curve
-- w = u / v, w0 = u0 / v0; b = (bu − w0 bv) / v0; c = (cu − w0 cv − b av) / v
quotient_second : (u u0 v v0 w w0 bu cu av bv cv b c h : Frac) → Nonzero v
    → (w *F v) ≈ u → (w0 *F v0) ≈ u0
    → (u -F u0) ≈ (bu *F h +F cu *F h *F h) → (v -F v0) ≈ (bv *F h +F cv *F h *F h) → (v -F v0) ≈ (av *F h)
    → (b *F v0) ≈ (bu -F w0 *F bv) → (c *F v) ≈ (cu -F w0 *F cv -F b *F av)
    → (w -F w0) ≈ (b *F h +F c *F h *F h)
quotient_second u u0 v v0 w w0 bu cu av bv cv b c h nz e1 e2 e3 e4 e7 e5 e6 = cancel_F v nz
    (combine F_ring (u ∷ u0 ∷ v ∷ v0 ∷ w ∷ w0 ∷ bu ∷ cu ∷ av ∷ bv ∷ cv ∷ b ∷ c ∷ h ∷ [])
    (x2 ⊗ (x4 ⊖ x5)) (x2 ⊗ (x11 ⊗ x13 ⊕ x12 ⊗ x13 ⊗ x13))
    (record { by = num (pos 1); lhs = x4 ⊗ x2; rhs = x0 }
    ∷ record { by = num (negsuc 0); lhs = x5 ⊗ x3; rhs = x1 }
    ∷ record { by = num (pos 1); lhs = x0 ⊖ x1; rhs = x6 ⊗ x13 ⊕ x7 ⊗ x13 ⊗ x13 }
    ∷ record { by = ⊝ x5; lhs = x2 ⊖ x3; rhs = x9 ⊗ x13 ⊕ x10 ⊗ x13 ⊗ x13 }
    ∷ record { by = ⊝ x13; lhs = x11 ⊗ x3; rhs = x6 ⊖ x5 ⊗ x9 }
    ∷ record { by = ⊝ (x13 ⊗ x13); lhs = x12 ⊗ x2; rhs = x7 ⊖ x5 ⊗ x10 ⊖ x11 ⊗ x8 }
    ∷ record { by = ⊝ (x11 ⊗ x13); lhs = x2 ⊖ x3; rhs = x8 ⊗ x13 } ∷ [])
    (e1, (e2, (e3, (e4, (e5, (e6, (e7, tt))))))) refl)

-- a = (au − w0 av) / v
quotient_first : (u u0 v v0 w w0 au av a h : Frac) → Nonzero v
    → (w *F v) ≈ u → (w0 *F v0) ≈ u0 → (u -F u0) ≈ (au *F h) → (v -F v0) ≈ (av *F h)
    → (a *F v) ≈ (au -F w0 *F av) → (w -F w0) ≈ (a *F h)
quotient_first u u0 v v0 w w0 au av a h nz e1 e2 e3 e4 e5 = cancel_F v nz
    (combine F_ring (u ∷ u0 ∷ v ∷ v0 ∷ w ∷ w0 ∷ au ∷ av ∷ a ∷ h ∷ [])
    (x2 ⊗ (x4 ⊖ x5)) (x2 ⊗ (x8 ⊗ x9))
    (record { by = num (pos 1); lhs = x4 ⊗ x2; rhs = x0 }
    ∷ record { by = num (negsuc 0); lhs = x5 ⊗ x3; rhs = x1 }
    ∷ record { by = num (pos 1); lhs = x0 ⊖ x1; rhs = x6 ⊗ x9 }
    ∷ record { by = ⊝ x5; lhs = x2 ⊖ x3; rhs = x7 ⊗ x9 }
    ∷ record { by = ⊝ x9; lhs = x8 ⊗ x2; rhs = x6 ⊖ x5 ⊗ x7 } ∷ [])
    (e1, (e2, (e3, (e4, (e5, tt))))) refl)

-- a curve f with f(u) − f(u0) = g (u − u0) and g = e + k (u − u0)
curve_second : (fu f0 u u0 au bu cu e g k h : Frac)
    → (fu -F f0) ≈ (g *F (u -F u0)) → g ≈ (e +F k *F (u -F u0)) → (u -F u0) ≈ (au *F h) → (u -F u0) ≈ (bu *F h +F cu *F h *F h)
    → (fu -F f0) ≈ ((e *F bu) *F h +F (g *F cu +F k *F au *F bu) *F h *F h)
curve_second fu f0 u u0 au bu cu e g k h p q r s =
    combine F_ring (fu ∷ f0 ∷ u ∷ u0 ∷ au ∷ bu ∷ cu ∷ e ∷ g ∷ k ∷ h ∷ [])
    (x0 ⊖ x1) ((x7 ⊗ x5) ⊗ x10 ⊕ (x8 ⊗ x6 ⊕ x9 ⊗ x4 ⊗ x5) ⊗ x10 ⊗ x10)
    (record { by = num (pos 1); lhs = x0 ⊖ x1; rhs = x8 ⊗ (x2 ⊖ x3) }
    ∷ record { by = x8; lhs = x2 ⊖ x3; rhs = x5 ⊗ x10 ⊕ x6 ⊗ x10 ⊗ x10 }
    ∷ record { by = x5 ⊗ x10; lhs = x8; rhs = x7 ⊕ x9 ⊗ (x2 ⊖ x3) }
    ∷ record { by = x5 ⊗ x10 ⊗ x9; lhs = x2 ⊖ x3; rhs = x4 ⊗ x10 } ∷ [])
    (p, (s, (q, (r, tt)))) refl

pub quotient_slope : {h u u0 v v0 w w0 au bu cu av bv cv a b c : Frac} → Nonzero v
    → (w *F v) ≈ u → (w0 *F v0) ≈ u0 → Slope h u u0 au bu cu → Slope h v v0 av bv cv
    → (a *F v) ≈ (au -F w0 *F av) → (b *F v0) ≈ (bu -F w0 *F bv) → (c *F v) ≈ (cu -F w0 *F cv -F b *F av)
    → Slope h w w0 a b c
quotient_slope {h} {u} {u0} {v} {v0} {w} {w0} {au} {bu} {cu} {av} {bv} {cv} {a} {b} {c} nz e e0 s t ea eb ec = record {
  first = quotient_first u u0 v v0 w w0 au av a h nz e e0 s.first t.first ea;
  second = quotient_second u u0 v v0 w w0 bu cu av bv cv b c h nz e e0 s.second t.second t.first eb ec;
}

-- fu, f0 the values of a curve with chord g = e + k (u − u0)
pub curve_slope : (e g k : Frac) {h u u0 fu f0 au bu cu : Frac}
    → (fu -F f0) ≈ (g *F (u -F u0)) → g ≈ (e +F k *F (u -F u0)) → Slope h u u0 au bu cu
    → Slope h fu f0 (g *F au) (e *F bu) (g *F cu +F k *F au *F bu)
curve_slope e g k {h} {u} {u0} {fu} {f0} {au} {bu} {cu} p q s = record {
  first = ≈_trans p (combine F_ring (g ∷ (u -F u0) ∷ au ∷ h ∷ []) (x0 ⊗ x1) (x0 ⊗ x2 ⊗ x3) (record { by = x0; lhs = x1; rhs = x2 ⊗ x3 } ∷ []) (s.first, tt) refl);
  second = curve_second fu f0 u u0 au bu cu e g k h p q s.first s.second;
}
