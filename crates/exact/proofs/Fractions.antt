-- Fractions are a commutative ring up to ≈, so the solver serves them.
use Rattle.std.proofs.Common.{◌≡◌, List, [], ◌∷◌, ℤ, pos, negsuc, ◌+ℤ◌, ◌*ℤ◌, sym, refl, ap, ◌∙◌, ap₂}
use Rattle.exact.specs.Fraction.{Frac, whole, ◌+F◌, ◌*F◌, neg_F, ◌-F◌, ◌≈◌}
use Rattle.exact.proofs.Ring.{CRing, Expr, num, ◌⊕◌, ◌⊖◌, ◌⊗◌, ⊝◌, norm, ev, solve, combine, x0, x1, x2, x3, x4, x5, x6, x7}
use Rattle.exact.proofs.Integers.{ring, ℤ_ring, cancel}

-- a fraction of expressions, to write a law's cross products by
record FE : Type 0 where
  t : Expr
  b : Expr

abbrev addE : FE → FE → FE
addE x y = record { t = x.t ⊗ y.b ⊕ y.t ⊗ x.b; b = x.b ⊗ y.b }

abbrev mulE : FE → FE → FE
mulE x y = record { t = x.t ⊗ y.t; b = x.b ⊗ y.b }

abbrev negE : FE → FE
negE x = record { t = ⊝ x.t; b = x.b }

abbrev A : FE
A = record { t = x0; b = x1 }

abbrev B : FE
B = record { t = x2; b = x3 }

abbrev D : FE
D = record { t = x4; b = x5 }

abbrev K : ℤ → FE
K k = record { t = num k; b = num (pos 1) }

abbrev env : Frac → Frac → Frac → List ℤ
env a b c = a.top ∷ pos a.bot ∷ b.top ∷ pos b.bot ∷ c.top ∷ pos c.bot ∷ []

abbrev L : FE → FE → Expr
L p q = p.t ⊗ q.b

pub ≈_trans : {a b c : Frac} → a ≈ b → b ≈ c → a ≈ c
≈_trans {a} {b} {c} p q = record {
  cross = cancel _ _ b.bot b.positive
      (ring (env a b c) (x0 ⊗ x5 ⊗ x3) ((x0 ⊗ x3) ⊗ x5) refl
      ∙ ap (λ z. z *ℤ pos c.bot) p.cross
      ∙ ring (env a b c) ((x2 ⊗ x1) ⊗ x5) ((x2 ⊗ x5) ⊗ x1) refl
      ∙ ap (λ z. z *ℤ pos a.bot) q.cross
      ∙ ring (env a b c) ((x4 ⊗ x3) ⊗ x1) (x4 ⊗ x1 ⊗ x3) refl);
}

pub +-cong : {a b c d : Frac} → a ≈ b → c ≈ d → (a +F c) ≈ (b +F d)
unfolding ◌+F◌
+-cong {a} {b} {c} {d} p q = record {
  cross =
      ring ρ ((x0 ⊗ x5 ⊕ x4 ⊗ x1) ⊗ (x3 ⊗ x7)) ((x0 ⊗ x3) ⊗ (x5 ⊗ x7) ⊕ (x4 ⊗ x7) ⊗ (x1 ⊗ x3)) refl
      ∙ ap₂ (λ s t. s *ℤ (pos c.bot *ℤ pos d.bot) +ℤ t *ℤ (pos a.bot *ℤ pos b.bot)) p.cross q.cross
      ∙ ring ρ ((x2 ⊗ x1) ⊗ (x5 ⊗ x7) ⊕ (x6 ⊗ x5) ⊗ (x1 ⊗ x3)) ((x2 ⊗ x7 ⊕ x6 ⊗ x3) ⊗ (x1 ⊗ x5)) refl;
}
  where
    ρ : List ℤ
    ρ = a.top ∷ pos a.bot ∷ b.top ∷ pos b.bot ∷ c.top ∷ pos c.bot ∷ d.top ∷ pos d.bot ∷ []

pub *-cong : {a b c d : Frac} → a ≈ b → c ≈ d → (a *F c) ≈ (b *F d)
unfolding ◌*F◌
*-cong {a} {b} {c} {d} p q = record {
  cross =
      ring ρ ((x0 ⊗ x4) ⊗ (x3 ⊗ x7)) ((x0 ⊗ x3) ⊗ (x4 ⊗ x7)) refl
      ∙ ap₂ ◌*ℤ◌ p.cross q.cross
      ∙ ring ρ ((x2 ⊗ x1) ⊗ (x6 ⊗ x5)) ((x2 ⊗ x6) ⊗ (x1 ⊗ x5)) refl;
}
  where
    ρ : List ℤ
    ρ = a.top ∷ pos a.bot ∷ b.top ∷ pos b.bot ∷ c.top ∷ pos c.bot ∷ d.top ∷ pos d.bot ∷ []

law : (a b c : Frac) (p q : FE) → norm (L p q) ≡ norm (L q p) → ev ℤ_ring (env a b c) (L p q) ≡ ev ℤ_ring (env a b c) (L q p)
law a b c p q e = ring (env a b c) (L p q) (L q p) e

pub F_add_assoc : (a b c : Frac) → (a +F b +F c) ≈ (a +F (b +F c))
unfolding ◌+F◌
F_add_assoc a b c = record { cross = law a b c (addE (addE A B) D) (addE A (addE B D)) refl }

pub F_add_comm : (a b : Frac) → (a +F b) ≈ (b +F a)
unfolding ◌+F◌
F_add_comm a b = record { cross = law a b a (addE A B) (addE B A) refl }

pub F_zero_add : (a : Frac) → (whole (pos 0) +F a) ≈ a
unfolding ◌+F◌ whole
F_zero_add a = record { cross = law a a a (addE (K (pos 0)) A) A refl }

pub F_mul_assoc : (a b c : Frac) → (a *F b *F c) ≈ (a *F (b *F c))
unfolding ◌*F◌
F_mul_assoc a b c = record { cross = law a b c (mulE (mulE A B) D) (mulE A (mulE B D)) refl }

pub F_mul_comm : (a b : Frac) → (a *F b) ≈ (b *F a)
unfolding ◌*F◌
F_mul_comm a b = record { cross = law a b a (mulE A B) (mulE B A) refl }

pub F_one_mul : (a : Frac) → (whole (pos 1) *F a) ≈ a
unfolding ◌*F◌ whole
F_one_mul a = record { cross = law a a a (mulE (K (pos 1)) A) A refl }

pub F_zero_mul : (a : Frac) → (whole (pos 0) *F a) ≈ whole (pos 0)
unfolding ◌*F◌ whole
F_zero_mul a = record { cross = law a a a (mulE (K (pos 0)) A) (K (pos 0)) refl }

pub F_mul_add : (a b c : Frac) → (a *F (b +F c)) ≈ (a *F b +F a *F c)
unfolding ◌*F◌ ◌+F◌
F_mul_add a b c = record { cross = law a b c (mulE A (addE B D)) (addE (mulE A B) (mulE A D)) refl }

pub F_neg_is : (a : Frac) → neg_F a ≈ (whole (negsuc 0) *F a)
unfolding neg_F ◌*F◌ whole
F_neg_is a = record { cross = law a a a (negE A) (mulE (K (negsuc 0)) A) refl }

pub F_inj_add : (a b : ℤ) → whole (a +ℤ b) ≈ (whole a +F whole b)
unfolding whole ◌+F◌
F_inj_add a b = record { cross = ring (a ∷ b ∷ []) ((x0 ⊕ x1) ⊗ num (pos 1)) ((x0 ⊗ num (pos 1) ⊕ x1 ⊗ num (pos 1)) ⊗ num (pos 1)) refl }

pub F_inj_mul : (a b : ℤ) → whole (a *ℤ b) ≈ (whole a *F whole b)
unfolding whole ◌*F◌
F_inj_mul a b = record { cross = refl }

abbrev pub F_ring : CRing
F_ring = record {
  C = Frac;
  Eq = ◌≈◌;
  add = ◌+F◌;
  mul = ◌*F◌;
  neg = neg_F;
  inj = whole;
  rfl = λ a. record { cross = refl };
  sm = λ p. record { cross = sym p.cross };
  tr = ≈_trans;
  add_cong = +-cong;
  mul_cong = *-cong;
  add_assoc = F_add_assoc;
  add_comm = F_add_comm;
  zero_add = F_zero_add;
  mul_assoc = F_mul_assoc;
  mul_comm = F_mul_comm;
  one_mul = F_one_mul;
  zero_mul = F_zero_mul;
  mul_add = F_mul_add;
  neg_is = F_neg_is;
  inj_add = F_inj_add;
  inj_mul = F_inj_mul;
}

-- the call
pub ring_F : (ρ : List Frac) (a b : Expr) → norm a ≡ norm b → ev F_ring ρ a ≈ ev F_ring ρ b
ring_F ρ a b e = solve F_ring ρ a b e

pub ≈_refl : (x : Frac) → x ≈ x
≈_refl x = record { cross = refl }

pub ≈_sym : {x y : Frac} → x ≈ y → y ≈ x
≈_sym p = record { cross = sym p.cross }

pub −-cong : {u v u0 v0 : Frac} → u ≈ v → u0 ≈ v0 → (u -F u0) ≈ (v -F v0)
−-cong {u} {v} {u0} {v0} e e0 = combine F_ring (u ∷ v ∷ u0 ∷ v0 ∷ []) (x0 ⊖ x2) (x1 ⊖ x3)
    (record { by = num (pos 1); lhs = x0; rhs = x1 } ∷ record { by = num (negsuc 0); lhs = x2; rhs = x3 } ∷ []) (e, (e0, tt)) refl

pub neg_neg : (x : Frac) → neg_F (neg_F x) ≈ x
neg_neg x = ring_F (x ∷ []) (⊝ (⊝ x0)) x0 refl
