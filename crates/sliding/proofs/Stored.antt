-- The marks of the sliding kind and their stored forms, both ways.
use Rattle.std.specs.Prelude.{nat_le}
use Rattle.std.proofs.Common.{◌≡◌, ℕ, zero, suc, ◌+◌, ◌-◌, ◌*◌, ◌^◌, ◌≤◌, Bool, true, false, ◌||◌, T, ℤ, pos, ◌*ℤ◌, nat_abs, Some, None, sym, refl, ap, ◌∙◌, subst, arith, mul-le-mul, pow_mono, pow_pos, pow-suc, le→leb, lt_of_mul-lt-mul_right, le_of_mul-le-mul_right, w32, w64, SFits, to_z, of_z}
use borrow.Author.Differences.{ints}
use lib.Signed.{shr_z}
use Rattle.std.proofs.lemmas.Int.{by_lt_z, to_z-of_z, unsigned_abs-mul}
use Rattle.std.specs.Int.{int_div_euclid}
use Rattle.exact.proofs.Integers.{cancel}
use Rattle.kind.proofs.Plain.{plain32}
use Rattle.sliding.proofs.Scales.{plain_shr, scale_is, scale_short}
use Rattle.sliding.specs.Cut.{Scale, cut, shifted}
use Rattle.sliding.specs.Form.{Normal, OnGrid}
use Rattle.sliding.specs.Grid.{mark, mark_if, normal_on, normal_yes, normal?, stored_as}
use Rattle.sliding.specs.Marks.{SlidingMarks}
use Rattle.sliding.specs.Rules.{from_both, made}
use Rattle.sliding.specs.Slides.{cut_shifted, on_shifted, shifted_add}
use Rattle.sliding.specs.declared.mark.Sliding.{Sliding}

-- ---- the mark of a stored form
right : (a b : Bool) → T b → T (a || b)
right true b h = tt
right false b h = h

yes_normal : (m : ℤ) (s : ℕ) → Normal m s → T (normal? m s)
yes_normal m zero h = from_both _ _ (le→leb _ _ h.0) (from_both (nat_le zero 32) (nat_le zero 0 || nat_le 8388608 (nat_abs m)) (le→leb zero 32 h.1) tt)
yes_normal m (suc s) h = from_both _ _ (le→leb _ _ h.0) (from_both _ _ (le→leb (suc s) 32 h.1) (right _ _ (le→leb _ _ (h.2 (omega arith)))))

pub stored_some : (a : Sliding) (m : ℤ) (s : ℕ) → Normal m s → a.units ≡ shifted m s → Some a ≡ stored_as m s
stored_some a m s n e = made a (shifted m s) (normal? m s) (λ h. normal_on m s (normal_yes m s h)) None (yes_normal m s n) e

-- ---- the stored form of a mark
clear : (k : ℤ) (s : ℕ) → OnGrid k → Scale k s → cut k s ≡ k
clear k zero g r = let e : shifted k 0 ≡ k = omega (arith, ints) in ap (λ (z : ℤ). cut z 0) (sym e) ∙ cut_shifted k 0 ∙ e
clear k (suc t) g r = g.1 t (let f = r.full (omega arith) in let e = pow-suc 2 t in omega arith)

module _ (k : ℤ) (s : ℕ) (g : OnGrid k) (r : Scale k s) where
  abbrev m : ℤ
  m = int_div_euclid k (pos (2 ^ s))

  -- the bits that are cut are clear
  pub is_stored : shifted m s ≡ k
  is_stored = clear k s g r

  size : nat_abs m * 2 ^ s ≡ nat_abs k
  size = sym (unsigned_abs-mul m (pos (2 ^ s))) ∙ ap nat_abs is_stored

  pub stored_normal : Normal m s
  stored_normal = (
    (let u = lt_of_mul-lt-mul_right (2 ^ s) {m = nat_abs m} {n = 16777216} (let e = size in let u = r.under in omega arith) in omega arith),
    scale_short r g.0,
    λ h. le_of_mul-le-mul_right {m = 8388608} {n = nat_abs m} {k = 2 ^ s} (let e = size in let f = r.full h in omega arith) (pow_pos s),
  )

-- ---- a stored form is the only one of its value
-- of two forms of one value, the coarser has the same scale
same_scale : (m n : ℤ) (s j : ℕ) → Normal m s → Normal n (s + j) → shifted m s ≡ shifted n (s + j) → j ≡ 0
same_scale m n s zero p q e = refl
same_scale m n s (suc j) p q e =
    let f : m ≡ shifted n (suc j) = cancel m (shifted n (suc j)) (2 ^ s) (pow_pos s) (e ∙ ap (shifted n) (omega arith) ∙ shifted_add n (suc j) s) in
    let g : nat_abs m ≡ nat_abs n * 2 ^ suc j = ap nat_abs f ∙ unsigned_abs-mul n (pos (2 ^ suc j)) in
    let k = q.2 (omega arith) in
    let w : 2 ^ 1 ≤ 2 ^ suc j = pow_mono {i = 1} {j = suc j} (omega arith) in
    absurd (over (nat_abs m) (nat_abs n) (2 ^ suc j) g k w p.0)
  where
    over : (a b c : ℕ) → a ≡ b * c → 8388608 ≤ b → 2 ≤ c → a ≤ 16777215 → ⊥
    over a b c e p q r = omega (arith, mul-le-mul p q)

finer : (m n : ℤ) (s t : ℕ) → s ≤ t → Normal m s → Normal n t → shifted m s ≡ shifted n t → (m ≡ n) × (s ≡ t)
finer m n s t h p q e =
    let f : t ≡ s + (t - s) = omega arith in
    let z = same_scale m n s (t - s) p (subst (Normal n) f q) (e ∙ ap (shifted n) f) in
    let g : t ≡ s = omega arith in
    (cancel m n (2 ^ s) (pow_pos s) (e ∙ ap (shifted n) g), sym g)

once : (m n : ℤ) (s t : ℕ) → Normal m s → Normal n t → shifted m s ≡ shifted n t → (m ≡ n) × (s ≡ t)
once m n s t p q e = by_lt_z (pos t) (pos s)
    (λ h. let r = finer n m t s (omega (arith, ints)) q p (sym e) in (sym r.0, sym r.1))
    (λ h. finer m n s t (omega (arith, ints)) p q e)

pub sliding_marks : SlidingMarks
sliding_marks = record {
  each = λ m s p q. (mark (shifted m s) (on_shifted m s p q), record { cross = refl });
  only = λ a.
      let r = scale_is a.units (nat_abs a.units) _ refl (let b = a.on_grid.0 in omega arith) refl in
      (_, _, stored_normal a.units _ a.on_grid r, record { cross = ap (λ (z : ℤ). z *ℤ pos 16777216) (sym (is_stored a.units _ a.on_grid r)) });
  once = once;
}

-- what is stored as m and s is m × 2^s
pub of_stored : (m : ℤ) (s : ℕ) (a : Sliding) → stored_as m s ≡ Some a → Normal m s × (a.units ≡ shifted m s)
of_stored m s a e = go (normal? m s) (normal_yes m s) (λ h. normal_on m s (normal_yes m s h)) e
  where
    go : (b : Bool) → (T b → Normal m s) → (h : T b → OnGrid (shifted m s)) → mark_if (shifted m s) b h None ≡ Some a
        → Normal m s × (a.units ≡ shifted m s)
    go true n h f = let g : mark (shifted m s) (h tt) ≡ a = cc in (n tt, ap (λ (x : Sliding). x.units) (sym g))
    go false n h f = absurd (cc)

-- what the code computes
module _ (a : Sliding) (s : ℕ) (r : Scale (to_z w64 (of_z w64 a.units)) s) where
  fits : SFits w64 a.units
  fits = let b = a.on_grid.0 in omega (arith, ints)

  scale : Scale a.units s
  scale = rw (to_z-of_z w64 a.units fits) at r

  pub parts_short : s ≤ 32
  parts_short = scale_short scale a.on_grid.0

  pub is_parts : stored_as (to_z w32 (of_z w32 (to_z w64 (of_z w64 (shr_z (to_z w64 (of_z w64 a.units)) (2 ^ s)))))) s ≡ Some a
  is_parts =
      let n = stored_normal a.units s a.on_grid scale in
      let e = ap (λ (z : ℤ). to_z w32 (of_z w32 z)) (plain_shr w64 a.units s fits)
      ∙ plain32 (int_div_euclid a.units (pos (2 ^ s))) (let b = n.0 in omega arith) in
      ap (λ (z : ℤ). stored_as z s) e ∙ sym (stored_some a (int_div_euclid a.units (pos (2 ^ s))) s n (sym (is_stored a.units s a.on_grid scale)))
