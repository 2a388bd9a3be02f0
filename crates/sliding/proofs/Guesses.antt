-- A guess at a floor, tested by the rest that it leaves.
use Rattle.std.proofs.Common.{◌≡◌, ◌∙◌, ℕ, ◌+◌, ◌-◌, ◌*◌, ◌%◌, ◌^◌, ◌<◌, ◌≤◌, [], ◌∷◌, ℤ, pos, negsuc, ◌+ℤ◌, ◌-ℤ◌, ◌*ℤ◌, neg_ℤ, ◌≤ℤ◌, ◌<ℤ◌, nat_abs, refl, ap, Bool, false, to_z, of_z, w64, arith}
use borrow.Author.Differences.{ints}
use lib.Dec.{ltb}
use lib.Signed.{lt_z}
use mir.Val.{bool_byte}
use Rattle.std.proofs.lemmas.Int.{by_lt_z, int_wrap_fits, to_z-of_z, to_z_pos}
use Rattle.std.proofs.lemmas.Bool.Decides.{nat_tests}
use Rattle.std.specs.Int.{int_div_euclid, int_wrap}
use Rattle.exact.proofs.Floors.{floor_between}
use Rattle.exact.proofs.Integers.{ring}
use Rattle.exact.proofs.Ring.{num, x0, x1, ◌⊗◌, ◌⊕◌, ⊝◌}

-- 1 where r is negative
one_where : (r x : ℤ) → x ≡ pos (bool_byte (lt_z r (pos 0))) → (r <ℤ pos 0 → x ≡ pos 1) × (pos 0 ≤ℤ r → x ≡ pos 0)
one_where (pos a) x e = (
  λ h. absurd (omega (arith, ints)),
  λ h. let f : ltb a 0 ≡ false = grind (arith, nat_tests) in e ∙ ap (λ (b : Bool). pos (bool_byte b)) f,
)
one_where (negsuc a) x e = (λ h. e, λ h. absurd (omega (arith, ints)))

-- the floor is q, or one less where the rest is negative
pub floor_at : (n q r x : ℤ) (d : ℕ) → 0 < d → r ≡ n -ℤ q *ℤ pos d → neg_ℤ (pos d) ≤ℤ r → r <ℤ pos d → x ≡ pos (bool_byte (lt_z r (pos 0)))
    → q -ℤ x ≡ int_div_euclid n (pos d)
floor_at n q r x d h e low high f = by_lt_z r (pos 0)
    (λ l.
    let here : (q -ℤ pos 1) *ℤ pos d ≡ q *ℤ pos d -ℤ pos d =
    ring (q ∷ pos d ∷ []) ((x0 ⊕ num (neg_ℤ (pos 1))) ⊗ x1) (x0 ⊗ x1 ⊕ ⊝ x1) refl in
    let next : ((q -ℤ pos 1) +ℤ pos 1) *ℤ pos d ≡ q *ℤ pos d = ap (λ (z : ℤ). z *ℤ pos d) (omega (arith, ints)) in
    let g = floor_between n (q -ℤ pos 1) d h (rw here (omega (arith, ints))) (rw next (omega (arith, ints))) in
    let o = (one_where r x f).0 l in
    omega (arith, ints))
    (λ l.
    let next : (q +ℤ pos 1) *ℤ pos d ≡ q *ℤ pos d +ℤ pos d = ring (q ∷ pos d ∷ []) ((x0 ⊕ num (pos 1)) ⊗ x1) (x0 ⊗ x1 ⊕ x1) refl in
    let g = floor_between n q d h (omega (arith, ints)) (rw next (omega (arith, ints))) in
    let o = (one_where r x f).1 l in
    omega (arith, ints))

-- a difference that is wrapped is far from 0
over : (a : ℕ) → 2 ^ 63 ≤ a → a < 2 ^ 64 → int_wrap w64 (pos a) ≡ neg_ℤ (pos (2 ^ 64 - a))
unfolding int_wrap
over a l h = let e : a % 2 ^ 64 ≡ of_z w64 (neg_ℤ (pos (2 ^ 64 - a))) = omega (arith, ints) in
    ap (to_z w64) e ∙ to_z-of_z w64 (neg_ℤ (pos (2 ^ 64 - a))) (omega (arith, ints))

under : (a : ℕ) → 2 ^ 63 ≤ a → a < 2 ^ 64 → int_wrap w64 (negsuc a) ≡ pos (2 ^ 64 - 1 - a)
unfolding int_wrap
under a l h = let e : 2 ^ 64 - 1 - a % 2 ^ 64 ≡ 2 ^ 64 - 1 - a = omega arith in ap (to_z w64) e ∙ to_z_pos w64 (2 ^ 64 - 1 - a) (omega arith)

pub unwrapped : (z : ℤ) → nat_abs z ≤ 2 ^ 62 + 549755813888 * 16777215 → nat_abs (int_wrap w64 z) ≤ 16777216 → int_wrap w64 z ≡ z
unwrapped (pos a) b n = by_lt_z (pos a) (pos (2 ^ 63))
    (λ l. int_wrap_fits w64 (pos a) (omega (arith, ints)))
    (λ l. let e = over a (omega (arith, ints)) (omega arith) in absurd (omega (arith, ints)))
unwrapped (negsuc a) b n = by_lt_z (pos a) (pos (2 ^ 63))
    (λ l. int_wrap_fits w64 (negsuc a) (omega (arith, ints)))
    (λ l. let e = under a (omega (arith, ints)) (omega arith) in absurd (omega (arith, ints)))

pub at_most_one : (r x : ℤ) → x ≡ pos (bool_byte (lt_z r (pos 0))) → nat_abs x ≤ 1
at_most_one r x e = by_lt_z r (pos 0)
    (λ l. let o = (one_where r x e).0 l in omega (arith, ints))
    (λ l. let o = (one_where r x e).1 l in omega (arith, ints))
