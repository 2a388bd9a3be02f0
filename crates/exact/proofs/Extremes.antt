-- The greater and the lesser of two fractions.
use Rattle.std.proofs.Common.{[], ◌∷◌, pos, refl}
use Rattle.exact.specs.Fraction.{Frac, neg_F, ◌≈◌, ◌≤F◌, max_F, min_F}
use Rattle.exact.proofs.Ring.{num, ⊝◌, combine, x0, x1}
use Rattle.exact.proofs.Fractions.{F_ring, ≈_refl}
use Rattle.exact.proofs.Order.{≤F_refl, ≤F_antisym, le_of_lt, neg_mono, by_le}

pub max_ind : (x y : Frac) (P : Frac → Type 0) → (y ≤F x → P x) → (x ≤F y → P y) → P (max_F x y)
unfolding max_F
max_ind x y P f g = by_le x y P y x g (λ h. f (le_of_lt h))

pub min_ind : (x y : Frac) (P : Frac → Type 0) → (x ≤F y → P x) → (y ≤F x → P y) → P (min_F x y)
unfolding min_F
min_ind x y P f g = by_le x y P x y f (λ h. g (le_of_lt h))

pub max_left : (x y : Frac) → x ≤F max_F x y
max_left x y = max_ind x y (λ m. x ≤F m) (λ h. ≤F_refl x) (λ h. h)

pub max_right : (x y : Frac) → y ≤F max_F x y
max_right x y = max_ind x y (λ m. y ≤F m) (λ h. h) (λ h. ≤F_refl y)

pub min_left : (x y : Frac) → min_F x y ≤F x
min_left x y = min_ind x y (λ m. m ≤F x) (λ h. ≤F_refl x) (λ h. h)

pub min_right : (x y : Frac) → min_F x y ≤F y
min_right x y = min_ind x y (λ m. m ≤F y) (λ h. h) (λ h. ≤F_refl y)

pub max_is_left : {x y : Frac} → y ≤F x → max_F x y ≈ x
max_is_left {x} {y} h = max_ind x y (λ m. m ≈ x) (λ k. ≈_refl x) (λ k. ≤F_antisym h k)

pub min_is_left : {x y : Frac} → x ≤F y → min_F x y ≈ x
min_is_left {x} {y} h = min_ind x y (λ m. m ≈ x) (λ k. ≈_refl x) (λ k. ≤F_antisym k h)

pub min_is_right : {x y : Frac} → y ≤F x → min_F x y ≈ y
min_is_right {x} {y} h = min_ind x y (λ m. m ≈ y) (λ k. ≤F_antisym k h) (λ k. ≈_refl y)

pub max_is_right : {x y : Frac} → x ≤F y → max_F x y ≈ y
max_is_right {x} {y} h = max_ind x y (λ m. m ≈ y) (λ k. ≤F_antisym h k) (λ k. ≈_refl y)

-- the lesser is the negative of the greater of the negatives
pub min_mirror : (u v : Frac) → min_F u v ≈ neg_F (max_F (neg_F u) (neg_F v))
min_mirror u v = min_ind u v (λ m. m ≈ neg_F (max_F (neg_F u) (neg_F v)))
    (λ h. twice (max_is_left (neg_mono h))) (λ h. twice (max_is_right (neg_mono h)))
  where
    twice : {x M : Frac} → M ≈ neg_F x → x ≈ neg_F M
    twice {x} {M} e = combine F_ring (x ∷ M ∷ []) x0 (⊝ x1) (record { by = num (pos 1); lhs = x1; rhs = ⊝ x0 } ∷ []) (e, tt) refl
