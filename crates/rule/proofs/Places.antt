-- What stands at each place of a list with one element more.
use Rattle.std.proofs.Common.{◌≡◌, ℕ, zero, suc, ◌<◌, ◌⊎◌, List, [], ◌∷◌, ◌++◌, length, Some, refl, ap, inl, inr, arith}
use Rattle.std.specs.List.{slice_get}
use Rattle.fault.proofs.Steps.{none_some}

pub nth_some : {X : Type 0} (xs : List X) (i : ℕ) → i < length xs → (x : X) × (slice_get xs i ≡ Some x)
nth_some [] i h = absurd (omega arith)
nth_some (x ∷ xs) zero h = (x, refl)
nth_some (x ∷ xs) (suc i) h = nth_some xs i (omega arith)

pub nth_in : {X : Type 0} (xs : List X) (i : ℕ) (x : X) → slice_get xs i ≡ Some x → i < length xs
nth_in [] i x e = absurd (none_some e)
nth_in (y ∷ xs) zero x e = omega arith
nth_in (y ∷ xs) (suc i) x e = let h = nth_in xs i x e in omega arith

module _ {X : Type 0} (x : X) where
  pub nth_old : (xs : List X) (i : ℕ) → i < length xs → slice_get (xs ++ x ∷ []) i ≡ slice_get xs i
  nth_old [] i h = absurd (omega arith)
  nth_old (y ∷ xs) zero h = refl
  nth_old (y ∷ xs) (suc i) h = nth_old xs i (omega arith)

  pub nth_new : (xs : List X) → slice_get (xs ++ x ∷ []) (length xs) ≡ Some x
  nth_new [] = refl
  nth_new (y ∷ xs) = nth_new xs

  -- an element stands before, or is the new one
  pub nth_push : (xs : List X) (i : ℕ) (y : X) → slice_get (xs ++ x ∷ []) i ≡ Some y → ((i < length xs) × (slice_get xs i ≡ Some y)) ⊎ ((i ≡ length xs) × (x ≡ y))
  nth_push [] zero y e = inr (refl, cc)
  nth_push [] (suc i) y e = absurd (none_some e)
  nth_push (z ∷ xs) zero y e = inl (omega arith, e)
  nth_push (z ∷ xs) (suc i) y e = later (nth_push xs i y e)
    where
      later : ((i < length xs) × (slice_get xs i ≡ Some y)) ⊎ ((i ≡ length xs) × (x ≡ y)) → ((suc i < suc (length xs)) × (slice_get xs i ≡ Some y)) ⊎ ((suc i ≡ suc (length xs)) × (x ≡ y))
      later (inl h) = inl (let k = h.0 in omega arith, h.1)
      later (inr h) = inr (ap suc h.0, h.1)
