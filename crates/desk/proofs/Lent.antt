-- What a call leaves in the lines that are lent.
use Rattle.std.proofs.Common.{◌≡◌, ◌++◌, ℕ, List, length, take, subst}
use Rattle.std.proofs.Math.Seq.{take-append_seam}

pub front : {A : Type 0} (n : ℕ) (xs ys : List A) → length xs ≡ n → take n (xs ++ ys) ≡ xs
front n xs ys e = subst (λ k. take k (xs ++ ys) ≡ xs) e (take-append_seam xs ys)
