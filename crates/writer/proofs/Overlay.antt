-- Bytes written over others: lengths, one list after another.
use Rattle.std.proofs.Common.{◌≡◌, ℕ, ◌+◌, ◌≤◌, List, ◌++◌, length, take, drop, sym, ap, ◌∙◌, subst, ap₂, append_assoc, add_assoc, zero-add, arith, length-append, length-drop, length-take, length-take-le, drop-drop}
use lib.Seq.{drop-append-add, take-append-add, take-append_seam}
use Rattle.writer.specs.Writing.{written}

pub length_written : (out : List ℕ) (at : ℕ) (bs : List ℕ) → at + length bs ≤ length out → length (written out at bs) ≡ length out
length_written out at bs h = simp (length-append, length-take, length-drop) (omega arith)

-- one list after another
front : (A xs D : List ℕ) (at : ℕ) → length A ≡ at → take (at + length xs) (A ++ (xs ++ D)) ≡ A ++ xs
front A xs D at e = subst (λ k. take (k + length xs) (A ++ (xs ++ D)) ≡ A ++ xs) e (take-append-add A (xs ++ D) (length xs) ∙ ap (λ z. A ++ z) (take-append_seam xs D))

back : (A xs D : List ℕ) (at n : ℕ) → length A ≡ at → drop (at + length xs + n) (A ++ (xs ++ D)) ≡ drop n D
back A xs D at n e = subst (λ k. drop (k + length xs + n) (A ++ (xs ++ D)) ≡ drop n D) e
    (ap (λ k. drop k (A ++ (xs ++ D))) (add_assoc (length A) (length xs) n) ∙ drop-append-add A (xs ++ D) (length xs + n) ∙ drop-append-add xs D n)

pub written_append : (out : List ℕ) (at : ℕ) (xs ys : List ℕ) → at + length xs ≤ length out → written (written out at xs) (at + length xs) ys ≡ written out at (xs ++ ys)
written_append out at xs ys h =
    let la : length (take at out) ≡ at = length-take-le at out (omega arith) in
    let e : at + length xs + length ys ≡ at + length (xs ++ ys) = simp length-append (omega arith) in
    ap₂ (λ a b. a ++ (ys ++ b)) (front (take at out) xs (drop (at + length xs) out) at la) (back (take at out) xs (drop (at + length xs) out) at (length ys) la ∙ drop-drop (length ys) (at + length xs) out)
    ∙ append_assoc (take at out) xs _
    ∙ ap (λ z. take at out ++ z) (sym (append_assoc xs ys _) ∙ ap (λ k. (xs ++ ys) ++ drop k out) e)

pub written_start : (out bs : List ℕ) → length bs ≤ length out → written out 0 bs ≡ bs ++ drop (length bs) out
written_start out bs h = ap (λ k. bs ++ drop k out) (zero-add (length bs))
