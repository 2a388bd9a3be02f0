-- The bytes of a number, one after another.
use Rattle.std.proofs.Common.{◌≡◌, ℕ, zero, suc, ◌+◌, ◌*◌, ◌/◌, ◌%◌, ◌^◌, ◌<◌, ◌≤◌, List, [], ◌∷◌, length, Some, None, Option, sym, ap, ◌∙◌, ⊎_elim, arith, pow-add}
use Rattle.std.proofs.lemmas.Nat.{div_below}
use Rattle.std.proofs.lemmas.Bool.{cases_lt, le-ltb}
use Rattle.leb.proofs.Trip.{one_group}
use Rattle.leb.specs.Numbers.{encode, groups}
use Rattle.writer.specs.Writing.{held_bytes, written}

next_group : (k n : ℕ) → 128 ≤ n → groups (suc k) n ≡ (n % 128 + 128) ∷ groups k (n / 128)
next_group k n h = rw (le-ltb n 128 h)

fewer : (k n : ℕ) → n < 2 ^ (7 * suc k + 7) → n / 128 < 2 ^ (7 * k + 7)
fewer k n h =
    let pow : 2 ^ (7 * suc k + 7) ≡ 2 ^ (7 * k + 7) * 128 = ap (λ (x : ℕ). 2 ^ x) (omega arith) ∙ pow-add 2 (7 * k + 7) 7 in
    div_below n 128 (2 ^ (7 * k + 7)) (omega arith) (omega (arith, h, pow))

-- room for one group more changes nothing
settled : (k n : ℕ) → n < 2 ^ (7 * k + 7) → groups (suc k) n ≡ groups k n
settled zero n h = one_group 1 n h
settled (suc k) n h =
    ⊎_elim
    (λ lt. one_group (suc (suc k)) n lt ∙ sym (one_group (suc k) n lt))
    (λ le. next_group (suc k) n le ∙ ap (λ bs. (n % 128 + 128) ∷ bs) (settled k (n / 128) (fewer k n h)) ∙ sym (next_group k n le))
    (cases_lt n 128)

few : (k n : ℕ) → length (groups k n) ≤ k + 1
few zero n = omega arith
few (suc k) n =
    ⊎_elim
    (λ lt. let e = ap length (one_group (suc k) n lt) in omega arith)
    (λ le. let e = ap length (next_group k n le) in omega (arith, few k (n / 128)))
    (cases_lt n 128)

-- ---- the bytes of a number that may not be there
pub last_byte : (o : Option ℕ) (n : ℕ) → o ≡ Some n → n < 128 → held_bytes o ≡ n ∷ []
unfolding encode
last_byte o n e h = ap held_bytes e ∙ one_group 9 n h

pub first_byte : (o : Option ℕ) (n : ℕ) → o ≡ Some n → 128 ≤ n → n < 2 ^ 64 → held_bytes o ≡ (n % 128 + 128) ∷ held_bytes (Some (n / 128))
unfolding encode
first_byte o n e h f = ap held_bytes e ∙ next_group 8 n h ∙ ap (λ bs. (n % 128 + 128) ∷ bs) (sym (settled 8 (n / 128) (omega arith)))

pub at_most_ten : (o : Option ℕ) → length (held_bytes o) ≤ 10
unfolding encode
at_most_ten None = omega arith
at_most_ten (Some n) = few 9 n

-- ---- bytes that are left to write from place p on
pub record Rest (out : List ℕ) (p : ℕ) (left goal : List ℕ) (end : ℕ) : Type 0 where
  pub room : p + length left ≤ length out
  pub same : written out p left ≡ goal
  pub ends : p + length left ≡ end
