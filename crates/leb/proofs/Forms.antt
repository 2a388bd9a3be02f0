-- The definitions at a last group and at another.
use Rattle.std.proofs.Common.{◌≡◌, ℕ, ◌+◌, ◌*◌, ◌%◌, ◌^◌, ◌<◌, ◌≤◌, true, List, [], ◌∷◌, ⊎_elim, mul-add, arith, pow-add}
use Rattle.std.proofs.lemmas.Bool.{cases_lt, le-ltb, lt-ltb}
use Rattle.leb.specs.Numbers.{ends, last_group, size, value}

pub ends_last : (b : ℕ) (bs : List ℕ) → b < 128 → ends (b ∷ bs) ≡ true
ends_last b bs h = rw (lt-ltb b 128 h)

pub ends_next : (b : ℕ) (bs : List ℕ) → 128 ≤ b → ends (b ∷ bs) ≡ ends bs
ends_next b bs h = rw (le-ltb b 128 h)

pub size_last : (b : ℕ) (bs : List ℕ) → b < 128 → size (b ∷ bs) ≡ 1
size_last b bs h = rw (lt-ltb b 128 h)

pub size_next : (b : ℕ) (bs : List ℕ) → 128 ≤ b → size (b ∷ bs) ≡ size bs + 1
size_next b bs h = rw (le-ltb b 128 h)

pub last_last : (b : ℕ) (bs : List ℕ) → b < 128 → last_group (b ∷ bs) ≡ b
last_last b bs h = rw (lt-ltb b 128 h)

pub last_next : (b : ℕ) (bs : List ℕ) → 128 ≤ b → last_group (b ∷ bs) ≡ last_group bs
last_next b bs h = rw (le-ltb b 128 h)

pub value_last : (b : ℕ) (bs : List ℕ) → b < 128 → value (b ∷ bs) ≡ b
value_last b bs h = rw (lt-ltb b 128 h)

pub value_next : (b : ℕ) (bs : List ℕ) → 128 ≤ b → value (b ∷ bs) ≡ b % 128 + 128 * value bs
value_next b bs h = rw (le-ltb b 128 h)

-- a number whose last group is not 0 is at least as large as its size says
pub large : (bs : List ℕ) → ends bs ≡ true → 0 < last_group bs → 2 ^ (7 * size bs) ≤ 128 * value bs
large [] e h = omega arith
large (b ∷ bs) e h =
    ⊎_elim
    (λ lt. rw (size_last b bs lt, value_last b bs lt) (let p = rw (last_last b bs lt) at h in omega arith))
    (λ le.
    let e' = rw (ends_next b bs le) at e in
    let h' = rw (last_next b bs le) at h in
    let ih = large bs e' h' in
    let p : 2 ^ (7 * size bs + 7) ≡ 2 ^ (7 * size bs) * 128 = pow-add 2 (7 * size bs) 7 in
    rw (size_next b bs le, value_next b bs le, mul-add 7 (size bs) 1, p) (omega arith))
    (cases_lt b 128)
