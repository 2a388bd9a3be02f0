-- Numbers in groups of seven bits, low group first, the high bit set on all groups but the last; in their shortest form, at most
-- 2,147,483,647.
use Rattle.std.specs.Prelude.{ℕ, zero, suc, ◌+◌, ◌*◌, ◌/◌, ◌%◌, ◌<◌, Bool, true, false, cond, List, [], ◌∷◌, Ok, Err, Result, nat_le, nat_lt}
use Rattle.fault.specs.declared.fault.Cause.{Cause}
use Rattle.fault.specs.declared.fault.Cause.TheVariants.{Early, Form}

-- ---- the number that a list of bytes begins with, up to the first byte below 128
-- whether that byte is there
abbrev pub ends : List ℕ → Bool
ends [] = false
ends (b ∷ bs) = cond (nat_lt b 128) true (ends bs)

-- how many groups there are
abbrev pub size : List ℕ → ℕ
size [] = 0
size (b ∷ bs) = cond (nat_lt b 128) 1 (size bs + 1)

abbrev pub last_group : List ℕ → ℕ
last_group [] = 0
last_group (b ∷ bs) = cond (nat_lt b 128) b (last_group bs)

abbrev pub value : List ℕ → ℕ
value [] = 0
value (b ∷ bs) = cond (nat_lt b 128) b (b % 128 + 128 * value bs)

-- the last group is not 0, unless it is the only one
abbrev pub shortest : List ℕ → Bool
shortest bs = cond (nat_le (size bs) 1) true (nat_lt 0 (last_group bs))

abbrev pub well_formed : List ℕ → Bool
well_formed bs = cond (shortest bs) (nat_le (value bs) 2147483647) false

-- a number without its last group ends too early, even if it is too large
abbrev pub decode : List ℕ → Result ℕ Cause
decode bs = cond (ends bs) (cond (well_formed bs) (Ok (value bs)) (Err Form)) (Err Early)

-- ---- the bytes of a number
-- in at most k + 1 groups
abbrev pub groups : ℕ → ℕ → List ℕ
groups zero n = n ∷ []
groups (suc k) n = cond (nat_lt n 128) (n ∷ []) ((n % 128 + 128) ∷ groups k (n / 128))

-- any number of 64 bits
unfoldable pub encode : ℕ → List ℕ
encode n = groups 9 n

-- the list holds bytes
abbrev pub Bytes : List ℕ → Type 0
Bytes [] = Unit {0}
Bytes (b ∷ bs) = (b < 256) × Bytes bs
