-- The groups of one number: what they join to, and whether that is a number.
use Rattle.std.specs.Prelude.{◌≡◌, ℕ, ◌+◌, ◌*◌, ◌-◌, ◌%◌, ◌<◌, ◌≤◌, ◌⊎◌, List, [], ◌∷◌, length, slice_index, Some, None, Option}

-- what groups join to, low group first
abbrev pub joined : List ℕ → ℕ
joined [] = 0
joined (b ∷ bs) = b % 128 + 128 * joined bs

-- the last of some groups
abbrev pub last : List ℕ → ℕ
last bs = slice_index bs (length bs - 1)

-- the number of all groups; absent if there are too many of them, it is too large, or its last group is a 0 that is not its only one
abbrev pub Judged : List ℕ → Option ℕ → Type 0
Judged bs None = (5 < length bs) ⊎ ((2147483647 < joined bs) ⊎ ((1 < length bs) × (last bs ≡ 0)))
Judged bs (Some n) = (n ≡ joined bs) × (length bs ≤ 5) × (n ≤ 2147483647) × (1 < length bs → 0 < last bs)
