-- Groups joined from the last to the first.
use Rattle.std.proofs.Common.{◌≡◌, ℕ, ◌+◌, ◌*◌, ◌%◌, ◌^◌, ◌<◌, ◌≤◌, bit_and, bit_or, List, [], ◌∷◌, length, reverse, fold, refl, ap, ◌∙◌, arith, mod-eq_of_lt, pow_mono, pow-add}
use Rattle.std.proofs.lemmas.Nat.{and_mask, or_shifted}
use Rattle.std.proofs.lemmas.List.{reverse-append}
use Rattle.std.proofs.lemmas.List.Sums.{fold-append}
use Rattle.leb.specs.Groups.{joined}

-- one group more, below those joined so far
abbrev pub step : ℕ → ℕ → ℕ
step v b = bit_or ((v * 2 ^ 7) % 2 ^ 64) (bit_and b 127)

pub joined_below : (bs : List ℕ) → joined bs < 2 ^ (7 * length bs)
joined_below [] = omega arith
joined_below (b ∷ bs) =
    let ih = joined_below bs in
    let p : 2 ^ (7 * length bs + 7) ≡ 2 ^ (7 * length bs) * 128 = pow-add 2 (7 * length bs) 7 in
    let e : 7 * length (b ∷ bs) ≡ 7 * length bs + 7 = omega arith in
    rw (e, p) (omega arith)

step_is : (v b : ℕ) → v < 2 ^ 57 → step v b ≡ b % 128 + 128 * v
step_is v b h =
    let fits : v * 2 ^ 7 < 2 ^ 64 = omega arith in
    let low = and_mask b 7 in
    rw (mod-eq_of_lt fits, low, or_shifted v 7 (b % 128) (omega arith)) (omega arith)

pub folded : (bs : List ℕ) → length bs ≤ 5 → fold step 0 (reverse bs) ≡ joined bs
folded [] h = refl
folded (b ∷ bs) h =
    let ih = folded bs (omega arith) in
    let m = pow_mono {i = 7 * length bs} {j = 28} (omega arith) in
    ap (fold step 0) (reverse-append (b ∷ []) bs) ∙ fold-append step 0 (reverse bs) (b ∷ []) ∙ ap (λ v. step v b) ih ∙ step_is (joined bs) b (omega (arith, m, joined_below bs))
