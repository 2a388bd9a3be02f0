use Rattle.std.proofs.Common.{◌≡◌, ◌∙◌, ◌^◌, ◌<◌, ℤ, pos, ◌-ℤ◌, ◌*ℤ◌, ◌≤ℤ◌, ◌<ℤ◌, neg_ℤ, nat_abs, to_z, of_z, w64, arith}
use borrow.Author.Differences.{ints}
use lib.Signed.{shr_z}
use Rattle.kind.proofs.Plain.{product_bound}
use Rattle.fixed.proofs.Ratios.{Sign, fixed_some, floor_near, near_high, plain_sum, sign_shifted, sum_count}
use Rattle.fixed.proofs.ratio.Ratio.below.Goals as goal
use Rattle.fixed.proofs.ratio.Ratio.below.Goals.{Then-rest-d}

-- the rest, as the code computes it, is exact
abbrev rest : Then-rest-d → ℤ
rest c = to_z w64 (of_z w64 (to_z w64 (of_z w64 (to_z w64 (of_z w64 c.from-n.result) *ℤ pos 65536))
    -ℤ to_z w64 (of_z w64 (to_z w64 (of_z w64 c.guess-guess.result) *ℤ to_z w64 (of_z w64 c.from-d.result)))))

exact : (c : Then-rest-d) → rest c ≡ (c.args.self.n *ℤ pos 65536) -ℤ c.guess-guess.result *ℤ pos c.args.self.d
exact c =
    let q : to_z w64 (of_z w64 c.guess-guess.result) ≡ c.guess-guess.result = omega (arith, ints) in
    let d : to_z w64 (of_z w64 c.from-d.result) ≡ pos c.args.self.d = omega (arith, ints) in
    let k = product_bound c.guess-guess.result (pos c.args.self.d) (2 ^ 30) (2 ^ 32) (omega arith) (omega arith) in
    rw (q, d) (omega (arith, ints))

rest_low : (c : Then-rest-d) → neg_ℤ (pos c.args.self.d) ≤ℤ rest c
rest_low c = omega (arith, ints)

rest_high : (c : Then-rest-d) → rest c <ℤ pos c.args.self.d
rest_high c = omega (arith, ints)

size : (c : Then-rest-d) → nat_abs c.guess-guess.result < 1073741823
size c = omega (arith, ints)

sign : (c : Then-rest-d) → Sign (shr_z (rest c) (2 ^ 63))
sign c = sign_shifted (rest c) c.args.self.d (omega arith) (rest_low c) (rest_high c)

pub overflow_add-result : goal.overflow_add-result
overflow_add-result c = let s = sign c in omega (arith, ints)

pub overflow_cast-result : goal.overflow_cast-result
overflow_cast-result c = let s = sign c in omega (arith, ints)

pub invariant_of-result : goal.invariant_of-result
invariant_of-result c =
    let e = plain_sum c.guess-guess.result (shr_z (rest c) (2 ^ 63)) (size c) (sign c) in
    record { fits = rw e (sum_count _ _ (size c) (sign c)) }

pub returns-then-rest-d : goal.returns-then-rest-d
returns-then-rest-d c =
    let at = (goal.at.returns-then-rest-d c).Then-rest-d in
    let n = c.args.self.n *ℤ pos 65536 in
    let d = c.args.self.d in
    let low = rest_low at in
    let high = rest_high at in
    let floor = floor_near n c.guess-guess.result (rest at) d c.args.self.positive (omega arith) (exact at) low high in
    let g = size at in
    let e = plain_sum c.guess-guess.result (shr_z (rest at) (2 ^ 63)) g (sign at) in
    fixed_some n d c.args.self.positive _ (e ∙ floor) (near_high n _ _ d (omega (arith, ints)) (exact at) high)
