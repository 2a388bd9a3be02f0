use Rattle.std.proofs.Common.{◌^◌, ◌≤◌, ℤ, pos, negsuc, nat_abs, T, subst, sym, le→leb, lt→ltb, w64, arith}
use borrow.Author.Differences.{ints}
use lib.Ieee.{binary64, in_float}
use Rattle.std.specs.Int.{int_div_euclid}
use Rattle.sliding.proofs.Scales.{plain_shr}
use Rattle.sliding.proofs.ratio.Ratio.guess.Goals as goal

-- without its last 9 bits a float holds it
held_by_float : (n : ℤ) → nat_abs n ≤ 2 ^ 62 → T (in_float binary64 (int_div_euclid n (pos 512)))
unfolding in_float
held_by_float (pos a) b = le→leb _ _ (omega arith)
held_by_float (negsuc a) b = lt→ltb _ _ (omega arith)

pub int_to_float-n : goal.int_to_float-n
int_to_float-n c = let b = c.args.self.held.bound in
    subst (λ (z : ℤ). T (in_float binary64 z)) (sym (plain_shr w64 c.args.self.n 9 (omega (arith, ints)))) (held_by_float c.args.self.n b)
