use Rattle.std.proofs.Common.{◌≡◌, ◌∙◌, ◌*◌, ◌≤◌, ℤ, pos, ◌-ℤ◌, ◌*ℤ◌, nat_abs, refl, ap₂, to_z, of_z, w64, arith}
use borrow.Author.Differences.{ints}
use lib.Signed.{lt_z}
use mir.Val.{bool_byte}
use Rattle.std.proofs.lemmas.Int.{to_z-of_z, wrapping_sub_is}
use Rattle.std.specs.Int.{int_wrap, int_wrapping_sub}
use Rattle.kind.proofs.Plain.{product_bound}
use Rattle.sliding.proofs.Guesses.{at_most_one, floor_at, unwrapped}
use Rattle.sliding.proofs.ratio.Ratio.floor.Goals as goal
use Rattle.sliding.proofs.ratio.Ratio.floor.Goals.{After-from}

module _ (c : After-from) where
  abbrev q : ℤ
  q = c.guess-guess.result

  abbrev r : ℤ
  r = c.args.self.n -ℤ q *ℤ pos c.args.self.d

  abbrev p : ℤ
  p = q *ℤ pos c.args.self.d

  product : nat_abs p ≤ 549755813888 * 16777215
  product = let e = c.from-d.ensures in let t = c.if-d-lt16777216.true in
      product_bound q (pos c.args.self.d) 549755813888 16777215 c.guess-guess.ensures (omega (arith, ints))

  guess : to_z w64 (of_z w64 q) ≡ q
  guess = omega (arith, ints)

  by : to_z w64 (of_z w64 c.from-d.result) ≡ pos c.args.self.d
  by = let e = c.from-d.ensures in omega (arith, ints)

  difference : int_wrapping_sub w64 c.args.self.n p ≡ int_wrap w64 r
  difference = let b = c.args.self.held.bound in let k = product in
      wrapping_sub_is w64 c.args.self.n p (omega (arith, ints)) (omega (arith, ints))

  small : nat_abs (int_wrap w64 r) ≤ 16777216
  small = let low = rw (guess, by, difference) at c.if-d-rest.true in let high = rw (guess, by, difference) at c.if-rest-d.true in
      let e = c.from-d.ensures in let t = c.if-d-lt16777216.true in omega (arith, ints)

  rest : int_wrapping_sub w64 c.args.self.n p ≡ r
  rest = difference ∙ unwrapped r (let b = c.args.self.held.bound in let k = product in omega (arith, ints)) small

  one : c.from.result ≡ pos (bool_byte (lt_z r (pos 0)))
  one = rw (guess, by, rest) at c.from.ensures

  plain : to_z w64 (of_z w64 c.from.result) ≡ c.from.result
  plain = let o = at_most_one r c.from.result one in omega (arith, ints)

pub overflow_sub-result : goal.overflow_sub-result
overflow_sub-result c = let b = c.guess-guess.ensures in let o = at_most_one (r c) c.from.result (one c) in omega (arith, ints)

pub returns-then-rest-d : goal.returns-then-rest-d
returns-then-rest-d c =
    let low = rw (guess c, by c, rest c) at c.if-d-rest.true in
    let high = rw (guess c, by c, rest c) at c.if-rest-d.true in
    to_z-of_z w64 _ (overflow_sub-result c) ∙ ap₂ ◌-ℤ◌ (guess c) (plain c)
    ∙ floor_at c.args.self.n (q c) (r c) c.from.result c.args.self.d c.args.self.held.positive refl
    (omega (arith, ints)) (omega (arith, ints)) (one c)
