-- What follows from the rules alone, for any kind: rounding is unique and keeps the order.
use Rattle.std.specs.Prelude.{◌≡◌, Some, Option}
use Rattle.exact.specs.Fraction.{Frac, ◌≤F◌}
use Rattle.kind.specs.Model.{Model, Down, Up}

pub record Orderly {K : Type 0} (m : Model K) : Type 0 where
  -- whatever is the greatest mark not above x is `below x`, and so for `above`
  pub one_below : (x : Frac) (a : Option K) → Down m x a → a ≡ m.below x
  pub one_above : (x : Frac) (a : Option K) → Up m x a → a ≡ m.above x
  pub below_rises : (x y : Frac) (a b : K) → x ≤F y → m.below x ≡ Some a → m.below y ≡ Some b → m.value a ≤F m.value b
  pub above_rises : (x y : Frac) (a b : K) → x ≤F y → m.above x ≡ Some a → m.above y ≡ Some b → m.value a ≤F m.value b
