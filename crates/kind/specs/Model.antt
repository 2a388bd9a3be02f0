-- What a number kind is, and what each kind owes.
use Rattle.std.specs.Prelude.{◌≡◌, ◌^◌, Bool, ℤ, pos, Some, None, Option}
use Rattle.std.proofs.Common.{lit<}
use Rattle.exact.specs.Optional.{◌>>=◌}
use Rattle.exact.specs.Fraction.{Frac, ratio, whole, ◌+F◌, ◌*F◌, neg_F, inverse, ◌≈◌, ◌≤F◌, le_F, max_F, min_F}

-- the meaning of a kind whose marks are the values of K
pub record Model (K : Type 0) : Type 0 where
  -- the exact fraction of each mark
  pub value : K → Frac
  -- T, the greatest mark
  pub top : K
  -- the marks 0 and 1, and the negative of a mark
  pub nought : K
  pub unit : K
  pub opposite : K → K
  -- rounding in both directions
  pub below : Frac → Option K
  pub above : Frac → Option K

module _ {K : Type 0} (m : Model K) where
  -- from −T to T
  abbrev pub Inside : Frac → Type 0
  Inside x = (neg_F (m.value m.top) ≤F x) × (x ≤F m.value m.top)

  -- the greatest mark not above x, absent exactly outside −T to T
  abbrev pub Down : Frac → Option K → Type 0
  Down x None = Inside x → ⊥
  Down x (Some d) = Inside x × (m.value d ≤F x) × ((k : K) → m.value k ≤F x → m.value k ≤F m.value d)

  -- the least mark not below x, absent exactly outside −T to T
  abbrev pub Up : Frac → Option K → Type 0
  Up x None = Inside x → ⊥
  Up x (Some d) = Inside x × (x ≤F m.value d) × ((k : K) → x ≤F m.value k → m.value d ≤F m.value k)

-- what each kind owes
pub record Rules {K : Type 0} (m : Model K) : Type 0 where
  pub nought_is : m.value m.nought ≈ whole (pos 0)
  pub unit_is : m.value m.unit ≈ whole (pos 1)
  pub opposite_is : (a : K) → m.value (m.opposite a) ≈ neg_F (m.value a)
  pub distinct : (a b : K) → m.value a ≈ m.value b → a ≡ b
  pub greatest : (a : K) → m.value a ≤F m.value m.top
  pub bounded : m.value m.top ≤F whole (pos (2 ^ 40))
  pub down : (x : Frac) → Down m x (m.below x)
  pub up : (x : Frac) → Up m x (m.above x)

-- a count is n/65,536
abbrev pub count : ℤ → Frac
count n = ratio n 65536 (lit< tt)

-- what the functions of a kind answer
module _ {K : Type 0} (m : Model K) where
  abbrev pub at_most : K → K → Bool
  at_most a b = le_F (m.value a) (m.value b)

  abbrev pub sum_below : K → K → Option K
  sum_below a b = m.below (m.value a +F m.value b)

  abbrev pub sum_above : K → K → Option K
  sum_above a b = m.above (m.value a +F m.value b)

  abbrev pub product_below : K → K → Option K
  product_below a b = m.below (m.value a *F m.value b)

  abbrev pub product_above : K → K → Option K
  product_above a b = m.above (m.value a *F m.value b)

  -- the least and the greatest of a × c, a × d, b × c, b × d
  abbrev pub least_product : K → K → K → K → Frac
  least_product a b c d = min_F (min_F (m.value a *F m.value c) (m.value a *F m.value d)) (min_F (m.value b *F m.value c) (m.value b *F m.value d))

  abbrev pub greatest_product : K → K → K → K → Frac
  greatest_product a b c d = max_F (max_F (m.value a *F m.value c) (m.value a *F m.value d)) (max_F (m.value b *F m.value c) (m.value b *F m.value d))

  abbrev pub least_below : K → K → K → K → Option K
  least_below a b c d = m.below (least_product a b c d)

  abbrev pub greatest_above : K → K → K → K → Option K
  greatest_above a b c d = m.above (greatest_product a b c d)

  -- the least rounded down and the greatest rounded up
  abbrev pub product_ends : K → K → K → K → Option (K × K)
  product_ends a b c d = least_below a b c d >>= (λ l. greatest_above a b c d >>= (λ u. Some (l, u)))

  abbrev pub quotient_below : K → K → Option K
  quotient_below a b = inverse (m.value b) >>= (λ i. m.below (m.value a *F i))

  abbrev pub quotient_above : K → K → Option K
  quotient_above a b = inverse (m.value b) >>= (λ i. m.above (m.value a *F i))

  abbrev pub count_below : ℤ → Option K
  count_below n = m.below (count n)

  abbrev pub count_above : ℤ → Option K
  count_above n = m.above (count n)
