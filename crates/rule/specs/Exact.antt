-- Points of a box, and the exact values of lines at a point, from the lines alone.
use Rattle.std.specs.Prelude.{◌≡◌, ℕ, cond, List, [], ◌∷◌, ◌++◌, ℤ, Some, Option, ◌==◌}
use Rattle.std.specs.List.{slice_get}
use Rattle.boxes.specs.Boxes.{Box}
use Rattle.exact.specs.Fraction.{Frac, ◌*F◌, ◌+F◌, ◌-F◌, ◌≤F◌, inverse, max_F, min_F}
use Rattle.exact.specs.Optional.{◌>>=◌}
use Rattle.kind.specs.Model.{count}
use Rattle.line.specs.declared.line.Line.{Line}
use Rattle.line.specs.declared.line.Line.TheVariants.{Branch, Channel, Constant, Difference, Greater, Lesser, Magnitude, Product, Quotient, Square, Sum}
use Rattle.truth.specs.Curve.{branch_F, magnitude_F, square_F}

-- a point gives each channel a fraction
abbrev pub Point : Type 0
Point = ℕ → Frac

-- the point lies in the box
abbrev pub InBox : Box → Point → Type 0
InBox b p = (c : ℕ) (l u : ℤ) → slice_get b.lower c ≡ Some l → slice_get b.upper c ≡ Some u → (count l ≤F p c) × (p c ≤F count u)

-- its centre point: the same, with the swept channel at the centre
abbrev pub centred : Box → Point → Point
centred b p c = cond (c == b.swept) (count b.centre) (p c)

-- its distance: the swept value minus the centre
abbrev pub distance : Box → Point → Frac
distance b p = p b.swept -F count b.centre

-- ---- exact values; a line may have none
-- the value of an earlier line
abbrev pub earlier : List (Option Frac) → ℕ → Option Frac
earlier vs l = slice_get vs l >>= (λ v. v)

-- of two earlier lines
abbrev pub of_two : List (Option Frac) → ℕ → ℕ → (Frac → Frac → Option Frac) → Option Frac
of_two vs l r f = earlier vs l >>= (λ u. earlier vs r >>= f u)

-- the value of a line, by those of the lines before it
abbrev pub exact : Point → List (Option Frac) → Line → Option Frac
exact p vs (Channel c) = Some (p c)
exact p vs (Constant n) = Some (count n)
exact p vs (Sum l r) = of_two vs l r (λ u v. Some (u +F v))
exact p vs (Difference l r) = of_two vs l r (λ u v. Some (u -F v))
exact p vs (Product l r) = of_two vs l r (λ u v. Some (u *F v))
exact p vs (Quotient l r) = of_two vs l r (λ u v. inverse v >>= (λ i. Some (u *F i)))
exact p vs (Square l) = earlier vs l >>= (λ u. Some (square_F u))
exact p vs (Magnitude l) = earlier vs l >>= (λ u. Some (magnitude_F u))
exact p vs (Greater l r) = of_two vs l r (λ u v. Some (max_F u v))
exact p vs (Lesser l r) = of_two vs l r (λ u v. Some (min_F u v))
exact p vs (Branch s q r) = earlier vs s >>= (λ a. of_two vs q r (λ u v. Some (branch_F a u v)))

-- the values of lines, each by those before it
abbrev pub values_from : Point → List (Option Frac) → List Line → List (Option Frac)
values_from p vs [] = vs
values_from p vs (l ∷ ls) = values_from p (vs ++ exact p vs l ∷ []) ls

-- the exact value of a line of a list
abbrev pub value_of : Point → List Line → ℕ → Option Frac
value_of p ls i = earlier (values_from p [] ls) i
