-- The narrowest span over a set of fractions.
use Rattle.std.specs.Prelude.{◌≡◌, Some, None, Option}
use Rattle.exact.specs.Fraction.{Frac, ◌≤F◌}
use Rattle.exact.specs.Interval.{Interval, In}
use Rattle.kind.specs.Model.{Model, Inside}
use Rattle.span.specs.declared.span.Span.{Span}

module _ {K : Type 0} (m : Model K) where
  -- the fractions from a span's lower to its upper end
  abbrev pub interval : Span K → Interval
  interval s = record { lo = m.value s.lower; hi = m.value s.upper }

  abbrev pub Held : Span K → Frac → Type 0
  Held s x = In x (interval s)

  abbrev pub Ordered : Span K → Type 0
  Ordered s = m.value s.lower ≤F m.value s.upper

  -- w lies in v
  pub record Within (w v : Span K) : Type 0 where
    pub low : m.value v.lower ≤F m.value w.lower
    pub high : m.value w.upper ≤F m.value v.upper

  -- w encloses the set S, all of which lies from −T to T, and lies in every span that encloses S
  pub record Fitting (S : Frac → Type 0) (w : Span K) : Type 0 where
    pub ordered : Ordered w
    pub inside : (x : Frac) → S x → Inside m x
    pub holds : (x : Frac) → S x → Held w x
    pub least : (v : Span K) → ((x : Frac) → S x → Held v x) → Within w v

  -- a member of S lies outside −T to T
  pub record Beyond (S : Frac → Type 0) : Type 0 where
    pub at : Frac
    pub member : S at
    pub outside : Inside m at → ⊥

  -- the narrowest span over S, absent exactly when a member lies outside −T to T
  abbrev pub Narrowest : (Frac → Type 0) → Option (Span K) → Type 0
  Narrowest S None = Beyond S
  Narrowest S (Some w) = Fitting S w

  -- a span that is there and lies in w
  pub record Inner (o : Option (Span K)) (w : Span K) : Type 0 where
    pub span : Span K
    pub there : o ≡ Some span
    pub within : Within span w
