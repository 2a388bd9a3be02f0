-- What each operation on spans is: the narrowest span over all its exact results.
use Rattle.std.specs.Prelude.{◌≡◌, ◌⊎◌, ℤ, pos, None, Option}
use Rattle.exact.specs.Fraction.{Frac, whole, ◌+F◌, ◌-F◌, ◌*F◌, neg_F, ◌≈◌, ◌≤F◌, max_F}
use Rattle.kind.specs.Model.{Model, count}
use Rattle.span.specs.declared.span.Span.{Span}
use Rattle.span.specs.Narrowest.{Held, Ordered, Fitting, Narrowest}

module _ {K : Type 0} (m : Model K) where
  -- ---- the sets of exact results
  -- the x that R ties to a member of s and a member of t
  pub record Two (R : Frac → Frac → Frac → Type 0) (s t : Span K) (x : Frac) : Type 0 where
    pub left : Frac
    pub right : Frac
    pub in_left : Held m s left
    pub in_right : Held m t right
    pub is : R left right x

  pub record One (R : Frac → Frac → Type 0) (s : Span K) (x : Frac) : Type 0 where
    pub from : Frac
    pub in_from : Held m s from
    pub is : R from x

  abbrev pub Sums : Span K → Span K → Frac → Type 0
  Sums = Two (λ a b x. x ≈ (a +F b))

  abbrev pub Differences : Span K → Span K → Frac → Type 0
  Differences = Two (λ a b x. x ≈ (a -F b))

  abbrev pub Products : Span K → Span K → Frac → Type 0
  Products = Two (λ a b x. x ≈ (a *F b))

  abbrev pub Quotients : Span K → Span K → Frac → Type 0
  Quotients = Two (λ a b x. (x *F b) ≈ a)

  abbrev pub Squares : Span K → Frac → Type 0
  Squares = One (λ a x. x ≈ (a *F a))

  abbrev pub Magnitudes : Span K → Frac → Type 0
  Magnitudes = One (λ a x. x ≈ max_F a (neg_F a))

  abbrev pub Either : Span K → Span K → Frac → Type 0
  Either s t x = Held m s x ⊎ Held m t x

  abbrev pub Counts : ℤ → ℤ → Frac → Type 0
  Counts lower upper x = (count lower ≤F x) × (x ≤F count upper)

  -- ---- the laws, of ordered spans
  abbrev pub SumLaw : Span K → Span K → Option (Span K) → Type 0
  SumLaw s t r = Ordered m s → Ordered m t → Narrowest m (Sums s t) r

  abbrev pub DifferenceLaw : Span K → Span K → Option (Span K) → Type 0
  DifferenceLaw s t r = Ordered m s → Ordered m t → Narrowest m (Differences s t) r

  abbrev pub ProductLaw : Span K → Span K → Option (Span K) → Type 0
  ProductLaw s t r = Ordered m s → Ordered m t → Narrowest m (Products s t) r

  abbrev pub SquareLaw : Span K → Option (Span K) → Type 0
  SquareLaw s r = Ordered m s → Narrowest m (Squares s) r

  abbrev pub MagnitudeLaw : Span K → Span K → Type 0
  MagnitudeLaw s r = Ordered m s → Fitting m (Magnitudes s) r

  abbrev pub HullLaw : Span K → Span K → Span K → Type 0
  HullLaw s t r = Ordered m s → Ordered m t → Fitting m (Either s t) r

  abbrev pub CountsLaw : ℤ → ℤ → Option (Span K) → Type 0
  CountsLaw lower upper r = count lower ≤F count upper → Narrowest m (Counts lower upper) r

  -- absent where the divisor holds 0, an end included; otherwise the narrowest
  pub record By (s t : Span K) (r : Option (Span K)) : Type 0 where
    pub zero : Held m t (whole (pos 0)) → r ≡ None
    pub other : (Held m t (whole (pos 0)) → ⊥) → Narrowest m (Quotients s t) r

  abbrev pub QuotientLaw : Span K → Span K → Option (Span K) → Type 0
  QuotientLaw s t r = Ordered m s → Ordered m t → By s t r

  -- exactly what lies in both
  pub record MeetLaw (s t r : Span K) : Type 0 where
    pub into : (x : Frac) → Held m s x → Held m t x → Held m r x
    pub out : (x : Frac) → Held m r x → Held m s x × Held m t x
