-- The narrowest span over a set that has a least and a greatest member, once for all operations.
use Rattle.std.proofs.Common.{T, ◌⊎◌, Some, None, Option, inl, inr}
use Rattle.exact.proofs.Fractions.{≈_sym}
use Rattle.exact.proofs.Order.{by_le, le_of_lt, ≤F_of_≈, ≤F_refl, ≤F_trans}
use Rattle.exact.proofs.Signs.{0F}
use Rattle.exact.specs.Fraction.{Frac, ◌≤F◌}
use Rattle.kind.proofs.Orders.{mark_inside}
use Rattle.kind.specs.Model.{Down, Inside, Model, Rules, Up}
use Rattle.span.specs.Narrowest.{Fitting, Held, Narrowest, Ordered}
use Rattle.span.specs.Spans.{ends, greater_mark, hull, lesser_mark}
use Rattle.span.specs.declared.span.Span.{Span}

pub record Least (S : Frac → Type 0) (x : Frac) : Type 0 where
  pub member : S x
  pub low : (y : Frac) → S y → x ≤F y

pub record Greatest (S : Frac → Type 0) (x : Frac) : Type 0 where
  pub member : S x
  pub high : (y : Frac) → S y → y ≤F x

module _ {K : Type 0} (m : Model K) where
  pub lower_in : (s : Span K) → Ordered m s → Held m s (m.value s.lower)
  lower_in s h = record { low = ≤F_refl _; high = h }

  pub upper_in : (s : Span K) → Ordered m s → Held m s (m.value s.upper)
  upper_in s h = record { low = h; high = ≤F_refl _ }

  rounded : (S : Frac → Type 0) (lo hi : Frac) → Least S lo → Greatest S hi → (o p : Option K) → Down m lo o → Up m hi p → Narrowest m S (ends m o p)
  rounded S lo hi l g None p d u = record { at = lo; member = l.member; outside = d }
  rounded S lo hi l g (Some a) None d u = record { at = hi; member = g.member; outside = u }
  rounded S lo hi l g (Some a) (Some b) d u = record {
    ordered = ≤F_trans d.1 (≤F_trans (l.low hi g.member) u.1);
    inside = λ x s. (≤F_trans d.0.0 (l.low x s), ≤F_trans (g.high x s) u.0.1);
    holds = λ x s. record { low = ≤F_trans d.1 (l.low x s); high = ≤F_trans (g.high x s) u.1 };
    least = λ v h. record { low = d.2 v.lower (h lo l.member).low; high = u.2 v.upper (h hi g.member).high };
  }

  -- a least member rounded down and a greatest rounded up
  pub enclose : Rules m → (S : Frac → Type 0) (lo hi : Frac) → Least S lo → Greatest S hi → Narrowest m S (ends m (m.below lo) (m.above hi))
  enclose rules S lo hi l g = rounded S lo hi l g (m.below lo) (m.above hi) (rules.down lo) (rules.up hi)

  -- members of S lie between members of S', which are members of S
  pub record Spanned (S S' : Frac → Type 0) : Type 0 where
    pub into : (x : Frac) → S' x → S x
    pub floor : (x : Frac) → S x → (y : Frac) × (S' y × (y ≤F x))
    pub ceiling : (x : Frac) → S x → (y : Frac) × (S' y × (x ≤F y))

  pub widen : (S S' : Frac → Type 0) → Spanned S S' → (r : Option (Span K)) → Narrowest m S' r → Narrowest m S r
  widen S S' e None n = record { at = n.at; member = e.into _ n.member; outside = n.outside }
  widen S S' e (Some w) n = record {
    ordered = n.ordered;
    inside = λ x s. let p = e.floor x s in let q = e.ceiling x s in (≤F_trans (n.inside _ p.1.0).0 p.1.1, ≤F_trans q.1.1 (n.inside _ q.1.0).1);
    holds = λ x s. let p = e.floor x s in let q = e.ceiling x s in record { low = ≤F_trans (n.holds _ p.1.0).low p.1.1; high = ≤F_trans q.1.1 (n.holds _ q.1.0).high };
    least = λ v h. n.least v (λ x s. h x (e.into x s));
  }

  -- two sets with the same members
  pub same : (S S' : Frac → Type 0) → ((x : Frac) → S' x → S x) → ((x : Frac) → S x → S' x) → (r : Option (Span K)) → Narrowest m S' r → Narrowest m S r
  same S S' f g r n = widen S S' (record { into = f; floor = λ x s. (x, (g x s, ≤F_refl x)); ceiling = λ x s. (x, (g x s, ≤F_refl x)) }) r n

  pub lesser_left : (a b : K) → m.value (lesser_mark m a b) ≤F m.value a
  lesser_left a b = by_le _ _ (λ k. m.value k ≤F m.value a) a b (λ h. ≤F_refl _) (λ h. le_of_lt h)

  pub lesser_right : (a b : K) → m.value (lesser_mark m a b) ≤F m.value b
  lesser_right a b = by_le _ _ (λ k. m.value k ≤F m.value b) a b (λ h. h) (λ h. ≤F_refl _)

  pub lesser_ind : (a b : K) (P : K → Type 0) → P a → P b → P (lesser_mark m a b)
  lesser_ind a b P p q = by_le _ _ P a b (λ h. p) (λ h. q)

  pub greater_left : (a b : K) → m.value a ≤F m.value (greater_mark m a b)
  greater_left a b = by_le _ _ (λ k. m.value a ≤F m.value k) b a (λ h. h) (λ h. ≤F_refl _)

  pub greater_right : (a b : K) → m.value b ≤F m.value (greater_mark m a b)
  greater_right a b = by_le _ _ (λ k. m.value b ≤F m.value k) b a (λ h. ≤F_refl _) (λ h. le_of_lt h)

  pub greater_ind : (a b : K) (P : K → Type 0) → P a → P b → P (greater_mark m a b)
  greater_ind a b P p q = by_le _ _ P b a (λ h. q) (λ h. p)

  abbrev pub Union : (S T : Frac → Type 0) → Frac → Type 0
  Union S T x = S x ⊎ T x

  -- the hull of two narrowest spans is the narrowest over both sets
  pub hull_fits : (S T : Frac → Type 0) (s t : Span K) → Fitting m S s → Fitting m T t → Fitting m (Union S T) (hull m s t)
  hull_fits S T s t f g = record {
    ordered = ≤F_trans (lesser_left s.lower t.lower) (≤F_trans f.ordered (greater_left s.upper t.upper));
    inside = ins;
    holds = hol;
    least = λ v h. record {
      low = lesser_ind s.lower t.lower (λ k. m.value v.lower ≤F m.value k) (f.least v (λ x p. h x (inl p))).low (g.least v (λ x p. h x (inr p))).low;
      high = greater_ind s.upper t.upper (λ k. m.value k ≤F m.value v.upper) (f.least v (λ x p. h x (inl p))).high (g.least v (λ x p. h x (inr p))).high;
    };
  }
    where
      ins : (x : Frac) → Union S T x → Inside m x
      ins x (inl p) = f.inside x p
      ins x (inr p) = g.inside x p

      hol : (x : Frac) → Union S T x → Held m (hull m s t) x
      hol x (inl p) = record { low = ≤F_trans (lesser_left _ _) (f.holds x p).low; high = ≤F_trans (f.holds x p).high (greater_left _ _) }
      hol x (inr p) = record { low = ≤F_trans (lesser_right _ _) (g.holds x p).low; high = ≤F_trans (g.holds x p).high (greater_right _ _) }

  -- marks that are the least and the greatest member need no rounding
  pub exact_fits : Rules m → (S : Frac → Type 0) (w : Span K) → Least S (m.value w.lower) → Greatest S (m.value w.upper) → Fitting m S w
  exact_fits rules S w l g = record {
    ordered = l.low _ g.member;
    inside = λ x s. (≤F_trans (mark_inside m rules w.lower).0 (l.low x s), ≤F_trans (g.high x s) (mark_inside m rules w.upper).1);
    holds = λ x s. record { low = l.low x s; high = g.high x s };
    least = λ v h. record { low = (h _ l.member).low; high = (h _ g.member).high };
  }

  -- the sign of a mark, as the code tests it
  pub 0≤ : Rules m → {a : K} → m.value m.nought ≤F m.value a → 0F ≤F m.value a
  0≤ rules h = ≤F_trans (≤F_of_≈ (≈_sym rules.nought_is)) h

  pub ≤0 : Rules m → {a : K} → m.value a ≤F m.value m.nought → m.value a ≤F 0F
  ≤0 rules h = ≤F_trans h (≤F_of_≈ rules.nought_is)
