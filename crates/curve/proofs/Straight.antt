-- What is computed without what [0] adds is the lifting rule.
use Rattle.std.proofs.Common.{◌≡◌, Bool, true, false, cond, Some, None, Option, refl, sym, ◌∙◌}
use Rattle.exact.specs.Optional.{◌>>=◌}
use Rattle.kind.specs.Model.{Model, Rules}
use Rattle.curve.specs.Straight.{bent, scaled}
use Rattle.slope.specs.Curves.{lift_slopes}
use Rattle.slope.specs.Rules.{three}
use Rattle.slope.specs.declared.record.Shape.{Shape}
use Rattle.slope.specs.declared.record.Slopes.{Slopes}
use Rattle.span.proofs.Points.{sole_is}
use Rattle.span.proofs.Zero.{is_zero_is, product_zero, sum_zero, zero_product, zero_sum}
use Rattle.span.specs.declared.span.Span.{Span}
use Rattle.span.specs.Spans as spans

-- chains that go on alike are alike
alike : {X Y : Type 0} (o : Option X) (f g : X → Option Y) → ((x : X) → f x ≡ g x) → (o >>= f) ≡ (o >>= g)
alike None f g e = refl
alike (Some x) f g e = e x

absent : {X Y : Type 0} (o : Option X) → ◌>>=◌ {Y = Y} o (λ x. None) ≡ None
absent None = refl
absent (Some x) = refl

-- two steps may change places
exchanged : {X Y Z : Type 0} (o : Option X) (p : Option Y) (f : X → Y → Option Z) →
    (o >>= (λ x. p >>= (λ y. f x y))) ≡ (p >>= (λ y. o >>= (λ x. f x y)))
exchanged None p f = sym (absent p)
exchanged (Some x) p f = refl

-- a test, with what each outcome tells
by_test : {X : Type 0} (b : Bool) (x y z : X) → (b ≡ true → x ≡ z) → (b ≡ false → y ≡ z) → cond b x y ≡ z
by_test true x y z t e = t refl
by_test false x y z t e = e refl

module _ {K : Type 0} (m : Model K) (rules : Rules m) (f : Shape K) (s : Slopes K) where
  -- the rest of the rule
  abbrev with_third : Span K → Span K → Span K → Option (Slopes K)
  with_third a b d = spans.product m f.g s.c >>= (λ c1. spans.sum m c1 d >>= (λ c. three a b c))

  -- where Cu = [0], G × Cu adds nothing
  nothing_added : (a b d : Span K) → cond (spans.is_zero m s.c) (three a b d) (with_third a b d) ≡ with_third a b d
  nothing_added a b d = by_test _ _ _ _ (λ h. rw (is_zero_is m rules s.c h, product_zero m rules f.g, zero_sum m rules d)) (λ h. refl)

  pub bent_is : bent m f s ≡ lift_slopes m f (Some s)
  bent_is =
      alike (spans.product m f.g s.a) _ _ (λ a. alike (spans.product m f.e s.b) _ _ (λ b.
      alike (spans.product m f.k s.a) _ _ (λ c2.
      alike (spans.product m c2 s.b) _ _ (nothing_added a b) ∙ exchanged (spans.product m c2 s.b) (spans.product m f.g s.c) _)
      ∙ exchanged (spans.product m f.k s.a) (spans.product m f.g s.c) _))

module _ {K : Type 0} (m : Model K) (rules : Rules m) (f : Shape K) (s : Slopes K) (g e : K) where
  -- K × Au × Bu is [0] and adds nothing
  pub scaled_is : spans.is_zero m f.k ≡ true → spans.sole m f.g ≡ Some g → spans.sole m f.e ≡ Some e →
      scaled m g e s ≡ lift_slopes m f (Some s)
  scaled_is hk hg he = rw (is_zero_is m rules f.k hk, sole_is m rules f.g g hg, sole_is m rules f.e e he)
      (simp (zero_product m rules, sum_zero m rules))
