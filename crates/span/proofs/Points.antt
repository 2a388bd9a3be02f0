-- The span [k]: what is found to be it is it, and it may stand on either side of a product.
use Rattle.std.proofs.Common.{◌≡◌, Bool, true, false, cond, Some, None, Option, refl, ap₂, ◌∙◌}
use Rattle.std.proofs.lemmas.Bool.{and_parts}
use Rattle.exact.proofs.Order.{le_F_yes, ≤F_antisym}
use Rattle.kind.specs.Model.{Model, Rules}
use Rattle.span.proofs.Least.{product_turned}
use Rattle.span.specs.Spans.{point, product, sole, span}
use Rattle.span.specs.declared.span.Span.{Span}

-- what is there under a test passed it
tested : {X : Type 0} (b : Bool) (x y : X) → cond b (Some x) None ≡ Some y → (b ≡ true) × (x ≡ y)
tested true x y e = (refl, (cc))
tested false x y e = (cc)

module _ {K : Type 0} (m : Model K) (rules : Rules m) where
  pub sole_is : (s : Span K) (k : K) → sole m s ≡ Some k → s ≡ point m k
  sole_is s k e =
      let p = tested _ s.lower k e in
      let q = and_parts _ _ p.0 in
      let h = rules.distinct _ _ (≤F_antisym (le_F_yes _ _ q.0) (le_F_yes _ _ q.1)) in
      ap₂ (λ a b. span m a b) p.1 (h ∙ p.1)

  -- the product with [k] on the one side is that on the other
  pub scaled_left : (s : Span K) (k : K) (r : Option (Span K)) → r ≡ product m s (point m k) → r ≡ product m (point m k) s
  scaled_left s k r e = e ∙ product_turned m rules s (point m k)
