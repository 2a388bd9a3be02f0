-- From a chain of steps that may be absent to the theorem of its rule.
use Rattle.std.proofs.Common.{◌≡◌, ℕ, Some, None, Ok, Option, Result, sym, refl, subst}
use Rattle.exact.specs.Fraction.{Frac, ◌≈◌}
use Rattle.exact.specs.Optional.{◌>>=◌}
use Rattle.fault.specs.declared.fault.Fault.{Fault}
use Rattle.kind.specs.Model.{Model}
use Rattle.span.proofs.Enclosing.{held-≈, ordered}
use Rattle.span.proofs.Nested.{within_held}
use Rattle.span.specs.Narrowest.{Held, Inner, Ordered}
use Rattle.span.specs.declared.span.Span.{Span}
use Rattle.truth.proofs.Slopes.{slope-≈}
use Rattle.truth.specs.Truth.{Slope}
use Rattle.slope.specs.Rules.{given, rec, three}
use Rattle.slope.specs.Truth.{Sloped?, Told, True}
use Rattle.slope.specs.declared.record.Record.{Record}
use Rattle.slope.specs.declared.record.Slopes.{Slopes}

-- what holds of an absent result and of all that the rest can make holds of the chain
pub step : {X Y : Type 0} (P : Option Y → Type 0) (o : Option X) (f : X → Option Y) → P None → ((x : X) → o ≡ Some x → P (f x)) → P (o >>= f)
step P None f n k = n
step P (Some x) f n k = k x refl

-- an answer that is there, or refused
pub by_given : {X : Type 0} (place : ℕ) (P : Result X Fault → Type 0) (o : Option X) → (o ≡ None → P (given place None)) → ((x : X) → o ≡ Some x → P (Ok x)) → P (given place o)
by_given place P None n k = n refl
by_given place P (Some x) n k = k x refl

module _ {K : Type 0} (m : Model K) where
  pub inner : (r : Record K) (h u u0 : Frac) → True m r h u u0 → Held m r.u u0
  inner r h u u0 t = within_held m r.u0 r.u t.nested u0 t.centre

  pub ordered_u : (r : Record K) (h u u0 : Frac) → True m r h u u0 → Ordered m r.u
  ordered_u r h u u0 t = ordered m r.u u t.here

  pub ordered_u0 : (r : Record K) (h u u0 : Frac) → True m r h u u0 → Ordered m r.u0
  ordered_u0 r h u u0 t = ordered m r.u0 u0 t.centre

  -- the slopes that a true record has
  pub sloped : (r : Record K) (h u u0 : Frac) → True m r h u u0 → (s : Slopes K) → r.slopes ≡ Some s → Sloped? m h u u0 (Some s)
  sloped r h u u0 t s e = subst (Sloped? m h u u0) e t.slopes

  -- slopes that hold their numbers
  pub slopes_of : (A B C : Span K) {h x y a b c : Frac} → Held m A a → Held m B b → Held m C c → Slope h x y a b c → Sloped? m h x y (three A B C)
  slopes_of A B C i j k s = record { a = _; b = _; c = _; a_in = i; b_in = j; c_in = k; slope = s }

  -- truth does not tell equal fractions apart
  sloped-≈ : (h u u0 v v0 : Frac) → u ≈ v → u0 ≈ v0 → (o : Option (Slopes K)) → Sloped? m h u u0 o → Sloped? m h v v0 o
  sloped-≈ h u u0 v v0 e e0 None t = tt
  sloped-≈ h u u0 v v0 e e0 (Some s) t = record { a = t.a; b = t.b; c = t.c; a_in = t.a_in; b_in = t.b_in; c_in = t.c_in; slope = slope-≈ e e0 t.slope }

  pub true-≈ : (r : Record K) (h u u0 v v0 : Frac) → u ≈ v → u0 ≈ v0 → True m r h u u0 → True m r h v v0
  true-≈ r h u u0 v v0 e e0 t = record { here = held-≈ m r.u e t.here; centre = held-≈ m r.u0 e0 t.centre; nested = t.nested; slopes = sloped-≈ h u u0 v v0 e e0 r.slopes t.slopes }

  -- a record of an operation on spans: U and U0 are its results, and U0 is there where U is
  module _ (place : ℕ) (U U0 : Option (Span K)) (slopes : Span K → Option (Slopes K)) (h x y : Frac)
      (within : (w : Span K) → U ≡ Some w → Inner m U0 w)
      (at : (w : Span K) → U ≡ Some w → Held m w x) (centre : (w : Span K) → U0 ≡ Some w → Held m w y)
      (ok : (w w0 : Span K) → U ≡ Some w → U0 ≡ Some w0 → Sloped? m h x y (slopes w0)) where
    made : (w : Span K) → U ≡ Some w → Told m U h x y (given place (U0 >>= (λ u0. Some (rec w u0 (slopes u0)))))
    made w e = let i = within w e in subst (λ o. Told m U h x y (given place (o >>= (λ u0. Some (rec w u0 (slopes u0)))))) (sym i.there)
        (record { here = at w e; centre = centre i.span i.there; nested = i.within; slopes = ok w i.span e i.there })

    pub told : Told m U h x y (given place (U >>= (λ u. U0 >>= (λ u0. Some (rec u u0 (slopes u0))))))
    told = go U refl
      where
        go : (o : Option (Span K)) → U ≡ o → Told m U h x y (given place (o >>= (λ u. U0 >>= (λ u0. Some (rec u u0 (slopes u0))))))
        go None e = e
        go (Some w) e = made w e
