-- Steps in turn.
use Rattle.std.proofs.Common.{◌≡◌, ℕ, Some, None, Ok, Err, Option, sym, refl, ap, subst, MatchResult}
use Rattle.exact.specs.Optional.{◌>>=◌}
use Rattle.fault.specs.declared.fault.Fault.{Fault}
use Rattle.slope.specs.Rules.{given}

module _ {X Y : Type 0} (place : ℕ) (f : X → Option Y) where
  -- a step that is there goes on
  pub given_on : (o : Option X) (x : X) → given place o ≡ Ok x → given place (o >>= f) ≡ given place (f x)
  given_on o x q = on o (subst (λ r. MatchResult r (λ z. z ≡ x) (λ _. ⊥)) (sym q) refl)
    where
      on : (o : Option X) → MatchResult (given place o) (λ z. z ≡ x) (λ _. ⊥) → given place (o >>= f) ≡ given place (f x)
      on None h = absurd h
      on (Some y) h = ap (λ z. given place (f z)) h

  -- a step that is absent ends
  pub given_out : (o : Option X) (e : Fault) → given place o ≡ Err e → given place (o >>= f) ≡ Err e
  given_out o e q = out o (subst (λ r. MatchResult r (λ _. ⊥) (λ y. y ≡ e)) (sym q) refl)
    where
      out : (o : Option X) → MatchResult (given place o) (λ _. ⊥) (λ y. y ≡ e) → given place (o >>= f) ≡ Err e
      out None h = ap Err h
      out (Some y) h = absurd h
