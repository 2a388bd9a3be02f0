-- What the record of a constant comes to, case by case.
use Rattle.std.proofs.Common.{◌≡◌, ℕ, Bool, true, false, cond, ℤ, Ok, Err, Result, sym, ap}
use Rattle.boxes.specs.Boxes.{counted, is_count}
use Rattle.fault.proofs.Steps.{err_is, err_ok, ok_is}
use Rattle.fault.specs.Refusals.{refused}
use Rattle.fault.specs.declared.fault.Cause.TheVariants.{Number}
use Rattle.fault.specs.declared.fault.Fault.{Fault}
use Rattle.kind.specs.Model.{Model}
use Rattle.rule.specs.Rule.{constant, still_range}

module _ {K : Type 0} (m : Model K) (k : ℤ) (place : ℕ) where
  pub constant_on : {x : ℤ} → Ok x ≡ counted k place → constant m k place ≡ still_range m x x place
  constant_on {x} e = go (is_count k) e
    where
      go : (b : Bool) → Ok x ≡ cond b (Ok k) (refused Number place) → cond b (still_range m k k place) (refused Number place) ≡ still_range m x x place
      go true q = ap (λ z. still_range m z z place) (sym (ok_is q))
      go false q = absurd (err_ok (sym q))

  pub constant_out : {e : Fault} → Err e ≡ counted k place → Err e ≡ constant m k place
  constant_out {e} h = go (is_count k) h
    where
      go : (b : Bool) → ◌≡◌ {A = Result ℤ Fault} (Err e) (cond b (Ok k) (refused Number place)) → Err e ≡ cond b (still_range m k k place) (refused Number place)
      go true q = absurd (err_ok q)
      go false q = ap Err (err_is q)
