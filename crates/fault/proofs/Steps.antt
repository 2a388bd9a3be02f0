-- What an answer tells of its steps.
use Rattle.std.proofs.Common.{◌≡◌, ℕ, Some, None, Ok, Err, Option, Result, refl, arith}
use Rattle.fault.specs.Refusals.{after, found}
use Rattle.fault.specs.declared.fault.Cause.{Cause}
use Rattle.fault.specs.declared.fault.Fault.{Fault}

module _ {X E : Type 0} where
  pub ok_is : {x y : X} → ◌≡◌ {A = Result X E} (Ok x) (Ok y) → x ≡ y
  ok_is e = cc

  pub err_is : {x y : E} → ◌≡◌ {A = Result X E} (Err x) (Err y) → x ≡ y
  err_is e = cc

  pub err_ok : {e : E} {x : X} → ◌≡◌ {A = Result X E} (Err e) (Ok x) → ⊥
  err_ok q = let n : ◌≡◌ {A = ℕ} 0 1 = cc in omega arith

pub some_is : {X : Type 0} {x y : X} → ◌≡◌ {A = Option X} (Some x) (Some y) → x ≡ y
some_is e = cc

pub none_some : {X : Type 0} {x : X} → ◌≡◌ {A = Option X} None (Some x) → ⊥
none_some q = let n : ◌≡◌ {A = ℕ} 0 1 = cc in omega arith

-- steps that went on to an answer
pub after_ok : {X Y : Type 0} (P : Type 0) (x : Result X Fault) (f : X → Result Y Fault) (y : Y) → after x f ≡ Ok y → ((z : X) → x ≡ Ok z → f z ≡ Ok y → P) → P
after_ok P (Ok z) f y e k = k z refl e
after_ok P (Err d) f y e k = absurd (err_ok e)

pub found_ok : {X : Type 0} (cause : Cause) (place : ℕ) (o : Option X) (x : X) → found cause place o ≡ Ok x → o ≡ Some x
found_ok cause place None x e = absurd (err_ok e)
found_ok cause place (Some y) x e = cc
