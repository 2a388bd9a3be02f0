use Rattle.std.proofs.Common.{refl, ap, ◌<◌, to_z, of_z, w64, nat_abs, arith}
use Rattle.std.specs.Int.{FitsUnsignedBits}
use Rattle.script.proofs.Numbers.{beyond_told, within_told}
use Rattle.script.specs.Words.{place}
use Rattle.script.proofs.parse.within.Goals.{in_default-via-in-Ok+else-n-limit, in_default-via-in_default}
use Rattle.script.proofs.Steps.{handed}
use Rattle.script.specs.Calls.{within_at}
use Rattle.script.proofs.parse.within.Goals as goal

pub returns-in_err-word : goal.returns-in_err-word
unfolding within_at
returns-in_err-word c = rw (handed _ _ c.from_residual.ensures.1, ← c.in_err-word.ensures) refl

pub returns-in_err-number_of : goal.returns-in_err-number_of
unfolding within_at
returns-in_err-number_of c = rw (handed _ _ c.from_residual-in_err-number_of.ensures.1, ← c.in_ok-word.ensures, ← c.in_err-number_of.ensures) refl

pub returns-in-Ok : goal.returns-in-Ok
unfolding within_at
returns-in-Ok c =
    rw (← c.in_ok-word.ensures, ← c.in_ok-number_of.ensures)
    (ap (λ a. record { answer = a; at = place c.word.new.self }) (within_told _ _ _ _ c.in_ok-number_of.ensures c.in-Ok.ensures c.if-n-limit.true))

pub returns-in_default : goal.returns-in_default
unfolding within_at
returns-in_default c =
    let out : FitsUnsignedBits 64 (to_z w64 (of_z w64 c.in_ok-number_of.field-0)) → c.args.limit < nat_abs (to_z w64 (of_z w64 c.in_ok-number_of.field-0)) =
    elim c.in_default.branch [ in_default-via-in-Ok+else-n-limit w ↦ λ _. let e = w.in-Ok.ensures.1 in omega arith | in_default-via-in_default w ↦ λ f. absurd (w.in_default.ensures f) ] in
    rw (← c.in_ok-word.ensures, ← c.in_ok-number_of.ensures)
    (ap (λ a. record { answer = a; at = place c.word.new.self }) (beyond_told _ _ _ c.of.result c.in_ok-number_of.ensures out c.of.ensures.word c.of.ensures.problem))
