-- The kind that a word names is the kind of the word.
use Rattle.std.proofs.Common.{◌≡◌, ℕ, List, Ok, Err, Result, refl}
use Rattle.std.specs.Option.{ok_or}
use Rattle.std.specs.Result.{result_ok}
use Rattle.script.specs.declared.call.KindName.{KindName}
use Rattle.script.specs.declared.call.KindName.TheVariants.{Fixed, Sliding}
use Rattle.script.specs.declared.slip.Problem.{Problem}
use Rattle.script.specs.declared.slip.Problem.TheVariants.{NoKind}
use Rattle.script.specs.declared.slip.Slip.{Slip}
use Rattle.script.specs.Calls.{kind_of}
use Rattle.script.specs.Kinds.{Named}
use Rattle.script.specs.Slips.{told}
use Rattle.script.proofs.Steps.{fault_is, not_word}

pub kind_told : (word : List ℕ) (parsed : Result KindName Problem) (slip : Slip) (r : Result KindName Slip) → Named word parsed → r ≡ ok_or (result_ok parsed) slip → slip.word.now ≡ word → slip.problem ≡ NoKind → told r ≡ kind_of word
kind_told word (Ok Fixed) slip r h e w p = rw (e, h) refl
kind_told word (Ok Sliding) slip r h e w p = rw (e, h) refl
kind_told word (Err x) slip r h e w p = rw (e, not_word _ _ h.1, not_word _ _ h.2, fault_is slip _ _ w p) refl
