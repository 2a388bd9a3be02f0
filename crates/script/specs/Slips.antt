-- Slips: what is wrong with which word.
use Rattle.std.specs.Prelude.{◌≡◌, ℕ, ◌⊎◌, List, codes, Ok, Err, Result}
use Rattle.std.specs.Borrow.{Bor}
use Rattle.script.specs.declared.slip.Problem.{Problem}
use Rattle.script.specs.declared.slip.Problem.TheVariants.{Expected, NoMemory}
use Rattle.script.specs.declared.slip.Slip.{Slip}

-- a text, wherever it lies
abbrev pub text : List ℕ → Bor (List ℕ)
text letters = record { ref_ptr = (0, 0); now = letters }

-- the problem, wherever the text of the word lies that it expects
abbrev pub plain : Problem → Problem
plain (Expected wanted) = Expected (text wanted.now)
plain problem = problem

-- a word and its problem
pub record Fault : Type 0 where
  pub word : List ℕ
  pub problem : Problem

abbrev pub fault_of : Slip → Fault
fault_of slip = record { word = slip.word.now; problem = plain slip.problem }

-- an answer or the fault of a slip, with a view of the answer
abbrev pub told_by : {T U : Type 0} → (T → U) → Result T Slip → Result U Fault
told_by view (Ok x) = Ok (view x)
told_by view (Err slip) = Err (fault_of slip)

abbrev pub told : {T : Type 0} → Result T Slip → Result T Fault
told = told_by (λ x. x)

-- a fault ends the steps
abbrev pub after : {T U : Type 0} → Result T Fault → (T → Result U Fault) → Result U Fault
after (Ok x) next = next x
after (Err fault) next = Err fault

-- no memory was found
abbrev pub no_memory : Fault
no_memory = record { word = codes "the line"; problem = NoMemory }

-- the answer that is meant, unless no memory was found
abbrev pub OrNoMemory : {T : Type 0} → Result T Fault → Result T Fault → Type 0
OrNoMemory answer meant = (answer ≡ meant) ⊎ (answer ≡ Err no_memory)
