-- Reading a line word by word.
use Rattle.std.specs.Prelude.{◌≡◌, ℕ, ◌⊎◌, cond, List, [], ◌∷◌, ℤ, Ok, Err, Result, bytes_eq}
use Rattle.script.specs.declared.slip.Problem.{Problem}
use Rattle.script.specs.declared.slip.Problem.TheVariants.{Expected, Missing, Surplus}
use Rattle.script.specs.declared.slip.Slip.{Slip}
use Rattle.script.specs.declared.words.Words.{Words}
use Rattle.script.specs.Numbers.{index_of, number_of}
use Rattle.script.specs.Slips.{Fault, no_memory, text, told_by}
use Rattle.script.specs.Words.{Place, place}

-- what was read, or the fault, and how far the line is read then
pub record Reading (T : Type 0) : Type 0 where
  pub answer : Result T Fault
  pub at : Place

-- what a function over the words of a line has answered and left
abbrev pub reading_by : {T U : Type 0} → (T → U) → Result T Slip → Words → Reading U
reading_by view result line = record { answer = told_by view result; at = place line }

abbrev pub reading : {T : Type 0} → Result T Slip → Words → Reading T
reading = reading_by (λ x. x)

-- the reading that is meant, unless no memory was found
abbrev pub ReadsOrNoMemory : {T : Type 0} → Reading T → Reading T → Type 0
ReadsOrNoMemory r meant = (r ≡ meant) ⊎ (r.answer ≡ Err no_memory)

abbrev pub read : {T : Type 0} → T → Place → Reading T
read x at = record { answer = Ok x; at = at }

abbrev pub slipped : {T : Type 0} → List ℕ → Problem → Place → Reading T
slipped word problem at = record { answer = Err (record { word = word; problem = problem }); at = at }

-- reading goes on behind what was read, and a fault ends it
abbrev pub on : {T U : Type 0} → Result T Fault → Place → (T → Place → Reading U) → Reading U
on (Ok x) at next = next x at
on (Err fault) at next = record { answer = Err fault; at = at }

abbrev pub then : {T U : Type 0} → Reading T → (T → Place → Reading U) → Reading U
then r next = on r.answer r.at next

-- the next word; where none is left, one is missing behind the last
abbrev pub first_of : List (List ℕ) → List ℕ → Reading (List ℕ)
first_of [] last = slipped last Missing (record { words = []; last = last })
first_of (word ∷ words) last = read word (record { words = words; last = word })

unfoldable pub word_at : Place → Reading (List ℕ)
word_at at = first_of at.words at.last

-- the word that is wanted comes next, and no other
unfoldable pub wanted_at : List ℕ → Place → Reading (Unit {0})
wanted_at wanted at = then (word_at at) (λ word next. cond (bytes_eq word wanted) (read tt next) (slipped word (Expected (text wanted)) next))

unfoldable pub number_at : Place → Reading ℤ
number_at at = then (word_at at) (λ word next. record { answer = number_of word; at = next })

unfoldable pub index_at : Place → Reading ℕ
index_at at = then (word_at at) (λ word next. record { answer = index_of word; at = next })

-- no word is left
abbrev pub none_of : List (List ℕ) → List ℕ → Reading (Unit {0})
none_of [] last = read tt (record { words = []; last = last })
none_of (word ∷ words) last = slipped word Surplus (record { words = words; last = word })

unfoldable pub end_at : Place → Reading (Unit {0})
end_at at = none_of at.words at.last
