-- What opens a sheet, and what moves it.
use Rattle.std.specs.Prelude.{ℕ, cond, List, [], ◌∷◌, ◌++◌, ℤ, codes, bytes_eq}
use Rattle.script.specs.declared.call.Moving.{Moving}
use Rattle.script.specs.declared.call.Opening.{Opening}
use Rattle.script.specs.declared.slip.Problem.TheVariants.{Missing}
use Rattle.script.specs.Counts.{Ends, ends_of}
use Rattle.script.specs.Numbers.{number_of}
use Rattle.script.specs.Readings.{Reading, index_at, number_at, on, read, slipped, then, wanted_at}
use Rattle.script.specs.Words.{Place}

-- the numbers up to a word that ends them, behind numbers that are known; the word taken last comes last
abbrev pub numbers_in : List ℕ → List ℤ → List (List ℕ) → List ℕ → Reading (List ℤ)
numbers_in end known [] last = slipped last Missing (record { words = []; last = last })
numbers_in end known (word ∷ words) last =
    cond (bytes_eq word end) (read known (record { words = words; last = word }))
    (on (number_of word) (record { words = words; last = word }) (λ n _. numbers_in end (known ++ n ∷ []) words word))

unfoldable pub numbers_to : List ℕ → Place → Reading (List ℤ)
numbers_to end at = numbers_in end [] at.words at.last

-- the number behind a word
unfoldable pub number_behind : List ℕ → Place → Reading ℤ
number_behind word at = then (wanted_at word at) (λ _. number_at)

pub record Opened : Type 0 where
  pub ends : Ends
  pub swept : ℕ
  pub centre : ℤ

abbrev pub opened : Opening → Opened
opened o = record { ends = ends_of o.counts; swept = o.swept; centre = o.centre }

-- lower N .. upper N .. swept C centre N
unfoldable pub opening_at : Place → Reading Opened
opening_at at =
    then (wanted_at (codes "lower") at) (λ _ a.
    then (numbers_to (codes "upper") a) (λ lower b.
    then (numbers_to (codes "swept") b) (λ upper c.
    then (index_at c) (λ swept d.
    then (number_behind (codes "centre") d) (λ centre.
    read (record { ends = record { lower = lower; upper = upper }; swept = swept; centre = centre }))))))

-- C lower N upper N centre N
unfoldable pub moving_at : Place → Reading Moving
moving_at at =
    then (index_at at) (λ channel a.
    then (number_behind (codes "lower") a) (λ lower b.
    then (number_behind (codes "upper") b) (λ upper c.
    then (number_behind (codes "centre") c) (λ centre.
    read (record { channel = channel; lower = lower; upper = upper; centre = centre })))))
