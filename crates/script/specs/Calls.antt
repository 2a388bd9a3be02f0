-- The calls of a script.
use Rattle.std.specs.Prelude.{ℕ, cond, List, [], ◌∷◌, ℤ, pos, negsuc, None, Some, Option, Ok, Err, Result, codes, bytes_eq, nat_le, slice_index, ◌==◌}
use Rattle.line.specs.declared.line.Line.{Line}
use Rattle.script.specs.declared.call.Call.{Call}
use Rattle.script.specs.declared.call.Call.TheVariants.{Add, Kind, Lend, Move, Open, Read, Record, Report, Spare, Strike, Working, Write}
use Rattle.script.specs.declared.call.KindName.{KindName}
use Rattle.script.specs.declared.call.KindName.TheVariants.{Fixed, Sliding}
use Rattle.script.specs.declared.call.Moving.{Moving}
use Rattle.script.specs.declared.slip.Problem.TheVariants.{Beyond, NoCall, NoKind}
use Rattle.script.specs.Bytes.{bytes_at}
use Rattle.script.specs.Kinds.{word_of}
use Rattle.script.specs.Lines.{line_at}
use Rattle.script.specs.Numbers.{index_of, number_of}
use Rattle.script.specs.Openings.{Opened, moving_at, opened, opening_at}
use Rattle.script.specs.Readings.{Reading, end_at, index_at, on, read, slipped, then, word_at}
use Rattle.script.specs.Slips.{Fault, after}
use Rattle.script.specs.Words.{Place}

-- the kind that a word names
abbrev pub kind_of : List ℕ → Result KindName Fault
kind_of word =
    cond (bytes_eq word (word_of Fixed)) (Ok Fixed)
    (cond (bytes_eq word (word_of Sliding)) (Ok Sliding) (Err (record { word = word; problem = NoKind })))

unfoldable pub kind_at : Place → Reading KindName
kind_at at = then (word_at at) (λ word next. record { answer = kind_of word; at = next })

-- a number from 0 to a limit
abbrev pub bounded : ℕ → List ℕ → ℤ → Result ℕ Fault
bounded limit word (pos n) = cond (nat_le n limit) (Ok n) (Err (record { word = word; problem = Beyond }))
bounded limit word (negsuc n) = Err (record { word = word; problem = Beyond })

unfoldable pub within_at : ℕ → Place → Reading ℕ
within_at limit at = then (word_at at) (λ word next. record { answer = after (number_of word) (bounded limit word); at = next })

-- a number of bytes, or none
abbrev pub room_in : List (List ℕ) → List ℕ → Reading (Option ℕ)
room_in [] last = read None (record { words = []; last = last })
room_in (word ∷ words) last = on (index_of word) (record { words = words; last = word }) (λ n. read (Some n))

unfoldable pub room_at : Place → Reading (Option ℕ)
room_at at = room_in at.words at.last

-- what a call asks for, wherever its lists lie
pub data Asked : Type 0 where
  kind_call : KindName → Asked
  lend_call : ℕ → ℕ → Asked
  open_call : Opened → Asked
  add_call : Line → Asked
  strike_call : Asked
  move_call : Moving → Asked
  read_call : List ℕ → Asked
  write_call : Option ℕ → Asked
  report_call : ℕ → Asked
  record_call : ℕ → Asked
  working_call : ℕ → Asked
  spare_call : ℕ → Asked

abbrev pub asked : Call → Asked
asked (Kind k) = kind_call k
asked (Lend working spare) = lend_call working spare
asked (Open o) = open_call (opened o)
asked (Add line) = add_call line
asked Strike = strike_call
asked (Move m) = move_call m
asked (Read bytes) = read_call bytes.items
asked (Write room) = write_call room
asked (Report line) = report_call line
asked (Record line) = record_call line
asked (Working line) = working_call line
asked (Spare line) = spare_call line

-- what is asked for behind the word of a call; the memory has 128 working and 128 spare lines, 0 to 127
unfoldable pub asked_at : List ℕ → Place → Reading Asked
asked_at word at =
    cond (bytes_eq word (codes "kind")) (then (kind_at at) (λ k. read (kind_call k)))
    (cond (bytes_eq word (codes "lend")) (then (within_at 128 at) (λ working next. then (within_at 128 next) (λ spare. read (lend_call working spare))))
    (cond (bytes_eq word (codes "open")) (then (opening_at at) (λ o. read (open_call o)))
    (cond (bytes_eq word (codes "add")) (then (line_at at) (λ line. read (add_call line)))
    (cond (bytes_eq word (codes "strike")) (read strike_call at)
    (cond (bytes_eq word (codes "move")) (then (moving_at at) (λ m. read (move_call m)))
    (cond (bytes_eq word (codes "read")) (then (bytes_at [] at) (λ bytes. read (read_call bytes)))
    (cond (bytes_eq word (codes "write")) (then (room_at at) (λ room. read (write_call room)))
    (cond (bytes_eq word (codes "report")) (then (index_at at) (λ line. read (report_call line)))
    (cond (bytes_eq word (codes "record")) (then (index_at at) (λ line. read (record_call line)))
    (cond (bytes_eq word (codes "working")) (then (within_at 127 at) (λ line. read (working_call line)))
    (cond (bytes_eq word (codes "spare")) (then (within_at 127 at) (λ line. read (spare_call line)))
    (slipped word NoCall at))))))))))))

-- and no word is left behind it
unfoldable pub call_at : List ℕ → Place → Reading Asked
call_at word at = then (asked_at word at) (λ call next. then (end_at next) (λ _. read call))

-- the call of words; no words have none, and words of which the first begins with # have none
abbrev pub call_in : List (List ℕ) → Result (Option Asked) Fault
call_in [] = Ok None
call_in (word ∷ words) = cond (slice_index word 0 == 35) (Ok None) (after (call_at word (record { words = words; last = word })).answer (λ call. Ok (Some call)))
