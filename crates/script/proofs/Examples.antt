-- Lines that the definitions take apart: each computes.
use Rattle.std.proofs.Common.{◌≡◌, ℕ, List, [], ◌∷◌, pos, negsuc, None, Some, Option, Ok, Err, Result, refl, codes}
use Rattle.std.specs.Char.{encode_utf8}
use Rattle.std.specs.Str.{chars}
use Rattle.line.specs.declared.line.Line.TheVariants.{Branch, Constant}
use Rattle.script.specs.declared.slip.Problem.TheVariants.{Beyond, Expected, Missing, NoByte, NoCall, NoIndex, NoKind, NoNumber, NoOperation, Surplus}
use Rattle.script.specs.declared.call.KindName.TheVariants.{Sliding}
use Rattle.script.specs.Bytes.{words_into}
use Rattle.script.specs.declared.slip.Problem.{Problem}
use Rattle.script.specs.Calls.{Asked, add_call, asked_at, call_at, call_in, kind_at, kind_call, lend_call, open_call, read_call, room_at, within_at, working_call, write_call}
use Rattle.script.specs.Counts.{pairs_of}
use Rattle.script.specs.Lines.{line_at, operands_at}
use Rattle.script.specs.Numbers.{index_of, number_of}
use Rattle.script.specs.Openings.{moving_at, number_behind, numbers_to, opening_at}
use Rattle.script.specs.Readings.{end_at, index_at, number_at, wanted_at, word_at}
use Rattle.script.specs.Slips.{Fault, text}
use Rattle.script.specs.Words.{words_of}

abbrev Answer : Type 0
Answer = Result (Option Asked) Fault

abbrev is : Asked → Answer
is call = Ok (Some call)

abbrev slips : List ℕ → Problem → Answer
slips word problem = Err (record { word = word; problem = problem })

words : words_of (codes " lend  64 63 ") ≡ codes "lend" ∷ codes "64" ∷ codes "63" ∷ []
unfolding words_of chars encode_utf8
words = refl

lend : call_in (words_of (codes " lend  64 63 ")) ≡ is (lend_call 64 63)
unfolding words_of chars encode_utf8 call_at asked_at within_at word_at number_of end_at
lend = refl

beyond : call_in (words_of (codes "lend 64 129")) ≡ slips (codes "129") Beyond
unfolding words_of chars encode_utf8 call_at asked_at within_at word_at number_of end_at
beyond = refl

empty : call_in (words_of (codes " ")) ≡ Ok None
unfolding words_of chars encode_utf8
empty = refl

comment : call_in (words_of (codes "#strike it")) ≡ Ok None
unfolding words_of chars encode_utf8
comment = refl

surplus : call_in (words_of (codes "strike it")) ≡ slips (codes "it") Surplus
unfolding words_of chars encode_utf8 call_at asked_at end_at
surplus = refl

unknown : call_in (words_of (codes "chanel 3")) ≡ slips (codes "chanel") NoCall
unfolding words_of chars encode_utf8 call_at asked_at
unknown = refl

add : call_in (words_of (codes "add branch 2 0 1")) ≡ is (add_call (Branch 2 0 1))
unfolding words_of chars encode_utf8 call_at asked_at line_at operands_at index_at index_of word_at number_of end_at
add = refl

constant : call_in (words_of (codes "add constant -12")) ≡ is (add_call (Constant (negsuc 11)))
unfolding words_of chars encode_utf8 call_at asked_at line_at operands_at number_at word_at number_of end_at
constant = refl

missing : call_in (words_of (codes "add sum 0")) ≡ slips (codes "0") Missing
unfolding words_of chars encode_utf8 call_at asked_at line_at operands_at index_at index_of word_at number_of
missing = refl

opened : call_in (words_of (codes "open lower 1 -2 upper 3 4 swept 0 centre 2")) ≡ is (open_call (record { ends = record { lower = pos 1 ∷ negsuc 1 ∷ []; upper = pos 3 ∷ pos 4 ∷ [] }; swept = 0; centre = pos 2 }))
unfolding words_of chars encode_utf8 call_at asked_at opening_at wanted_at numbers_to number_behind number_at index_at index_of word_at number_of end_at
opened = refl

moved : call_in (words_of (codes "move 0 lower 1 upper 3 middle 2")) ≡ slips (codes "middle") (Expected (text (codes "centre")))
unfolding words_of chars encode_utf8 call_at asked_at moving_at wanted_at number_behind number_at index_at index_of word_at number_of end_at
moved = refl

bytes : call_in (words_of (codes "read 04 fF")) ≡ is (read_call (4 ∷ 255 ∷ []))
unfolding words_of chars encode_utf8 call_at asked_at end_at
bytes = refl

odd : call_in (words_of (codes "read 04 f")) ≡ slips (codes "f") NoByte
unfolding words_of chars encode_utf8 call_at asked_at
odd = refl

room : call_in (words_of (codes "write")) ≡ is (write_call None)
unfolding words_of chars encode_utf8 call_at asked_at room_at end_at
room = refl

negative : call_in (words_of (codes "write -1")) ≡ slips (codes "-1") NoIndex
unfolding words_of chars encode_utf8 call_at asked_at room_at index_of number_of
negative = refl

least : number_of (codes "-9223372036854775808") ≡ Ok (negsuc 9223372036854775807)
unfolding number_of
least = refl

past : number_of (codes "9223372036854775808") ≡ Err (record { word = codes "9223372036854775808"; problem = NoNumber })
unfolding number_of
past = refl

ends : pairs_of (words_of (codes "1 2 3")) [] [] ≡ Ok (record { lower = pos 1 ∷ pos 3 ∷ []; upper = pos 2 ∷ [] })
unfolding words_of chars encode_utf8 number_of
ends = refl

kind : call_in (words_of (codes "kind sliding")) ≡ is (kind_call Sliding)
unfolding words_of chars encode_utf8 call_at asked_at kind_at word_at end_at
kind = refl

no_kind : call_in (words_of (codes "kind exact")) ≡ slips (codes "exact") NoKind
unfolding words_of chars encode_utf8 call_at asked_at kind_at word_at
no_kind = refl

no_operation : call_in (words_of (codes "add Sum 0 1")) ≡ slips (codes "Sum") NoOperation
unfolding words_of chars encode_utf8 call_at asked_at line_at operands_at word_at
no_operation = refl

last : call_in (words_of (codes "working 127")) ≡ is (working_call 127)
unfolding words_of chars encode_utf8 call_at asked_at within_at word_at number_of end_at
last = refl

behind_last : call_in (words_of (codes "working 128")) ≡ slips (codes "128") Beyond
unfolding words_of chars encode_utf8 call_at asked_at within_at word_at number_of
behind_last = refl

line_of_bytes : words_into (words_of (codes "0400 01 8")) (9 ∷ []) ≡ record { answer = Err (record { word = codes "8"; problem = NoByte }); bytes = 9 ∷ 4 ∷ 0 ∷ 1 ∷ [] }
unfolding words_of chars encode_utf8
line_of_bytes = refl
