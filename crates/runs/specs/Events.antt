-- Calls with their answers, and what they say of the present box and the held lines.
use Rattle.std.specs.Prelude.{◌-◌, ℕ, cond, List, [], ◌∷◌, ◌++◌, length, take, Ok, Err, Result, ◌==◌}
use Rattle.boxes.specs.Boxes.{Box, blank_box}
use Rattle.boxes.specs.Moving.{changed}
use Rattle.fault.specs.declared.fault.Fault.{Fault}
use Rattle.line.specs.declared.line.Line.{Line}
use Rattle.reader.specs.Reading.{formula_at}
use Rattle.runs.specs.declared.call.Answer.{Answer}
use Rattle.runs.specs.declared.call.Call.{Call}
use Rattle.runs.specs.declared.call.Call.TheVariants.{Add, Move, Open, Read, Strike}
use Rattle.runs.specs.declared.call.Opening.{Opening}

-- a call, how many working and spare lines and which bytes to write to it was lent, and its answer
pub record Event : Type 0 where
  pub call : Call
  pub working : ℕ
  pub spare : ℕ
  pub out : List ℕ
  pub answer : Result Answer Fault

-- the newest first
abbrev pub History : Type 0
History = List Event

-- ---- the present box: that of the last accepted open, with all accepted moves since
abbrev pub box_given : Opening → Box
box_given o = record { lower = o.lower.now; upper = o.upper.now; swept = o.swept; centre = o.centre }

abbrev pub box_after : Box → Call → Result Answer Fault → Box
box_after b (Open o) (Ok _) = box_given o
box_after b (Move v) (Ok _) = changed b v.channel v.lower v.upper (cond (v.channel == b.swept) v.centre b.centre)
box_after b c a = b

abbrev pub present : History → Box
present [] = blank_box
present (e ∷ h) = box_after (present h) e.call e.answer

-- ---- the held lines: those that add and read accepted since that open, in order, less the last one at each accepted strike
abbrev pub given_of : Result (List Line) Fault → List Line
given_of (Ok ls) = ls
given_of (Err e) = []

-- the lines of bytes
abbrev pub lines_given : List ℕ → List Line
lines_given bytes = given_of (formula_at bytes)

abbrev pub lines_after : List Line → Call → Result Answer Fault → List Line
lines_after ls (Open o) (Ok _) = []
lines_after ls (Add line) (Ok _) = ls ++ line ∷ []
lines_after ls Strike (Ok _) = take (length ls - 1) ls
lines_after ls (Read bytes) (Ok _) = ls ++ lines_given bytes.now
lines_after ls c a = ls

abbrev pub held : History → List Line
held [] = []
held (e ∷ h) = lines_after (held h) e.call e.answer
