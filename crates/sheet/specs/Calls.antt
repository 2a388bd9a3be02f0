-- What each call answers, and what it leaves. A call finds the contents s of the sheet and the working lines w; it answers r, and leaves s' and w'.
use Rattle.std.specs.Prelude.{◌≡◌, ℕ, ◌-◌, cond, List, [], ◌∷◌, ◌++◌, length, take, true, is_ok, ℤ, Ok, Err, Result, ◌==◌, nat_lt}
use Rattle.std.specs.List.{slice_get}
use Rattle.boxes.specs.Boxes.{Box, opened}
use Rattle.fault.specs.Refusals.{after, found, refused}
use Rattle.fault.specs.declared.fault.Cause.TheVariants.{Full, Lines, NoLine}
use Rattle.fault.specs.declared.fault.Fault.{Fault}
use Rattle.kind.specs.Model.{Model}
use Rattle.line.specs.declared.line.Line.{Line}
use Rattle.report.specs.Reports.{reported}
use Rattle.report.specs.declared.answer.Report.{Report}
use Rattle.rule.specs.Fit.{Judged, fit}
use Rattle.rule.specs.Placed.{accepts, stored}
use Rattle.rule.specs.Records.{records}
use Rattle.rule.specs.Rule.{rule}
use Rattle.slope.specs.declared.record.Record.{Record}
use Rattle.writer.specs.Writing.{filled, needed}
use Rattle.sheet.specs.Contents.{Contents}

-- ---- open: an accepted box empties the sheet
abbrev pub reopened : Contents → Result Box Fault → Contents
reopened s (Ok b) = record { over = b; lines = [] }
reopened s (Err e) = s

pub record Opened (lower upper : List ℤ) (swept : ℕ) (centre : ℤ) (s : Contents) (r : Result (Unit {0}) Fault) (s' : Contents) : Type 0 where
  pub answer : r ≡ accepts (opened lower upper swept centre)
  pub sheet : s' ≡ reopened s (opened lower upper swept centre)

-- ---- strike: the last line goes
abbrev pub strikes : Contents → Result (Unit {0}) Fault
strikes s = cond (length s.lines == 0) (refused NoLine 0) (Ok tt)

abbrev pub shortened : Contents → Contents
shortened s = record { over = s.over; lines = take (length s.lines - 1) s.lines }

pub record Struck (s : Contents) (r : Result (Unit {0}) Fault) (s' : Contents) : Type 0 where
  pub answer : r ≡ strikes s
  pub sheet : s' ≡ shortened s

-- ---- working lines
-- at least 64 are lent
abbrev pub enough : ℕ → Result (Unit {0}) Fault
enough lent = cond (nat_lt lent 64) (refused Lines 0) (Ok tt)

-- they have the record of each held line
abbrev pub Recorded : {K : Type 0} → Model K → Contents → List (Record K) → Type 0
Recorded m s w = records m s.over s.lines ≡ Ok (take (length s.lines) w)

-- ---- add
abbrev pub with_line : Contents → Line → Contents
with_line s line = record { over = s.over; lines = s.lines ++ line ∷ [] }

-- whether a line can be added, as far as no record is asked for; so many working lines are lent
abbrev pub addable : Contents → ℕ → Line → Result (Unit {0}) Fault
addable s lent line = cond (nat_lt lent 64) (refused Lines 0) (cond (length s.lines == 64) (refused Full 64) (fit s.over (length s.lines) line))

module _ {R : Type 0} where
  -- the line's number
  abbrev pub numbered : ℕ → Result R Fault → Result ℕ Fault
  numbered n (Ok r) = Ok n
  numbered n (Err e) = Err e

  abbrev pub grown : Contents → Line → Result R Fault → Contents
  grown s line (Ok r) = with_line s line
  grown s line (Err e) = s

module _ {K : Type 0} (m : Model K) where
  -- the record of one more line by those of the held lines, or why it is refused
  abbrev pub next : Contents → ℕ → List (Record K) → Line → Result (Record K) Fault
  next s lent rs line =
      cond (nat_lt lent 64) (refused Lines 0)
      (cond (length s.lines == 64) (refused Full 64)
      (rule m s.over rs line))

  -- What add makes of a line is fixed where the working lines have the held lines' records. Where they lack one, a line that cannot be
  -- added is refused for just that, and any other is taken, or refused for its divisor or its span.
  pub record Makes (s : Contents) (w : List (Record K)) (line : Line) (made : Result (Record K) Fault) : Type 0 where
    pub judged : Judged (length s.lines) (addable s (length w) line) made
    pub ruled : Recorded m s w → made ≡ next s (length w) (take (length s.lines) w) line

  pub record Added (line : Line) (s : Contents) (w : List (Record K)) (r : Result ℕ Fault) (s' : Contents) (w' : List (Record K)) : Type 0 where
    pub made : Result (Record K) Fault
    pub makes : Makes s w line made
    pub answer : r ≡ numbered (length s.lines) made
    pub sheet : s' ≡ grown s line made
    pub records : w' ≡ stored w (length s.lines) made

-- ---- report
-- whether a line can be reported
abbrev pub reportable : Contents → ℕ → ℕ → Result (Unit {0}) Fault
reportable s lent line = cond (nat_lt lent 64) (refused Lines 0) (cond (nat_lt line (length s.lines)) (Ok tt) (refused NoLine line))

-- refused for just that, or answered
abbrev pub Answered : {X : Type 0} → Result (Unit {0}) Fault → Result X Fault → Type 0
Answered (Ok _) r = is_ok r ≡ true
Answered (Err e) r = r ≡ Err e

module _ {K : Type 0} (m : Model K) where
  -- the report of a line by the records of the held lines
  abbrev pub report : Contents → ℕ → List (Record K) → ℕ → Result Report Fault
  report s lent rs line =
      cond (nat_lt lent 64) (refused Lines 0)
      (after (found NoLine line (slice_get rs line)) (λ r. Ok (reported m s.over r)))

  -- Where the working lines lack a held line's record, a line that can be reported is still reported.
  pub record Reported (line : ℕ) (s : Contents) (w : List (Record K)) (r : Result Report Fault) : Type 0 where
    pub judged : Answered (reportable s (length w) line) r
    pub ruled : Recorded m s w → r ≡ report s (length w) (take (length s.lines) w) line

-- ---- write
pub record Written (s : Contents) (out : List ℕ) (r : Result ℕ Fault) (out' : List ℕ) : Type 0 where
  pub answer : r ≡ needed s.lines out
  pub bytes : out' ≡ filled r s.lines out
