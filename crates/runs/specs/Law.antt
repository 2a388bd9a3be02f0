-- The law over runs: after any calls, in any order, taken or refused, the sheet tells the truth.
use Rattle.std.specs.Prelude.{◌≡◌, ℕ, ◌<◌, ◌≤◌, List, [], ◌∷◌, ◌++◌, length, take, Ok, Some, Result}
use Rattle.std.specs.List.{slice_get}
use Rattle.boxes.specs.Boxes.{Box, opened}
use Rattle.exact.specs.Fraction.{Frac}
use Rattle.fault.specs.Refusals.{after}
use Rattle.fault.specs.declared.fault.Fault.{Fault}
use Rattle.kind.specs.Model.{Model}
use Rattle.line.specs.declared.line.Line.{Line}
use Rattle.report.specs.Near.{Near}
use Rattle.report.specs.declared.answer.Report.{Report}
use Rattle.rule.specs.Exact.{InBox, Point, value_of}
use Rattle.rule.specs.Records.{Tells, records}
use Rattle.runs.specs.Events.{Event, History, held, present}
use Rattle.runs.specs.Runs.{Run, State, accepted, handed}
use Rattle.runs.specs.declared.call.Answer.{Answer}
use Rattle.runs.specs.declared.call.Answer.TheVariants as answers
use Rattle.runs.specs.declared.call.Call.{Call}
use Rattle.runs.specs.declared.call.Call.TheVariants as calls
use Rattle.rule.specs.Placed.{accepts}
use Rattle.sheet.specs.Calls.{Recorded, Written, next, numbered, report, strikes}
use Rattle.sheet.specs.Contents.{Contents}
use Rattle.sheet.specs.Moving.{move_onto, new_box}
use Rattle.sheet.specs.Reading.{Read, read_onto}
use Rattle.slope.specs.declared.record.Record.{Record}
use Rattle.writer.specs.Writing.{needed}

abbrev pub sheet_of : Box → List Line → Contents
sheet_of b ls = record { over = b; lines = ls }

-- ---- a report encloses: at every point of the box its line's exact value is at most the margin away from the middle
abbrev pub Encloses : Box → List Line → Event → Type 0
Encloses b ls e = (line : ℕ) (r : Report) → e.call ≡ calls.Report line → e.answer ≡ Ok (answers.Report r)
    → (p : Point) → InBox b p → (u : Frac) × (value_of p ls line ≡ Some u) × Near r u

-- ---- the calls of a fresh sheet: it is opened with a box, and lines are added in order, each with enough working lines
abbrev pub Opens : Box → Call → Type 0
Opens b (calls.Open o) = (o.lower.now ≡ b.lower) × (o.upper.now ≡ b.upper) × (o.swept ≡ b.swept) × (o.centre ≡ b.centre)
Opens b c = ⊥

pub data Freshly (b : Box) : List Line → History → Type 0 where
  opens : {e : Event} → Opens b e.call → Freshly b [] (e ∷ [])
  adds : {ls : List Line} {h : History} {e : Event} (line : Line) → Freshly b ls h → e.call ≡ calls.Add line → 64 ≤ e.working → Freshly b (ls ++ line ∷ []) (e ∷ h)

module _ {K : Type 0} (m : Model K) where
  -- ---- each call was taken or refused as the causes say, with records by the rules alone
  -- the answer that is due to a call where these lines are held over this box
  abbrev pub due : Box → List Line → Event → Call → Result Answer Fault
  due b ls e (calls.Open o) = accepted (accepts (opened o.lower.now o.upper.now o.swept o.centre))
  due b ls e (calls.Add line) = after (records m b ls) (λ rs. handed answers.Line (numbered (length ls) (next m (sheet_of b ls) e.working rs line)))
  due b ls e calls.Strike = accepted (strikes (sheet_of b ls))
  due b ls e (calls.Move v) = accepted (move_onto m (sheet_of b ls) (new_box (sheet_of b ls) e.working e.spare v.channel v.lower v.upper v.centre)).answer
  due b ls e (calls.Read bytes) = accepted (read_onto m (sheet_of b ls) e.working bytes.now).answer
  due b ls e calls.Write = handed answers.Length (needed ls e.out)
  due b ls e (calls.Report line) = after (records m b ls) (λ rs. handed answers.Report (report m (sheet_of b ls) e.working rs line))

  abbrev pub Answers : History → Type 0
  Answers [] = Unit {0}
  Answers (e ∷ h) = Answers h × (e.answer ≡ due (present h) (held h) e e.call) × Encloses (present h) (held h) e

  -- ---- what holds after a run
  -- the first of the memory, one for each held line
  abbrev pub fronts : Contents → List (Record K) → List (Record K)
  fronts s memory = take (length s.lines) memory

  -- a fresh sheet came to hold this
  pub record FreshRun (s : Contents) : Type 0 where
    pub history : History
    pub memory : List (Record K)
    pub freshly : Freshly s.over s.lines history
    pub run : Run m history s memory

  -- line i has a record in the memory, which tells the truth at a point
  abbrev pub TellsAt : Contents → List (Record K) → Point → ℕ → Type 0
  TellsAt s memory p i = (r : Record K) × (slice_get memory i ≡ Some r) × Tells m s.over p s.lines i r

  pub record Sound (h : History) (s : Contents) (memory : List (Record K)) : Type 0 where
    -- the sheet holds the present box and the held lines
    pub sheet : s ≡ sheet_of (present h) (held h)
    pub few : length s.lines ≤ 64
    -- at every point of the present box each held line has an exact value, which lies in its span U, and both slope forms hold there
    pub truth : (p : Point) → InBox s.over p → (i : ℕ) → i < length s.lines → TellsAt s memory p i
    -- every answer was due, and every report encloses
    pub answers : Answers h
    -- each held line has the record that the rules give it over the present box
    pub records : Recorded m s memory
    -- and so the one that a fresh sheet gives it: given 64 records to make it with, there is a fresh sheet that takes all lines,
    -- and every fresh sheet takes them and has the same records
    pub taken : (memory' : List (Record K)) → 64 ≤ length memory' → FreshRun s
    pub fresh : (h' : History) (s' : Contents) (memory' : List (Record K)) → Freshly s.over s.lines h' → Run m h' s' memory' → (s' ≡ s) × (fronts s memory' ≡ fronts s memory)
    -- what the sheet writes is read as its lines, with their records, by an empty sheet over the same box
    pub again : (out out' : List ℕ) (n : ℕ) → Written s out (Ok n) out' → (t t' : Contents) (w w' : List (Record K)) (r : Result (Unit {0}) Fault)
        → t.over ≡ s.over → t.lines ≡ [] → 64 ≤ length w → Read m (take n out') t w r t' w' → (r ≡ Ok tt) × (t' ≡ s) × (fronts s w' ≡ fronts s memory)

  abbrev pub RunsSound : Type 0
  RunsSound = (h : History) (s : Contents) (memory : List (Record K)) → Run m h s memory → Sound h s memory

  -- this call goes on from every run that led to what it found, and what it leaves is sound
  abbrev pub GoesOn : Event → State K → State K → Type 0
  GoesOn e x y = (h : History) (rest : List (Record K)) → Run m h x.sheet (x.working ++ rest) → Run m (e ∷ h) y.sheet (y.working ++ rest) × Sound (e ∷ h) y.sheet (y.working ++ rest)
