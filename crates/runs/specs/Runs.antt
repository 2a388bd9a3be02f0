-- Runs: calls made one after the other on a sheet that was blank, over one kind.
use Rattle.std.specs.Prelude.{◌≡◌, ℕ, List, [], ◌∷◌, ◌++◌, length, take, Ok, Err, Result}
use Rattle.fault.specs.declared.fault.Fault.{Fault}
use Rattle.kind.specs.Model.{Model}
use Rattle.report.specs.declared.answer.Report.{Report}
use Rattle.runs.specs.Events.{Event, History}
use Rattle.runs.specs.declared.call.Answer.{Answer}
use Rattle.runs.specs.declared.call.Answer.TheVariants as answers
use Rattle.runs.specs.declared.call.Call.{Call}
use Rattle.runs.specs.declared.call.Call.TheVariants as calls
use Rattle.sheet.specs.Calls.{Added, Opened, Reported, Struck, Written}
use Rattle.sheet.specs.Contents.{Contents, blank}
use Rattle.sheet.specs.Moving.{Moved}
use Rattle.sheet.specs.Reading.{Read}
use Rattle.slope.specs.declared.record.Record.{Record}

-- a call's own answer, as it is handed back
abbrev pub handed : {X : Type 0} → (X → Answer) → Result X Fault → Result Answer Fault
handed f (Ok x) = Ok (f x)
handed f (Err e) = Err e

abbrev pub accepted : Result (Unit {0}) Fault → Result Answer Fault
accepted = handed (λ _. answers.Accepted)

-- what a call finds and leaves: the contents of the sheet, the lent working and spare lines, and the bytes to write to
pub record State (K : Type 0) : Type 0 where
  pub sheet : Contents
  pub working : List (Record K)
  pub spare : List (Record K)
  pub out : List ℕ

abbrev pub state : {K : Type 0} → Contents → List (Record K) → List (Record K) → List ℕ → State K
state s w p out = record { sheet = s; working = w; spare = p; out = out }

-- the event of a call that finds this, and its answer
abbrev pub event : {K : Type 0} → Call → State K → Result Answer Fault → Event
event call x answer = record { call = call; working = length x.working; spare = length x.spare; out = x.out; answer = answer }

module _ {K : Type 0} where
  abbrev pub SameWorking : State K → State K → Type 0
  SameWorking x y = y.working ≡ x.working

  abbrev pub SameSpare : State K → State K → Type 0
  SameSpare x y = y.spare ≡ x.spare

  abbrev pub SameOut : State K → State K → Type 0
  SameOut x y = y.out ≡ x.out

  abbrev pub SameSheet : State K → State K → Type 0
  SameSheet x y = y.sheet ≡ x.sheet

  module _ (m : Model K) (x y : State K) (a : Result Answer Fault) where
    -- what the call is by its own relation, and what it does not touch
    abbrev pub Made : Call → Type 0
    Made (calls.Open o) = (r : Result (Unit {0}) Fault) × (a ≡ accepted r) × Opened o.lower.now o.upper.now o.swept o.centre x.sheet r y.sheet × SameWorking x y × SameSpare x y × SameOut x y
    Made (calls.Add line) = (r : Result ℕ Fault) × (a ≡ handed answers.Line r) × Added m line x.sheet x.working r y.sheet y.working × SameSpare x y × SameOut x y
    Made calls.Strike = (r : Result (Unit {0}) Fault) × (a ≡ accepted r) × Struck x.sheet r y.sheet × SameWorking x y × SameSpare x y × SameOut x y
    Made (calls.Move v) = (r : Result (Unit {0}) Fault) × (a ≡ accepted r) × Moved m v.channel v.lower v.upper v.centre x.sheet x.working x.spare r y.sheet y.working y.spare × SameOut x y
    Made (calls.Read bytes) = (r : Result (Unit {0}) Fault) × (a ≡ accepted r) × Read m bytes.now x.sheet x.working r y.sheet y.working × SameSpare x y × SameOut x y
    Made calls.Write = (r : Result ℕ Fault) × (a ≡ handed answers.Length r) × Written x.sheet x.out r y.out × SameSheet x y × SameWorking x y × SameSpare x y
    Made (calls.Report line) = (r : Result Report Fault) × (a ≡ handed answers.Report r) × Reported m line x.sheet x.working r × SameSheet x y × SameWorking x y × SameSpare x y × SameOut x y

module _ {K : Type 0} (m : Model K) where
  -- One call more, on a sheet and memory as the calls before left them. The working lines are the first of the memory, as many as are lent;
  -- spare lines and bytes are any. The first 64 lines of the memory are afterwards as the call left them; what lies beyond is nobody's.
  pub record Goes (e : Event) (Before : Contents → List (Record K) → Type 0) (s : Contents) (memory : List (Record K)) : Type 0 where
    pub from : State K
    pub to : State K
    pub rest : List (Record K)
    pub before : Before from.sheet (from.working ++ rest)
    pub made : Made m from to e.answer e.call
    pub working : e.working ≡ length from.working
    pub spare : e.spare ≡ length from.spare
    pub out : e.out ≡ from.out
    pub sheet : s ≡ to.sheet
    pub left : take 64 memory ≡ take 64 (to.working ++ rest)

  -- the calls of a history lead from a blank sheet and any memory to these contents and this memory
  abbrev pub Run : History → Contents → List (Record K) → Type 0
  Run [] s memory = s ≡ blank
  Run (e ∷ h) s memory = Goes e (Run h) s memory
