-- What a call on the sheet does to a desk.
use Rattle.std.specs.Prelude.{◌≡◌, ℕ, [], ◌++◌, codes, drop, length, min, take, List, Option, Result}
use Rattle.std.specs.Fmt.{decimal}
use Rattle.std.specs.Option.{unwrap_or}
use Rattle.fault.specs.declared.fault.Fault.{Fault}
use Rattle.kind.specs.Model.{Model}
use Rattle.kind.specs.declared.kind.NumberKind.{Ghosts}
use Rattle.runs.specs.Law.{GoesOn}
use Rattle.runs.specs.Runs.{Made, State, event, state}
use Rattle.runs.specs.declared.call.Answer.{Answer}
use Rattle.runs.specs.declared.call.Call.{Call as SheetCall}
use Rattle.runs.specs.declared.call.Call.TheVariants as calls
use Rattle.script.specs.declared.call.Call.{Call}
use Rattle.script.specs.declared.call.Call.TheVariants.{Add, Move, Open, Read, Report, Strike, Write}
use Rattle.script.specs.declared.call.Moving.{Moving}
use Rattle.script.specs.declared.call.Opening.{Opening}
use Rattle.sheet.specs.Contents.{contents}
use Rattle.desk.specs.Told.{Text, Told}
use Rattle.desk.specs.declared.desk.Desk.{Desk}

-- ---- the call on the sheet that a call of a script names
abbrev pub OpensAs : Opening → SheetCall → Type 0
OpensAs o (calls.Open p) = (p.lower.now ≡ o.counts.lower.items) × (p.upper.now ≡ o.counts.upper.items) × (p.swept ≡ o.swept) × (p.centre ≡ o.centre)
OpensAs o c = ⊥

abbrev pub MovesAs : Moving → SheetCall → Type 0
MovesAs v (calls.Move w) = (w.channel ≡ v.channel) × (w.lower ≡ v.lower) × (w.upper ≡ v.upper) × (w.centre ≡ v.centre)
MovesAs v c = ⊥

abbrev pub ReadsAs : List ℕ → SheetCall → Type 0
ReadsAs bytes (calls.Read b) = b.now ≡ bytes
ReadsAs bytes c = ⊥

abbrev pub Names : Call → SheetCall → Type 0
Names (Open o) c = OpensAs o c
Names (Add line) c = c ≡ calls.Add line
Names Strike c = c ≡ calls.Strike
Names (Move v) c = MovesAs v c
Names (Read bytes) c = ReadsAs bytes.items c
Names (Write room) c = c ≡ calls.Write
Names (Report line) c = c ≡ calls.Report line
Names k c = ⊥

-- the words before its answer (calls that make none have no part in this)
abbrev pub name_of : Call → List ℕ
name_of (Open o) = codes "open"
name_of (Add line) = codes "add"
name_of Strike = codes "strike"
name_of (Move v) = codes "move"
name_of (Read bytes) = codes "read"
name_of (Write room) = codes "write"
name_of (Report line) = codes "report " ++ decimal line
name_of k = []

-- how many bytes it may write to: a write those that the script says, or else enough
abbrev pub written_room : Option ℕ → ℕ
written_room room = min (unwrap_or room 2048) 2048

abbrev pub room_of : Call → ℕ
room_of (Write room) = written_room room
room_of k = 0

module _ {K : Type 0} {G : Ghosts K} where
  -- ---- what a call finds and leaves: the sheet, the lines that are lent, and bytes to write to
  abbrev pub at_desk : Desk K G → List ℕ → State K
  at_desk d out = state (contents d.sheet) (take d.lent d.working) (take d.lent_spare d.spare) out

  pub record SameLent (d d' : Desk K G) : Type 0 where
    pub lent : d'.lent ≡ d.lent
    pub lent_spare : d'.lent_spare ≡ d.lent_spare

  pub record SameTable (d d' : Desk K G) : Type 0 where
    pub sheet : d'.sheet ≡ d.sheet
    pub working : d'.working ≡ d.working
    pub spare : d'.spare ≡ d.spare

  -- lines that are not lent are not touched, and as many are lent as before
  pub record SameBeyond (d d' : Desk K G) : Type 0 where
    pub lent : SameLent d d'
    pub working : drop d.lent d'.working ≡ drop d.lent d.working
    pub spare : drop d.lent_spare d'.spare ≡ drop d.lent_spare d.spare

  module _ (m : Model K) where
    -- a call was made, with room for so many bytes. It goes on from every run that led to what it found, and its answer was told.
    pub record Deals (call : SheetCall) (n : ℕ) (name : List ℕ) (d d' : Desk K G) (t : Text) : Type 0 where
      pub out : List ℕ
      pub out' : List ℕ
      pub answer : Result Answer Fault
      pub room : length out ≡ n
      pub made : Made m (at_desk d out) (at_desk d' out') answer call
      pub run : GoesOn m (event call (at_desk d out) answer) (at_desk d out) (at_desk d' out')
      pub beyond : SameBeyond d d'
      pub told : Told name answer out' t

    -- the call that a call of a script names was made
    abbrev pub DealsAs : Call → Desk K G → Desk K G → Text → Type 0
    DealsAs k d d' t = (c : SheetCall) × Names k c × Deals c (room_of k) (name_of k) d d' t
