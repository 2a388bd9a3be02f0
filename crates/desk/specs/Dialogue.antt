-- Dialogues at a station, and the law over them: after any calls with any answers the sheet tells the truth.
use Rattle.std.specs.Prelude.{◌≡◌, ℕ, List, [], ◌∷◌}
use Rattle.fixed.specs.Grid.{fixed_model}
use Rattle.runs.specs.Events.{History}
use Rattle.runs.specs.Law.{Sound}
use Rattle.runs.specs.Runs.{Run}
use Rattle.script.specs.declared.call.Call.{Call}
use Rattle.script.specs.declared.call.Call.TheVariants.{Kind, Lend, Record, Spare, Working}
use Rattle.script.specs.declared.call.KindName.{KindName}
use Rattle.sheet.specs.Contents.{contents}
use Rattle.sliding.specs.Grid.{sliding_model}
use Rattle.desk.specs.Answers.{AnswersAt}
use Rattle.desk.specs.Begun.{BeginsAs}
use Rattle.desk.specs.Dealing.{Names, name_of}
use Rattle.desk.specs.Told.{Text, Told}
use Rattle.desk.specs.declared.station.Station.{Station}
use Rattle.desk.specs.declared.station.Station.TheVariants as stations

-- a call of a script, and its answer in words
pub record Turn : Type 0 where
  pub call : Call
  pub text : Text

-- these turns, the newest first, led from a blank station to this one
abbrev pub Dialogue : List Turn → Station → Type 0
Dialogue [] s = (k : KindName) × BeginsAs k s
Dialogue (u ∷ us) s = (from : Station) × Dialogue us from × AnswersAt u.call from s u.text

-- ---- the run that a dialogue makes: the calls on the sheet since the newest kind, with the answers that were told
abbrev pub Noted : Call → Text → (History → Type 0) → History → Type 0
Noted k t Before [] = ⊥
Noted k t Before (e ∷ h) = Names k e.call × ((out : List ℕ) × Told (name_of k) e.answer out t) × Before h

abbrev pub NotedNext : Call → Text → (History → Type 0) → History → Type 0
NotedNext (Kind k) t Before h = h ≡ []
NotedNext (Lend w s) t Before h = Before h
NotedNext (Record line) t Before h = Before h
NotedNext (Working line) t Before h = Before h
NotedNext (Spare line) t Before h = Before h
NotedNext k t Before h = Noted k t Before h

abbrev pub RunOf : List Turn → History → Type 0
RunOf [] h = h ≡ []
RunOf (u ∷ us) h = NotedNext u.call u.text (RunOf us) h

-- ---- the law: the run of a dialogue led to what the station has, and all that the law over runs says of it holds
abbrev pub Led : History → Station → Type 0
Led h (stations.Fixed d) = Run fixed_model h (contents d.sheet) d.working
Led h (stations.Sliding d) = Run sliding_model h (contents d.sheet) d.working

abbrev pub SoundAt : History → Station → Type 0
SoundAt h (stations.Fixed d) = Sound fixed_model h (contents d.sheet) d.working
SoundAt h (stations.Sliding d) = Sound sliding_model h (contents d.sheet) d.working

abbrev pub DialoguesSound : Type 0
DialoguesSound = (us : List Turn) (s : Station) → Dialogue us s → (h : History) × RunOf us h × Led h s × SoundAt h s
