-- What each call of a script does at a desk, and at a station.
use Rattle.std.specs.Prelude.{◌≡◌, ℕ, ◌<◌, ◌≤◌, [], min, ◌++◌, codes, length}
use Rattle.std.specs.Fmt.{decimal}
use Rattle.fixed.specs.Grid.{fixed_model}
use Rattle.kind.specs.Model.{Model}
use Rattle.kind.specs.declared.kind.NumberKind.{Ghosts}
use Rattle.script.specs.Kinds.{word_of}
use Rattle.script.specs.declared.call.Call.{Call}
use Rattle.script.specs.declared.call.Call.TheVariants.{Kind, Lend, Record, Spare, Working}
use Rattle.sheet.specs.Contents.{contents}
use Rattle.sliding.specs.Grid.{sliding_model}
use Rattle.desk.specs.Begun.{BeginsAs}
use Rattle.desk.specs.Dealing.{DealsAs, SameLent, SameTable}
use Rattle.desk.specs.Told.{Says, SaysAround, Text, line_words}
use Rattle.desk.specs.declared.desk.Desk.{Desk}
use Rattle.desk.specs.declared.station.Station.{Station}
use Rattle.desk.specs.declared.station.Station.TheVariants as stations

module _ {K : Type 0} {G : Ghosts K} where
  -- from now on so many lines are lent, of the 128 that there are
  pub record Lends (working spare : ℕ) (d d' : Desk K G) : Type 0 where
    pub lent : d'.lent ≡ min working 128
    pub lent_spare : d'.lent_spare ≡ min spare 128
    pub table : SameTable d d'

  -- a look at the desk: all stays
  pub record Looks (d d' : Desk K G) : Type 0 where
    pub table : SameTable d d'
    pub lent : SameLent d d'

  -- what a look at a line that may be held says
  pub record RecordSays (d : Desk K G) (line : ℕ) (t : Text) : Type 0 where
    pub held : line < length (contents d.sheet).lines → SaysAround (line_words (codes "record") line) [] t
    pub not_held : length (contents d.sheet).lines ≤ line → Says (line_words (codes "record") line ++ codes "not held") t

  abbrev pub Answers : Model K → Call → Desk K G → Desk K G → Text → Type 0
  Answers m (Kind k) d d' t = Looks d d' × Says (codes "kind: " ++ word_of k) t
  Answers m (Lend w s) d d' t = Lends w s d d' × Says (codes "lend: " ++ decimal w ++ codes " " ++ decimal s) t
  Answers m (Record line) d d' t = Looks d d' × RecordSays d line t
  Answers m (Working line) d d' t = Looks d d' × SaysAround (line_words (codes "working") line) [] t
  Answers m (Spare line) d d' t = Looks d d' × SaysAround (line_words (codes "spare") line) [] t
  Answers m k d d' t = DealsAs m k d d' t

-- the station at which a call is answered: a blank one of a kind that the call names
abbrev pub Begins : Call → Station → Station → Type 0
Begins (Kind k) s s' = BeginsAs k s'
Begins c s s' = s' ≡ s

-- in the kind of its desk
abbrev pub AnswersIn : Call → Station → Station → Text → Type 0
AnswersIn c (stations.Fixed d) (stations.Fixed d') t = Answers fixed_model c d d' t
AnswersIn c (stations.Sliding d) (stations.Sliding d') t = Answers sliding_model c d d' t
AnswersIn c s s' t = ⊥

abbrev pub AnswersAt : Call → Station → Station → Text → Type 0
AnswersAt c s s' t = (b : Station) × Begins c s b × AnswersIn c b s' t
