-- The law over dialogues.
use Rattle.std.proofs.Common.{◌∙◌, [], ◌∷◌, List, ap, refl, subst, sym}
use Rattle.fixed.specs.Grid.{fixed_model}
use Rattle.fixed.specs.Rules.{fixed_rules}
use Rattle.runs.proofs.Soundness.{runs_sound}
use Rattle.runs.specs.Events.{History}
use Rattle.script.specs.declared.call.Call.{Call}
use Rattle.script.specs.declared.call.Call.TheVariants.{Kind}
use Rattle.script.specs.declared.call.KindName.{KindName}
use Rattle.script.specs.declared.call.KindName.TheVariants as kinds
use Rattle.sheet.specs.Contents.{contents}
use Rattle.sliding.specs.Grid.{sliding_model}
use Rattle.sliding.specs.Rules.{sliding_rules}
use Rattle.desk.proofs.Led.{OtherThanKind, step}
use Rattle.desk.specs.Answers.{AnswersIn, Begins}
use Rattle.desk.specs.Begun.{BeginsAs}
use Rattle.desk.specs.Dialogue.{Dialogue, DialoguesSound, Led, NotedNext, RunOf, SoundAt, Turn}
use Rattle.desk.specs.Told.{Text}
use Rattle.desk.specs.declared.station.Station.{Station}
use Rattle.desk.specs.declared.station.Station.TheVariants as stations

fresh : (k : KindName) (s : Station) → BeginsAs k s → Led [] s
fresh kinds.Fixed (stations.Fixed d) b = b.blank_sheet
fresh kinds.Sliding (stations.Sliding d) b = b.blank_sheet
fresh kinds.Fixed (stations.Sliding d) b = absurd b
fresh kinds.Sliding (stations.Fixed d) b = absurd b

kept : (k : KindName) (b s : Station) (t : Text) → Led [] b → AnswersIn (Kind k) b s t → Led [] s
kept k (stations.Fixed d) (stations.Fixed d') t e a = ap contents a.0.table.sheet ∙ e
kept k (stations.Sliding d) (stations.Sliding d') t e a = ap contents a.0.table.sheet ∙ e
kept k (stations.Fixed d) (stations.Sliding d') t e a = absurd a
kept k (stations.Sliding d) (stations.Fixed d') t e a = absurd a

in_kind : (k : Call) (b s : Station) (t : Text) (Before : History → Type 0) (h : History) → OtherThanKind k → Before h → Led h b → AnswersIn k b s t
    → (h' : History) × NotedNext k t Before h' × Led h' s
in_kind k (stations.Fixed d) (stations.Fixed d') t Before h other before r a = step fixed_model k d d' t Before h other before r a
in_kind k (stations.Sliding d) (stations.Sliding d') t Before h other before r a = step sliding_model k d d' t Before h other before r a
in_kind k (stations.Fixed d) (stations.Sliding d') t Before h other before r a = absurd a
in_kind k (stations.Sliding d) (stations.Fixed d') t Before h other before r a = absurd a

turn : (k : Call) (from b s : Station) (t : Text) (Before : History → Type 0) (h : History) → Before h → Led h from → Begins k from b → AnswersIn k b s t
    → (h' : History) × NotedNext k t Before h' × Led h' s
turn (Kind k) from b s t Before h before r begins a = ([], refl, kept k b s t (fresh k b begins) a)
turn k from b s t Before h before r begins a = in_kind k b s t Before h tt before (subst (Led h) (sym begins) r) a

led : (us : List Turn) (s : Station) → Dialogue us s → (h : History) × RunOf us h × Led h s
led [] s d = ([], refl, fresh d.0 s d.1)
led (u ∷ us) s d =
    let p = led us d.0 d.1 in
    turn u.call d.0 d.2.0 s u.text (RunOf us) p.0 p.1 p.2 d.2.1 d.2.2

sound : (h : History) (s : Station) → Led h s → SoundAt h s
sound h (stations.Fixed d) r = runs_sound fixed_model fixed_rules h (contents d.sheet) d.working r
sound h (stations.Sliding d) r = runs_sound sliding_model sliding_rules h (contents d.sheet) d.working r

pub dialogues_sound : DialoguesSound
dialogues_sound us s d = let p = led us s d in (p.0, p.1, p.2, sound p.0 s p.2)
