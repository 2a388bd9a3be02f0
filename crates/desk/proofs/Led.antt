-- The run that a call of a script makes of the run that led to a desk.
use Rattle.std.proofs.Common.{◌≡◌, ◌∙◌, ◌∷◌, ◌++◌, List, ℕ, ap, drop, subst, sym, take}
use Rattle.std.proofs.lemmas.List.{take-append-drop}
use Rattle.kind.specs.Model.{Model}
use Rattle.kind.specs.declared.kind.NumberKind.{Ghosts}
use Rattle.runs.specs.Events.{Event, History}
use Rattle.runs.specs.Runs.{Run, event}
use Rattle.script.specs.declared.call.Call.{Call}
use Rattle.script.specs.declared.call.Call.TheVariants.{Kind, Lend, Record, Spare, Working}
use Rattle.sheet.specs.Contents.{contents}
use Rattle.desk.specs.Answers.{Answers}
use Rattle.desk.specs.Dealing.{DealsAs, Names, SameBeyond, SameTable, at_desk, name_of}
use Rattle.desk.specs.Dialogue.{NotedNext}
use Rattle.desk.specs.Told.{Text, Told}
use Rattle.desk.specs.declared.desk.Desk.{Desk}

abbrev pub OtherThanKind : Call → Type 0
OtherThanKind (Kind k) = ⊥
OtherThanKind k = Unit {0}

module _ {K : Type 0} {G : Ghosts K} where
  -- what is lent, before what is not, is all the memory
  joined : (d d' : Desk K G) → SameBeyond d d' → take d'.lent d'.working ++ drop d.lent d.working ≡ d'.working
  joined d d' e = ap (λ rest. take d'.lent d'.working ++ rest) (sym e.working ∙ ap (λ n. drop n d'.working) (sym e.lent.lent)) ∙ take-append-drop d'.lent d'.working

  module _ (m : Model K) where
    abbrev pub LedTo : History → Desk K G → Type 0
    LedTo h d = Run m h (contents d.sheet) d.working

    same : (h : History) (d d' : Desk K G) → SameTable d d' → LedTo h d → LedTo h d'
    same h d d' e r = subst (λ s. Run m h (contents s) d'.working) (sym e.sheet) (subst (λ w. Run m h (contents d.sheet) w) (sym e.working) r)

    dealt : (k : Call) (d d' : Desk K G) (t : Text) (h : History) → LedTo h d → DealsAs m k d d' t
        → (e : Event) × Names k e.call × ((out : List ℕ) × Told (name_of k) e.answer out t) × LedTo (e ∷ h) d'
    dealt k d d' t h r x =
        let e = event x.0 (at_desk d x.2.out) x.2.answer in
        let found = subst (λ w. Run m h (contents d.sheet) w) (sym (take-append-drop d.lent d.working)) r in
        (e, x.1, (x.2.out', x.2.told), subst (λ w. Run m (e ∷ h) (contents d'.sheet) w) (joined d d' x.2.beyond) (x.2.run h (drop d.lent d.working) found).0)

    pub step : (k : Call) (d d' : Desk K G) (t : Text) (Before : History → Type 0) (h : History) → OtherThanKind k → Before h → LedTo h d → Answers m k d d' t
        → (h' : History) × NotedNext k t Before h' × LedTo h' d'
    step (Kind k) d d' t Before h other before r a = absurd other
    step (Lend w s) d d' t Before h other before r a = (h, before, same h d d' a.0.table r)
    step (Record line) d d' t Before h other before r a = (h, before, same h d d' a.0.table r)
    step (Working line) d d' t Before h other before r a = (h, before, same h d d' a.0.table r)
    step (Spare line) d d' t Before h other before r a = (h, before, same h d d' a.0.table r)
    step k d d' t Before h other before r a = let x = dealt k d d' t h r a in (x.0 ∷ h, (x.1, x.2, before), x.3)
