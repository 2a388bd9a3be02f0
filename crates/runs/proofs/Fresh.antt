-- A fresh sheet that is opened with a box takes all lines that have records over it, and has the same records.
use Rattle.std.proofs.Common.{◌≡◌, ℕ, ◌<◌, ◌≤◌, List, [], ◌∷◌, ◌++◌, length, take, Ok, Result, sym, ap, ◌∙◌, subst, arith, length-append}
use Rattle.std.proofs.lemmas.Bool.{le-ltb, ne_eqb}
use Rattle.std.proofs.lemmas.List.{take-append-le}
use Rattle.boxes.proofs.Reopened.{reopens}
use Rattle.boxes.specs.Boxes.{Box, Proper, opened}
use Rattle.fault.proofs.Steps.{ok_is}
use Rattle.fault.specs.declared.fault.Fault.{Fault}
use Rattle.kind.specs.Model.{Model}
use Rattle.line.specs.declared.line.Line.{Line}
use Rattle.rule.specs.Records.{records}
use Rattle.rule.specs.Rule.{rule}
use Rattle.runs.proofs.Kept.{core}
use Rattle.runs.proofs.Good.{Good}
use Rattle.runs.proofs.Lists.{last}
use Rattle.runs.specs.Events.{History}
use Rattle.runs.specs.Law.{Freshly, Opens, sheet_of}
use Rattle.runs.specs.Law.Freshly.{adds, opens}
use Rattle.runs.specs.Runs.{Made, Run, State}
use Rattle.runs.specs.declared.call.Answer.{Answer}
use Rattle.runs.specs.declared.call.Call.{Call}
use Rattle.runs.specs.declared.call.Call.TheVariants as calls
use Rattle.sheet.specs.Calls.{Added, Recorded, grown, next, reopened}
use Rattle.sheet.specs.Contents.{Contents}
use Rattle.slope.specs.declared.record.Record.{Record}

module _ {K : Type 0} (m : Model K) (b : Box) where
  -- an open with a proper box leaves a sheet over it
  opened_sheet : Proper b → (x y : State K) (a : Result Answer Fault) (c : Call) → Opens b c → Made m x y a c → y.sheet ≡ sheet_of b []
  opened_sheet p x y a (calls.Open o) is made = made.2.sheet ∙ ap (reopened x.sheet) ((λ i. opened (is.0 i) (is.1 i) (is.2 i) (is.3 i)) ∙ reopens b p)
  opened_sheet p x y a (calls.Add line) is made = absurd is
  opened_sheet p x y a calls.Strike is made = absurd is
  opened_sheet p x y a (calls.Move v) is made = absurd is
  opened_sheet p x y a (calls.Read bytes) is made = absurd is
  opened_sheet p x y a calls.Write is made = absurd is
  opened_sheet p x y a (calls.Report line) is made = absurd is

  -- a line that has a record is taken where the working lines have the records of those before it
  added_sheet : (ls : List Line) (line : Line) (w w' : List (Record K)) (r : Result ℕ Fault) (s : Contents) (rs : List (Record K)) (new : Record K) → Added m line (sheet_of b ls) w r s w'
      → Recorded m (sheet_of b ls) w → records m b ls ≡ Ok rs → rule m b rs line ≡ Ok new → 64 ≤ length w → length ls < 64 → s ≡ sheet_of b (ls ++ line ∷ [])
  added_sheet ls line w w' r s rs new h ruled er el enough few = h.sheet ∙ ap (grown (sheet_of b ls) line) (h.makes.ruled ruled ∙ is)
    where
      is : next m (sheet_of b ls) (length w) (take (length ls) w) line ≡ Ok new
      is = rw (le-ltb (length w) 64 enough, ne_eqb (length ls) 64 (λ e. omega (arith, few, e)))
          (ap (λ rs. rule m b rs line) (ok_is (sym ruled ∙ er)) ∙ el)

  -- the fresh sheet holds the lines
  fresh_sheet : Proper b → {ls : List Line} {h : History} → Freshly b ls h → (rs : List (Record K)) → length ls ≤ 64 → records m b ls ≡ Ok rs
      → (s : Contents) (memory : List (Record K)) → Run m h s memory → s ≡ sheet_of b ls
  fresh_sheet p (opens {e} is) rs few er s memory run = run.sheet ∙ opened_sheet p run.from run.to e.answer e.call is run.made
  fresh_sheet p (adds {ls} {h} {e} line f is enough) rs few er s memory run =
      let n = length-append ls (line ∷ []) in
      let k = last m b ls line rs er in
      let before = fresh_sheet p f k.0 (omega arith) k.2 run.from.sheet (run.from.working ++ run.rest) run.before in
      let c = core m h run.from.sheet (run.from.working ++ run.rest) run.before in
      let all : Recorded m (sheet_of b ls) (run.from.working ++ run.rest) = subst (λ s. Recorded m s (run.from.working ++ run.rest)) (sym c.0 ∙ before) c.1.ruled in
      let lent : 64 ≤ length run.from.working = subst (λ n. 64 ≤ n) run.working enough in
      let made = subst (Made m run.from run.to e.answer) is run.made in
      let added = subst (λ s. Added m line s run.from.working made.0 run.to.sheet run.to.working) before made.2 in
      let ruled = all ∙ ap Ok (take-append-le (length ls) run.from.working run.rest (omega arith)) in
      run.sheet ∙ added_sheet ls line run.from.working run.to.working made.0 run.to.sheet k.0 k.1 added ruled k.2 k.3 lent (omega arith)

pub fresh_is : {K : Type 0} (m : Model K) (b : Box) (ls : List Line) (memory : List (Record K)) → Good m b ls memory
    → (h' : History) (s' : Contents) (memory' : List (Record K)) → Freshly b ls h' → Run m h' s' memory' → (s' ≡ sheet_of b ls) × (take (length ls) memory' ≡ take (length ls) memory)
fresh_is m b ls memory g h' s' memory' f run =
    let held = fresh_sheet m b g.proper f (take (length ls) memory) g.few g.ruled s' memory' run in
    let c = core m h' s' memory' run in
    (held, ok_is (sym (subst (λ s. Recorded m s memory') (sym c.0 ∙ held) c.1.ruled) ∙ g.ruled))
