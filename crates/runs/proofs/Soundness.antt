-- The law over runs, put together.
use Rattle.std.proofs.Common.{List, [], ◌∷◌, ◌++◌, length, take, Result, sym, refl, subst}
use Rattle.kind.specs.Model.{Model, Rules}
use Rattle.runs.proofs.Again.{again_is}
use Rattle.runs.proofs.Due.{due_is}
use Rattle.runs.proofs.Enclosing.{encloses_is, tells_is}
use Rattle.runs.proofs.Fresh.{fresh_is}
use Rattle.runs.proofs.Kept.{core}
use Rattle.runs.proofs.Taken.{fresh_exists}
use Rattle.runs.specs.Events.{History, held, present}
use Rattle.runs.specs.Law.{Answers, GoesOn, RunsSound, Sound}
use Rattle.runs.specs.Runs.{Goes, Made, Run, State, event}
use Rattle.runs.specs.declared.call.Answer.{Answer}
use Rattle.runs.specs.declared.call.Call.{Call}
use Rattle.fault.specs.declared.fault.Fault.{Fault}
use Rattle.sheet.specs.Contents.{Contents}
use Rattle.slope.specs.declared.record.Record.{Record}

module _ {K : Type 0} (m : Model K) (keeps : Rules m) where
  answers_are : (h : History) (s : Contents) (memory : List (Record K)) → Run m h s memory → Answers m h
  answers_are [] s memory r = tt
  answers_are (e ∷ h) s memory r =
      let w = r.from.working ++ r.rest in
      let k = core m h r.from.sheet w r.before in
      let d = due_is m (present h) (held h) e r.from r.to r.rest k.0 k.1 r.made r.working r.spare r.out in
      (answers_are h r.from.sheet w r.before, d, encloses_is m keeps (present h) (held h) w e k.1 d)

  pub runs_sound : RunsSound m
  runs_sound h s memory r =
      let k = core m h s memory r in
      let b = present h in
      let ls = held h in
      subst (λ s. Sound m h s memory) (sym k.0) (record {
        sheet = refl;
        few = k.1.few;
        truth = tells_is m keeps b ls memory k.1;
        answers = answers_are h s memory r;
        records = k.1.ruled;
        taken = fresh_exists m b k.1.proper ls (take (length ls) memory) k.1.ruled k.1.few;
        fresh = fresh_is m b ls memory k.1;
        again = again_is m b ls memory k.1;
      })

  -- a call that was made goes on from every run
  pub goes_on : (c : Call) (x y : State K) (a : Result Answer Fault) → Made m x y a c → GoesOn m (event c x a) x y
  goes_on c x y a h t rest r =
      let more : Goes m (event c x a) (Run m t) y.sheet (y.working ++ rest) = record { from = x; to = y; rest = rest; before = r; made = h; working = refl; spare = refl; out = refl; sheet = refl; left = refl } in
      (more, runs_sound (event c x a ∷ t) y.sheet (y.working ++ rest) more)
