-- The answer of a call is the one that is due.
use Rattle.std.proofs.Common.{◌≡◌, ◌==◌, ℕ, ◌≤◌, Bool, true, false, cond, nat_lt, List, ◌++◌, length, take, Ok, Result, sym, refl, ap, ◌∙◌, subst, arith}
use Rattle.std.proofs.lemmas.Bool.{ltb-false}
use Rattle.std.proofs.lemmas.List.{take-append-le}
use Rattle.std.specs.List.{slice_get}
use Rattle.boxes.specs.Boxes.{Box}
use Rattle.fault.specs.Refusals.{after, found, refused}
use Rattle.fault.specs.declared.fault.Cause.TheVariants.{Full, Lines, NoLine}
use Rattle.fault.specs.declared.fault.Fault.{Fault}
use Rattle.kind.specs.Model.{Model}
use Rattle.line.specs.declared.line.Line.{Line}
use Rattle.report.specs.Reports.{reported}
use Rattle.report.specs.declared.answer.Report.{Report}
use Rattle.rule.specs.Fit.{Judged, fit}
use Rattle.rule.specs.Rule.{rule}
use Rattle.runs.proofs.Good.{Good}
use Rattle.runs.specs.Events.{Event}
use Rattle.runs.specs.Law.{due, sheet_of}
use Rattle.runs.specs.Runs.{Made, State, accepted, handed}
use Rattle.runs.specs.declared.call.Answer.{Answer}
use Rattle.runs.specs.declared.call.Answer.TheVariants as answers
use Rattle.runs.specs.declared.call.Call.{Call}
use Rattle.runs.specs.declared.call.Call.TheVariants as calls
use Rattle.sheet.specs.Calls.{Answered, Makes, Reported, next, numbered, report, strikes}
use Rattle.sheet.specs.Moving.{move_onto, new_box}
use Rattle.sheet.specs.Reading.{read_onto}
use Rattle.slope.specs.declared.record.Record.{Record}
use Rattle.writer.specs.Writing.{needed}

module _ {K : Type 0} (m : Model K) where
  module _ {b : Box} {ls : List Line} (w rest : List (Record K)) (g : Good m b ls (w ++ rest)) where
    -- enough lines that are lent hold the records
    lent : 64 ≤ length w → take (length ls) (w ++ rest) ≡ take (length ls) w
    lent h = take-append-le (length ls) w rest (let f = g.few in omega arith)

    -- a line is made by the rules alone
    made_is : (line : Line) (made : Result (Record K) Fault) → Makes m (sheet_of b ls) w line made → made ≡ next m (sheet_of b ls) (length w) (take (length ls) (w ++ rest)) line
    made_is line made h = go (nat_lt (length w) 64) refl
      where
        go : (t : Bool) → nat_lt (length w) 64 ≡ t → made ≡ next m (sheet_of b ls) (length w) (take (length ls) (w ++ rest)) line
        go true k = subst (λ t. Judged (length ls) (cond t (refused Lines 0) (cond (length ls == 64) (refused Full 64) (fit b (length ls) line))) made) k h.judged
            ∙ ap (λ t. cond t (refused Lines 0) (cond (length ls == 64) (refused Full 64) (rule m b (take (length ls) (w ++ rest)) line))) (sym k)
        go false k = let e = lent (ltb-false (length w) 64 k) in
            h.ruled (g.ruled ∙ ap Ok e) ∙ ap (λ rs. next m (sheet_of b ls) (length w) rs line) (sym e)

    -- and so is a report
    told_is : (line : ℕ) (r : Result Report Fault) → Reported m line (sheet_of b ls) w r → r ≡ report m (sheet_of b ls) (length w) (take (length ls) (w ++ rest)) line
    told_is line r h = go (nat_lt (length w) 64) refl
      where
        go : (t : Bool) → nat_lt (length w) 64 ≡ t → r ≡ report m (sheet_of b ls) (length w) (take (length ls) (w ++ rest)) line
        go true k = subst (λ t. Answered (cond t (refused Lines 0) (cond (nat_lt line (length ls)) (Ok tt) (refused NoLine line))) r) k h.judged
            ∙ ap (λ t. cond t (refused Lines 0) (after (found NoLine line (slice_get (take (length ls) (w ++ rest)) line)) (λ x. Ok (reported m b x)))) (sym k)
        go false k = let e = lent (ltb-false (length w) 64 k) in
            h.ruled (g.ruled ∙ ap Ok e) ∙ ap (λ rs. report m (sheet_of b ls) (length w) rs line) (sym e)

  module _ (b : Box) (ls : List Line) (e : Event) (x y : State K) (rest : List (Record K)) (es : x.sheet ≡ sheet_of b ls) (g : Good m b ls (x.working ++ rest))
      (ew : e.working ≡ length x.working) (ep : e.spare ≡ length x.spare) (eo : e.out ≡ x.out) where
    by_call : (c : Call) (a : Result Answer Fault) → Made m x y a c → a ≡ due m b ls e c
    by_call (calls.Open o) a h = h.1 ∙ ap accepted h.2.answer
    by_call (calls.Add line) a h =
        h.1 ∙ ap (handed answers.Line) (h.2.answer ∙ ap (λ s. numbered (length s.lines) h.2.made) es
        ∙ ap (numbered (length ls)) (made_is x.working rest g line h.2.made (subst (λ s. Makes m s x.working line h.2.made) es h.2.makes) ∙ ap (λ n. next m (sheet_of b ls) n (take (length ls) (x.working ++ rest)) line) (sym ew)))
        ∙ ap (λ z. after z (λ rs. handed answers.Line (numbered (length ls) (next m (sheet_of b ls) e.working rs line)))) (sym g.ruled)
    by_call calls.Strike a h = h.1 ∙ ap accepted (h.2.answer ∙ ap strikes es)
    by_call (calls.Move v) a h =
        h.1 ∙ ap accepted (h.2.answer ∙ ap (λ s. (move_onto m s (new_box s (length x.working) (length x.spare) v.channel v.lower v.upper v.centre)).answer) es
        ∙ ap (λ n. (move_onto m (sheet_of b ls) (new_box (sheet_of b ls) n (length x.spare) v.channel v.lower v.upper v.centre)).answer) (sym ew)
        ∙ ap (λ n. (move_onto m (sheet_of b ls) (new_box (sheet_of b ls) e.working n v.channel v.lower v.upper v.centre)).answer) (sym ep))
    by_call (calls.Read bytes) a h =
        h.1 ∙ ap accepted (h.2.answer ∙ ap (λ s. (read_onto m s (length x.working) bytes.now).answer) es ∙ ap (λ n. (read_onto m (sheet_of b ls) n bytes.now).answer) (sym ew))
    by_call calls.Write a h = h.1 ∙ ap (handed answers.Length) (h.2.answer ∙ ap (λ s. needed s.lines x.out) es ∙ ap (needed ls) (sym eo))
    by_call (calls.Report line) a h =
        h.1 ∙ ap (handed answers.Report) (told_is x.working rest g line h.0 (subst (λ s. Reported m line s x.working h.0) es h.2) ∙ ap (λ n. report m (sheet_of b ls) n (take (length ls) (x.working ++ rest)) line) (sym ew))
        ∙ ap (λ z. after z (λ rs. handed answers.Report (report m (sheet_of b ls) e.working rs line))) (sym g.ruled)

  pub due_is : (b : Box) (ls : List Line) (e : Event) (x y : State K) (rest : List (Record K)) → x.sheet ≡ sheet_of b ls → Good m b ls (x.working ++ rest) → Made m x y e.answer e.call
      → e.working ≡ length x.working → e.spare ≡ length x.spare → e.out ≡ x.out → e.answer ≡ due m b ls e e.call
  due_is b ls e x y rest es g h ew ep eo = by_call b ls e x y rest es g ew ep eo e.call e.answer h
