-- There is a fresh sheet that takes the lines.
use Rattle.std.proofs.Common.{◌≡◌, ◌<◌, ◌≤◌, List, [], ◌∷◌, ◌++◌, length, take, set, Ok, sym, refl, ap, ◌∙◌, subst, arith, append-nil, append_assoc, length-append, length-set}
use Rattle.std.proofs.lemmas.Bool.{le-ltb, ne_eqb}
use Rattle.std.specs.Borrow.{Bor}
use Rattle.boxes.proofs.Reopened.{reopens}
use Rattle.boxes.specs.Boxes.{Box, Proper}
use Rattle.fault.proofs.Steps.{after_ok, ok_is}
use Rattle.kind.specs.Model.{Model}
use Rattle.line.specs.declared.line.Line.{Line}
use Rattle.rule.specs.Records.{records, records_from}
use Rattle.rule.specs.Rule.{rule}
use Rattle.runs.proofs.Kept.{core}
use Rattle.runs.proofs.Lists.{grow}
use Rattle.runs.specs.Events.{Event, History}
use Rattle.runs.specs.Law.{FreshRun, Freshly, sheet_of}
use Rattle.runs.specs.Law.Freshly.{adds, opens}
use Rattle.runs.specs.Runs.{Goes, Run, accepted, handed, state}
use Rattle.runs.specs.declared.call.Answer.TheVariants as answers
use Rattle.runs.specs.declared.call.Call.TheVariants as calls
use Rattle.runs.specs.declared.call.Opening.{Opening}
use Rattle.sheet.proofs.Made.{makes}
use Rattle.rule.specs.Placed.{accepts}
use Rattle.sheet.specs.Calls.{Makes, next, reopened}
use Rattle.sheet.specs.Contents.{blank}
use Rattle.slope.specs.declared.record.Record.{Record}

abbrev lend : {X : Type 0} → X → Bor X
lend x = record { ref_ptr = (0, 0); now = x }

module _ {K : Type 0} (m : Model K) (b : Box) where
  abbrev opening : Opening
  opening = record { lower = lend b.lower; upper = lend b.upper; swept = b.swept; centre = b.centre }

  -- a fresh sheet holds these lines, with enough memory for more
  record Fresh (ls : List Line) : Type 0 where
    pub h : History
    pub memory : List (Record K)
    pub fresh : Freshly b ls h
    pub run : Run m h (sheet_of b ls) memory
    pub lent : 64 ≤ length memory

  first : Proper b → (memory : List (Record K)) → 64 ≤ length memory → Fresh []
  first p memory n =
      let e : Event = record { call = calls.Open opening; working = length memory; spare = 0; out = []; answer = accepted (Ok tt) } in
      let go : Goes m e (Run m []) (sheet_of b []) memory = record {
        from = state blank memory [] [];
        to = state (sheet_of b []) memory [] [];
        rest = [];
        before = refl;
        made = (Ok tt, refl, record { answer = ap accepts (sym (reopens b p)); sheet = ap (reopened blank) (sym (reopens b p)) }, refl, refl, refl);
        working = refl;
        spare = refl;
        out = refl;
        sheet = refl;
        left = ap (take 64) (sym (append-nil memory));
      } in
      record { h = e ∷ []; memory = memory; fresh = opens {e = e} (refl, refl, refl, refl); run = go; lent = n }

  more : (ls : List Line) (l : Line) (rs : List (Record K)) (x : Record K) → records m b ls ≡ Ok rs → rule m b rs l ≡ Ok x → length ls < 64 → Fresh ls → Fresh (ls ++ l ∷ [])
  more ls l rs x er el few f =
      let c = core m f.h (sheet_of b ls) f.memory f.run in
      let same : take (length ls) f.memory ≡ rs = ok_is (sym (subst (λ s. records m s.over s.lines ≡ Ok (take (length s.lines) f.memory)) (sym c.0) c.1.ruled) ∙ er) in
      let is : next m (sheet_of b ls) (length f.memory) (take (length ls) f.memory) l ≡ Ok x =
      rw (le-ltb (length f.memory) 64 f.lent, ne_eqb (length ls) 64 (λ e. omega (arith, few, e))) (ap (λ rs. rule m b rs l) same ∙ el) in
      let e : Event = record { call = calls.Add l; working = length f.memory; spare = 0; out = []; answer = handed answers.Line (Ok (length ls)) } in
      let k = length-set f.memory (length ls) x in
      let go : Goes m e (Run m f.h) (sheet_of b (ls ++ l ∷ [])) (set f.memory (length ls) x) = record {
        from = state (sheet_of b ls) f.memory [] [];
        to = state (sheet_of b (ls ++ l ∷ [])) (set f.memory (length ls) x) [] [];
        rest = [];
        before = subst (Run m f.h (sheet_of b ls)) (sym (append-nil f.memory)) f.run;
        made = (Ok (length ls), refl, record { made = Ok x; makes = subst (Makes m (sheet_of b ls) f.memory l) is (makes m (sheet_of b ls) f.memory l (omega (arith, few))); answer = refl; sheet = refl; records = refl }, refl, refl);
        working = refl;
        spare = refl;
        out = refl;
        sheet = refl;
        left = ap (take 64) (sym (append-nil (set f.memory (length ls) x)));
      } in
      record { h = e ∷ f.h; memory = set f.memory (length ls) x; fresh = adds {ls = ls} {h = f.h} {e = e} l f.fresh refl f.lent; run = go; lent = let n = f.lent in omega arith }

  all : (done ls : List Line) (rs made : List (Record K)) → records m b done ≡ Ok rs → records_from m b rs ls ≡ Ok made → length (done ++ ls) ≤ 64 → Fresh done → Fresh (done ++ ls)
  all done [] rs made ed es few f = subst Fresh (sym (append-nil done)) f
  all done (l ∷ ls) rs made ed es few f = after_ok _ (rule m b rs l) _ made es (λ x ex q.
      let n = length-append done (l ∷ ls) in
      subst Fresh (append_assoc done (l ∷ []) ls) (all (done ++ l ∷ []) ls (rs ++ x ∷ []) made (grow m b done rs l x ed ex) q (subst (λ zs. length zs ≤ 64) (sym (append_assoc done (l ∷ []) ls)) few) (more done l rs x ed ex (omega arith) f)))

  pub fresh_exists : Proper b → (ls : List Line) (rs : List (Record K)) → records m b ls ≡ Ok rs → length ls ≤ 64 → (memory : List (Record K)) → 64 ≤ length memory → FreshRun m (sheet_of b ls)
  fresh_exists p ls rs e few memory n = let f = all [] ls [] rs refl e few (first p memory n) in record { history = f.h; memory = f.memory; freshly = f.fresh; run = f.run }
