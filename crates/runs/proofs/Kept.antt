-- Each call keeps that the sheet holds the present box and the held lines, and that the memory begins with their records.
use Rattle.std.proofs.Common.{◌≡◌, ℕ, ◌+◌, ◌-◌, ◌<◌, ◌≤◌, ◌==◌, Bool, true, false, cond, nat_lt, List, [], ◌∷◌, ◌++◌, length, take, drop, set, Ok, Err, Result, sym, refl, ap, ◌∙◌, subst, arith, append_assoc, length-append, length-set, length-take-le, take_all}
use Rattle.std.proofs.Math.Seq.{take-append_seam}
use Rattle.std.proofs.lemmas.Bool.{eqb-false, eqb-true, ltb-false, ltb-true}
use Rattle.std.proofs.lemmas.List.{take-append-le, take_more_set}
use Rattle.std.specs.Borrow.{Bor}
use Rattle.boxes.proofs.Proper.{blank_proper, moved_is, moved_proper, opened_is, opened_proper}
use Rattle.boxes.specs.Boxes.{Box, Proper, opened}
use Rattle.fault.proofs.Steps.{err_ok}
use Rattle.fault.specs.Refusals.{refused}
use Rattle.fault.specs.declared.fault.Cause.TheVariants.{Full, Lines, NoLine}
use Rattle.fault.specs.declared.fault.Fault.{Fault}
use Rattle.kind.specs.Model.{Model}
use Rattle.line.specs.declared.line.Line.{Line}
use Rattle.rule.specs.Fit.{Judged, fit}
use Rattle.rule.specs.Records.{records}
use Rattle.rule.specs.Rule.{rule}
use Rattle.runs.proofs.Good.{Good}
use Rattle.runs.proofs.Inverse.{formula_ok, move_ok, new_ok, read_made, read_ok}
use Rattle.runs.proofs.Lists.{grow, lengths, shorten, take_shorter}
use Rattle.runs.specs.Events.{History, box_after, held, lines_after, lines_given, present}
use Rattle.runs.specs.Law.{sheet_of}
use Rattle.runs.specs.Runs.{Made, Run, State, accepted, handed}
use Rattle.runs.specs.declared.call.Answer.{Answer}
use Rattle.runs.specs.declared.call.Answer.TheVariants as answers
use Rattle.runs.specs.declared.call.Call.{Call}
use Rattle.runs.specs.declared.call.Call.TheVariants as calls
use Rattle.runs.specs.declared.call.Moving.{Moving}
use Rattle.runs.specs.declared.call.Opening.{Opening}
use Rattle.rule.specs.Placed.{accepts, stored}
use Rattle.sheet.specs.Calls.{Added, Opened, Recorded, Struck, grown, numbered, reopened}
use Rattle.sheet.specs.Contents.{Contents}
use Rattle.sheet.specs.Moving.{Moved, move_onto, new_box, renewed, shifted}
use Rattle.sheet.specs.Reading.{Outcome, Read, filled, overlaid, read_onto}
use Rattle.slope.specs.declared.record.Record.{Record}

module _ {K : Type 0} (m : Model K) where
  pub record Kept (c : Call) (a : Result Answer Fault) (b : Box) (ls : List Line) (s : Contents) (memory : List (Record K)) : Type 0 where
    pub sheet : s ≡ sheet_of (box_after b c a) (lines_after ls c a)
    pub good : Good m (box_after b c a) (lines_after ls c a) memory

  -- new records in front of the memory
  front_is : (rs w rest : List (Record K)) (n : ℕ) → length rs ≡ n → take n (overlaid rs w ++ rest) ≡ rs
  front_is rs w rest n e = subst (λ k. take k (overlaid rs w ++ rest) ≡ rs) e (ap (take (length rs)) (append_assoc rs (drop (length rs) w) rest) ∙ take-append_seam rs (drop (length rs) w ++ rest))

  module _ (b : Box) (ls : List Line) (memory : List (Record K)) (g : Good m b ls memory) where
    opens : (o : Opening) (a : Result Answer Fault) (r : Result (Unit {0}) Fault) (s : Contents) → a ≡ accepted r → Opened o.lower.now o.upper.now o.swept o.centre (sheet_of b ls) r s → Kept (calls.Open o) a b ls s memory
    opens o a r s ea h = go (opened o.lower.now o.upper.now o.swept o.centre) refl h.answer h.sheet
      where
        go : (O : Result Box Fault) → opened o.lower.now o.upper.now o.swept o.centre ≡ O → r ≡ accepts O → s ≡ reopened (sheet_of b ls) O → Kept (calls.Open o) a b ls s memory
        go (Ok to) e er es = subst (λ a. Kept (calls.Open o) a b ls s memory) (sym (ea ∙ ap accepted er)) (record {
          sheet = es ∙ ap (λ x. sheet_of x []) (opened_is o.lower.now o.upper.now o.swept o.centre e);
          good = record { proper = subst Proper (opened_is o.lower.now o.upper.now o.swept o.centre e) (opened_proper o.lower.now o.upper.now o.swept o.centre e); few = omega arith; ruled = refl };
        })
        go (Err f) e er es = subst (λ a. Kept (calls.Open o) a b ls s memory) (sym (ea ∙ ap accepted er)) (record { sheet = es; good = g })

    strikes_on : (a : Result Answer Fault) (r : Result (Unit {0}) Fault) (s : Contents) → a ≡ accepted r → Struck (sheet_of b ls) r s → Kept calls.Strike a b ls s memory
    strikes_on a r s ea h = go (length ls == 0) refl
      where
        shorter : (k : ℕ) → k ≤ length ls → Good m b (take k ls) memory
        shorter k j = let n = length-take-le k ls j in record {
          proper = g.proper;
          few = let f = g.few in omega arith;
          ruled = shorten m b k ls (take (length ls) memory) j g.ruled ∙ ap Ok (take_shorter k (length ls) memory j ∙ ap (λ i. take i memory) (sym n));
        }

        kept : (t : Bool) → (length ls == 0) ≡ t → Kept calls.Strike (accepted (cond t (refused NoLine 0) (Ok tt))) b ls s memory → Kept calls.Strike a b ls s memory
        kept t e k = subst (λ a. Kept calls.Strike a b ls s memory) (sym (ea ∙ ap accepted (h.answer ∙ ap (λ t. cond t (refused NoLine 0) (Ok tt)) e))) k

        go : (t : Bool) → (length ls == 0) ≡ t → Kept calls.Strike a b ls s memory
        go true e = let n = eqb-true (length ls) 0 e in kept true e (record { sheet = h.sheet ∙ ap (sheet_of b) (take_all (length ls - 1) ls (omega arith)); good = g })
        go false e = kept false e (record { sheet = h.sheet; good = shorter (length ls - 1) (omega arith) })

  below : (n k : ℕ) → n ≤ k → (n ≡ k → ⊥) → n < k
  below n k h d = go (nat_lt n k) refl
    where
      go : (t : Bool) → nat_lt n k ≡ t → n < k
      go true e = ltb-true n k e
      go false e = let f = ltb-false n k e in absurd (d (omega arith))

  module _ (b : Box) (ls : List Line) (w rest : List (Record K)) (g : Good m b ls (w ++ rest)) where
    -- enough lines that are lent have the records
    lent : 64 ≤ length w → Recorded m (sheet_of b ls) w
    lent h = g.ruled ∙ ap Ok (take-append-le (length ls) w rest (let f = g.few in omega arith))

    adds : (line : Line) (a : Result Answer Fault) (r : Result ℕ Fault) (s : Contents) (w' : List (Record K)) → a ≡ handed answers.Line r → Added m line (sheet_of b ls) w r s w' → Kept (calls.Add line) a b ls s (w' ++ rest)
    adds line a r s w' ea h = go h.made refl
      where
        made_from : (x : Record K) → h.made ≡ Ok x → (64 ≤ length w) × (length ls ≤ 63) × (rule m b (take (length ls) w) line ≡ Ok x)
        made_from x e = enough (nat_lt (length w) 64) refl
          where
            full : 64 ≤ length w → (t : Bool) → (length ls == 64) ≡ t → cond t (refused Full 64) (rule m b (take (length ls) w) line) ≡ Ok x → (64 ≤ length w) × (length ls ≤ 63) × (rule m b (take (length ls) w) line ≡ Ok x)
            full k true i q = absurd (err_ok q)
            full k false i q = let n = below (length ls) 64 g.few (eqb-false (length ls) 64 i) in (k, omega arith, q)

            enough : (t : Bool) → nat_lt (length w) 64 ≡ t → (64 ≤ length w) × (length ls ≤ 63) × (rule m b (take (length ls) w) line ≡ Ok x)
            enough true k = absurd (err_ok (sym (subst (λ t. Judged (length ls) (cond t (refused Lines 0) (cond (length ls == 64) (refused Full 64) (fit b (length ls) line))) h.made) k h.makes.judged) ∙ e))
            enough false k = let more = ltb-false (length w) 64 k in
                full more (length ls == 64) refl (sym (subst (λ t. h.made ≡ cond t (refused Lines 0) (cond (length ls == 64) (refused Full 64) (rule m b (take (length ls) w) line))) k (h.makes.ruled (lent more))) ∙ e)

        longer : (x : Record K) → h.made ≡ Ok x → Good m b (ls ++ line ∷ []) (w' ++ rest)
        longer x e =
            let k = made_from x e in let more = k.0 in let few = k.1 in
            let n = length-append ls (line ∷ []) in let l = length-set w (length ls) x in
            record {
              proper = g.proper;
              few = omega arith;
              ruled = grow m b ls (take (length ls) w) line x (lent k.0) k.2 ∙ ap Ok (sym (ap (λ v. take (length (ls ++ line ∷ [])) (v ++ rest)) (h.records ∙ ap (stored w (length ls)) e)
                  ∙ ap (λ i. take i (set w (length ls) x ++ rest)) n ∙ take-append-le (length ls + 1) (set w (length ls) x) rest (omega arith) ∙ take_more_set w (length ls) x (omega arith)));
            }

        go : (made : Result (Record K) Fault) → h.made ≡ made → Kept (calls.Add line) a b ls s (w' ++ rest)
        go (Err f) e = subst (λ a. Kept (calls.Add line) a b ls s (w' ++ rest)) (sym (ea ∙ ap (handed answers.Line) (h.answer ∙ ap (numbered (length ls)) e)))
            (record { sheet = h.sheet ∙ ap (grown (sheet_of b ls) line) e; good = subst (λ v. Good m b ls (v ++ rest)) (sym (h.records ∙ ap (stored w (length ls)) e)) g })
        go (Ok x) e = subst (λ a. Kept (calls.Add line) a b ls s (w' ++ rest)) (sym (ea ∙ ap (handed answers.Line) (h.answer ∙ ap (numbered (length ls)) e))) (record {
          sheet = h.sheet ∙ ap (grown (sheet_of b ls) line) e;
          good = longer x e;
        })

    moves : (v : Moving) (a : Result Answer Fault) (r : Result (Unit {0}) Fault) (s : Contents) (w' p p' : List (Record K)) → a ≡ accepted r
        → Moved m v.channel v.lower v.upper v.centre (sheet_of b ls) w p r s w' p' → Kept (calls.Move v) a b ls s (w' ++ rest)
    moves v a r s w' p p' ea h = go r refl
      where
        M : Result Box Fault
        M = new_box (sheet_of b ls) (length w) (length p) v.channel v.lower v.upper v.centre

        kept : (x : Result (Unit {0}) Fault) → r ≡ x → Kept (calls.Move v) (accepted x) b ls s (w' ++ rest) → Kept (calls.Move v) a b ls s (w' ++ rest)
        kept x e k = subst (λ a. Kept (calls.Move v) a b ls s (w' ++ rest)) (sym (ea ∙ ap accepted e)) k

        stays : (f : Fault) (M : Result Box Fault) → shifted (sheet_of b ls) M (Err f) ≡ sheet_of b ls
        stays f (Ok x) = refl
        stays f (Err x) = refl

        go : (x : Result (Unit {0}) Fault) → r ≡ x → Kept (calls.Move v) a b ls s (w' ++ rest)
        go (Err f) e = kept (Err f) e (record {
          sheet = h.sheet ∙ ap (shifted (sheet_of b ls) M) e ∙ stays f M;
          good = subst (λ u. Good m b ls (u ++ rest)) (sym (h.working ∙ ap (λ x. renewed x (move_onto m (sheet_of b ls) M).records w) e)) g;
        })
        go (Ok u) e =
            let k = move_ok m (sheet_of b ls) M (sym h.answer ∙ e) in
            let q = new_ok (sheet_of b ls) (length w) (length p) v.channel v.lower v.upper v.centre k.1 in
            let is = moved_is b v.channel v.lower v.upper v.centre q in
            kept (Ok u) e (record {
              sheet = h.sheet ∙ ap (shifted (sheet_of b ls) M) e ∙ ap (λ x. shifted (sheet_of b ls) x (Ok tt)) k.1 ∙ ap (λ x. sheet_of x ls) is;
              good = subst (λ x. Good m x ls (w' ++ rest)) is (record {
                proper = moved_proper b v.channel v.lower v.upper v.centre q g.proper;
                few = g.few;
                ruled = k.2 ∙ ap Ok (sym (ap (λ u. take (length ls) (u ++ rest)) (h.working ∙ ap (λ x. renewed x (move_onto m (sheet_of b ls) M).records w) e) ∙ front_is (move_onto m (sheet_of b ls) M).records w rest (length ls) (let n = lengths m k.0 [] ls (move_onto m (sheet_of b ls) M).records k.2 in omega arith)));
              });
            })

    reads : (bytes : Bor (List ℕ)) (a : Result Answer Fault) (r : Result (Unit {0}) Fault) (s : Contents) (w' : List (Record K)) → a ≡ accepted r → Read m bytes.now (sheet_of b ls) w r s w' → Kept (calls.Read bytes) a b ls s (w' ++ rest)
    reads bytes a r s w' ea h = go r refl
      where
        onto : Outcome K
        onto = read_onto m (sheet_of b ls) (length w) bytes.now

        kept : (x : Result (Unit {0}) Fault) → r ≡ x → Kept (calls.Read bytes) (accepted x) b ls s (w' ++ rest) → Kept (calls.Read bytes) a b ls s (w' ++ rest)
        kept x e k = subst (λ a. Kept (calls.Read bytes) a b ls s (w' ++ rest)) (sym (ea ∙ ap accepted e)) k

        refused_on : (xs : List Line) → ls ≡ xs → Good m b ls (w' ++ rest)
        refused_on [] e = subst (λ xs. Good m b xs (w' ++ rest)) (sym e) (record { proper = g.proper; few = omega arith; ruled = refl })
        refused_on (x ∷ xs) e = let n = ap length e in
            subst (λ u. Good m b ls (u ++ rest)) (sym (h.records ∙ ap (λ rs. overlaid rs w) (read_made m (sheet_of b ls) (length w) bytes.now (omega arith)))) g

        all : records m b onto.lines ≡ Ok onto.records → records m b onto.lines ≡ Ok (take (length onto.lines) (w' ++ rest))
        all q = q ∙ ap Ok (sym (ap (λ u. take (length onto.lines) (u ++ rest)) h.records ∙ front_is onto.records w rest (length onto.lines) (let n = lengths m b [] onto.lines onto.records q in omega arith)))

        go : (x : Result (Unit {0}) Fault) → r ≡ x → Kept (calls.Read bytes) a b ls s (w' ++ rest)
        go (Err f) e = kept (Err f) e (record { sheet = h.sheet ∙ ap (λ x. filled (sheet_of b ls) x onto.lines) e; good = refused_on ls refl })
        go (Ok u) e =
            let q = sym h.answer ∙ e in
            let k = read_ok m (sheet_of b ls) (length w) bytes.now q in
            let o = formula_ok m b bytes.now (sym (ap (λ o. o.answer) k.2) ∙ q) in
            let is = ap (λ o. o.lines) k.2 ∙ o.0 ∙ sym (ap (λ xs. xs ++ lines_given bytes.now) k.0) in
            kept (Ok u) e (record {
              sheet = h.sheet ∙ ap (λ x. filled (sheet_of b ls) x onto.lines) e ∙ ap (sheet_of b) is;
              good = subst (λ xs. Good m b xs (w' ++ rest)) is (record {
                proper = g.proper;
                few = subst (λ x. length x.lines ≤ 64) (sym k.2) o.2;
                ruled = all (subst (λ x. records m b x.lines ≡ Ok x.records) (sym k.2) o.1);
              });
            })

  -- ---- any call
  pub step : (b : Box) (ls : List Line) (x y : State K) (rest : List (Record K)) (c : Call) (a : Result Answer Fault) → x.sheet ≡ sheet_of b ls → Good m b ls (x.working ++ rest) → Made m x y a c → Kept c a b ls y.sheet (y.working ++ rest)
  step b ls x y rest (calls.Open o) a es g h = subst (λ u. Kept (calls.Open o) a b ls y.sheet (u ++ rest)) (sym h.3)
      (opens b ls (x.working ++ rest) g o a h.0 y.sheet h.1 (subst (λ s. Opened o.lower.now o.upper.now o.swept o.centre s h.0 y.sheet) es h.2))
  step b ls x y rest (calls.Add line) a es g h = adds b ls x.working rest g line a h.0 y.sheet y.working h.1 (subst (λ s. Added m line s x.working h.0 y.sheet y.working) es h.2)
  step b ls x y rest calls.Strike a es g h = subst (λ u. Kept calls.Strike a b ls y.sheet (u ++ rest)) (sym h.3)
      (strikes_on b ls (x.working ++ rest) g a h.0 y.sheet h.1 (subst (λ s. Struck s h.0 y.sheet) es h.2))
  step b ls x y rest (calls.Move v) a es g h =
      moves b ls x.working rest g v a h.0 y.sheet y.working x.spare y.spare h.1 (subst (λ s. Moved m v.channel v.lower v.upper v.centre s x.working x.spare h.0 y.sheet y.working y.spare) es h.2)
  step b ls x y rest (calls.Read bytes) a es g h = reads b ls x.working rest g bytes a h.0 y.sheet y.working h.1 (subst (λ s. Read m bytes.now s x.working h.0 y.sheet y.working) es h.2)
  step b ls x y rest calls.Write a es g h = record { sheet = h.3 ∙ es; good = subst (λ u. Good m b ls (u ++ rest)) (sym h.4) g }
  step b ls x y rest (calls.Report line) a es g h = record { sheet = h.3 ∙ es; good = subst (λ u. Good m b ls (u ++ rest)) (sym h.4) g }

  -- only the first 64 lines of the memory count
  same_front : (b : Box) (ls : List Line) (memory other : List (Record K)) → take 64 memory ≡ take 64 other → Good m b ls memory → Good m b ls other
  same_front b ls memory other e g = record {
    proper = g.proper;
    few = g.few;
    ruled = g.ruled ∙ ap Ok (sym (take_shorter (length ls) 64 memory g.few) ∙ ap (take (length ls)) e ∙ take_shorter (length ls) 64 other g.few);
  }

  -- the sheet holds the present box and the held lines, and the memory begins with their records
  pub core : (h : History) (s : Contents) (memory : List (Record K)) → Run m h s memory → (s ≡ sheet_of (present h) (held h)) × Good m (present h) (held h) memory
  core [] s memory e = (e, record { proper = blank_proper; few = omega arith; ruled = refl })
  core (e ∷ h) s memory r =
      let k = core h r.from.sheet (r.from.working ++ r.rest) r.before in
      let j = step (present h) (held h) r.from r.to r.rest e.call e.answer k.0 k.1 r.made in
      (r.sheet ∙ j.sheet, same_front (present (e ∷ h)) (held (e ∷ h)) (r.to.working ++ r.rest) memory (sym r.left) j.good)
