-- What a sheet writes is read as its lines, with their records, by an empty sheet over the same box.
use Rattle.std.proofs.Common.{◌≡◌, ℕ, zero, suc, ◌<◌, ◌≤◌, ◌==◌, nat_lt, List, [], length, take, drop, Ok, Result, sym, refl, ap, ap₂, ◌∙◌, subst, arith}
use Rattle.std.proofs.Math.Seq.{take-append_seam}
use Rattle.std.proofs.lemmas.Bool.{eqb-false}
use Rattle.boxes.proofs.Accepted.{ok_unless}
use Rattle.boxes.specs.Boxes.{Box}
use Rattle.fault.proofs.Steps.{ok_is}
use Rattle.fault.specs.declared.fault.Fault.{Fault}
use Rattle.kind.specs.Model.{Model}
use Rattle.line.specs.declared.line.Line.{Line}
use Rattle.runs.proofs.Good.{Good}
use Rattle.runs.proofs.Lists.{lengths}
use Rattle.runs.specs.Law.{sheet_of}
use Rattle.sheet.proofs.ReadFormula.{empty}
use Rattle.sheet.proofs.Trips.{read_trips}
use Rattle.sheet.specs.Calls.{Written}
use Rattle.sheet.specs.Contents.{Contents}
use Rattle.sheet.specs.Reading.{Read, filled, overlaid, read_formula}
use Rattle.slope.specs.declared.record.Record.{Record}
use Rattle.writer.specs.Writing.{formula_bytes, needed}

-- lines that were written are some, and the answer counts their bytes
needed_ok : (ls : List Line) (out : List ℕ) (n : ℕ) → needed ls out ≡ Ok n → (0 < length ls) × (length (formula_bytes ls) ≡ n)
needed_ok ls out n e =
    let some = ok_unless (length ls == 0) _ _ e in
    let few = ok_unless (nat_lt 64 (length ls)) _ _ some.1 in
    let room = ok_unless (nat_lt (length out) (length (formula_bytes ls))) _ _ few.1 in
    (above (length ls) (eqb-false (length ls) 0 some.0), ok_is room.1)
  where
    above : (k : ℕ) → (k ≡ 0 → ⊥) → 0 < k
    above zero h = absurd (h refl)
    above (suc k) h = omega arith

-- the bytes that were written are those of the lines
bytes_are : (ls : List Line) (b : Box) (out out' : List ℕ) (n : ℕ) → Written (sheet_of b ls) out (Ok n) out' → take n out' ≡ formula_bytes ls
bytes_are ls b out out' n h =
    ap₂ take (sym (needed_ok ls out n (sym h.answer)).1) h.bytes ∙ take-append_seam (formula_bytes ls) (drop (length (formula_bytes ls)) out)

pub again_is : {K : Type 0} (m : Model K) (b : Box) (ls : List Line) (memory : List (Record K)) → Good m b ls memory → (out out' : List ℕ) (n : ℕ) → Written (sheet_of b ls) out (Ok n) out'
    → (t t' : Contents) (w w' : List (Record K)) (r : Result (Unit {0}) Fault) → t.over ≡ b → t.lines ≡ [] → 64 ≤ length w → Read m (take n out') t w r t' w'
    → (r ≡ Ok tt) × (t' ≡ sheet_of b ls) × (take (length ls) w' ≡ take (length ls) memory)
again_is m b ls memory g out out' n wrote t t' w w' r over none lent h =
    let rs = take (length ls) memory in
    let bytes = bytes_are ls b out out' n wrote in
    let there = (read_trips m).there b ls rs g.proper.few (needed_ok ls out n (sym wrote.answer)).0 g.few g.ruled in
    let q = empty m t w (take n out') lent (ap length none) ∙ ap₂ (read_formula m) over bytes ∙ there in
    let taken : r ≡ Ok tt = h.answer ∙ ap (λ o. o.answer) q in
    let all = lengths m b [] ls rs g.ruled in
    let size : length rs ≡ length ls = omega arith in (
      taken,
      h.sheet ∙ ap₂ (λ r o. filled t r o.lines) taken q ∙ ap (λ b. sheet_of b ls) over,
      ap (take (length ls)) (h.records ∙ ap (λ o. overlaid o.records w) q) ∙ subst (λ k. take k (overlaid rs w) ≡ rs) size (take-append_seam rs (drop (length rs) w)),
    )
