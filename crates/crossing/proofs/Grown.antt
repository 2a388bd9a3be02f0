-- What adding a line in memory makes of it, case by case.
use Rattle.std.proofs.Common.{◌≡◌, ℕ, ◌+◌, ◌<◌, ◌≤◌, ◌==◌, cond, nat_lt, List, [], ◌∷◌, ◌++◌, length, map, take, set, Ok, Result, refl, sym, ap, ◌∙◌, arith, length-set}
use Rattle.std.proofs.lemmas.Bool.{cond_above, cond_below, ne_eqb}
use Rattle.std.proofs.lemmas.List.{drop-set-lt, map-set}
use Rattle.std.proofs.Math.Seq.{take-set-lt}
use Rattle.boxes.specs.Boxes.{Box}
use Rattle.crossing.proofs.HeldIn.{few_lines, held_is, whole_is}
use Rattle.crossing.proofs.Lent.{all_lent, few_lent}
use Rattle.crossing.specs.Memory.{Beyond, records_in}
use Rattle.crossing.specs.Records.{record_of}
use Rattle.crossing.specs.Sheets.{box_in, lines_in, sheet_of}
use Rattle.crossing.specs.declared.memory.CMark.{CMark}
use Rattle.crossing.specs.declared.memory.CRecord.{CRecord}
use Rattle.crossing.specs.declared.memory.CSheet.{CSheet}
use Rattle.fault.specs.Refusals.{refused}
use Rattle.fault.specs.declared.fault.Cause.TheVariants.{Full, Lines}
use Rattle.fault.specs.declared.fault.Fault.{Fault}
use Rattle.kind.specs.Model.{Model}
use Rattle.line.specs.declared.line.Line.{Line}
use Rattle.rule.specs.Placed.{stored}
use Rattle.rule.specs.Rule.{rule}
use Rattle.sheet.proofs.Made.{makes}
use Rattle.sheet.specs.Calls.{Added, grown, next, numbered, with_line}
use Rattle.sheet.specs.Contents.{Contents}
use Rattle.slope.specs.declared.record.Record.{Record}

module _ (w : List CRecord) (i : ℕ) (r : CRecord) (h : i < 64) where
  pub put_in : {K : Type 0} (of : CMark → K) → records_in of (set w i r) ≡ set (records_in of w) i (record_of of r)
  put_in of = ap (map (record_of of)) (take-set-lt 64 w i r h) ∙ map-set (record_of of) (take 64 w) i r

  pub put_beyond : Beyond w (set w i r)
  put_beyond = record { long = length-set w i r; rest = drop-set-lt 64 w i r h }

module _ {K : Type 0} (m : Model K) (of : CMark → K) (line : Line) (w : List CRecord) where
  abbrev rs : List (Record K)
  rs = records_in of w

  abbrev made_on : Contents → Result (Record K) Fault
  made_on s = next m s (length rs) (take (length s.lines) rs) line

  pub too_few : length w < 64 → (s : Contents) → made_on s ≡ refused Lines 0
  too_few few s = sym (cond_below (length rs) 64 (refused Lines 0) _ (few_lent of w few))

  module _ (t : CSheet) where
    abbrev s : Contents
    s = sheet_of t

    pub added_by : (made : Result (Record K) Fault) → made_on s ≡ made → {r : Result ℕ Fault} {s' : Contents} {rs' : List (Record K)}
        → r ≡ numbered (length s.lines) made → s' ≡ grown s line made → rs' ≡ stored rs (length s.lines) made → Added m line s rs r s' rs'
    added_by made e p q h = record {
      made = made_on s;
      makes = makes m s rs line (few_lines t);
      answer = p ∙ ap (numbered (length s.lines)) (sym e);
      sheet = q ∙ ap (grown s line) (sym e);
      records = h ∙ ap (stored rs (length s.lines)) (sym e);
    }

    module _ (enough : 64 ≤ length w) {b : Box} (over : box_in t.over ≡ Ok b) (few : t.held ≤ 64) where
      lent_is : (x : Result (Record K) Fault) → cond (nat_lt (length rs) 64) (refused Lines 0) x ≡ x
      lent_is x = let n = all_lent of w enough in sym (cond_above (length rs) 64 (refused Lines 0) x x (omega (arith, n)) refl)

      by_count : (n : ℕ) → t.held ≡ n → made_on s ≡ cond (n == 64) (refused Full 64) (rule m b (take n rs) line)
      by_count n e = lent_is _
          ∙ ap (λ k. cond (k == 64) (refused Full 64) (rule m s.over (take k rs) line)) (held_is t over few ∙ e)
          ∙ ap (λ c. cond (n == 64) (refused Full 64) (rule m c.over (take n rs) line)) (whole_is t over few)

      pub full : t.held ≡ 64 → made_on s ≡ refused Full 64
      full e = by_count 64 e

      pub ruled : (t.held ≡ 64 → ⊥) → made_on s ≡ rule m b (take t.held rs) line
      ruled not = by_count t.held refl ∙ ap (λ x. cond x (refused Full 64) (rule m b (take t.held rs) line)) (ne_eqb t.held 64 not)

      -- a line more is held
      pub one_more : (t' : CSheet) → t'.over ≡ t.over → t'.held ≡ t.held + 1 → t.held < 64 → lines_in t' ≡ lines_in t ++ line ∷ [] → sheet_of t' ≡ with_line s line
      one_more t' eo eh h el =
          whole_is t' (ap box_in eo ∙ over) (omega (arith, eh, h))
          ∙ ap (λ ls. record { over = b; lines = ls }) el
          ∙ ap (λ c. with_line c line) (sym (whole_is t over few))
