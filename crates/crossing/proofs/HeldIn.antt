-- Sheets in memory that are sheets: what they mean, and what it is to hold a line less or more.
use Rattle.std.proofs.Common.{◌≡◌, ◌-◌, ◌≤◌, nat_lt, Bool, cond, ◌==◌, [], length, map, take, true, false, Ok, Err, Result, refl, sym, ap, ◌∙◌, arith, length-take-le}
use Rattle.std.proofs.lemmas.Bool.{cond_above, ltb-false, ne_eqb}
use Rattle.std.proofs.lemmas.List.{length-map, take-map, take-take}
use Rattle.boxes.specs.Boxes.{Box}
use Rattle.crossing.specs.Lines.{line_of}
use Rattle.crossing.specs.Sheets.{box_in, lines_in, sheet_of, sheet_over}
use Rattle.crossing.specs.declared.memory.CSheet.{CSheet}
use Rattle.fault.specs.Refusals.{refused}
use Rattle.fault.specs.declared.fault.Cause.TheVariants.{NoLine}
use Rattle.fault.specs.declared.fault.Fault.{Fault}
use Rattle.sheet.specs.Calls.{Struck}
use Rattle.sheet.specs.Contents.{blank}

module _ (s : CSheet) {b : Box} (over : box_in s.over ≡ Ok b) (few : s.held ≤ 64) where
  pub whole_is : sheet_of s ≡ record { over = b; lines = lines_in s }
  whole_is = ap (sheet_over s) over ∙ sym (cond_above 64 s.held blank (record { over = b; lines = lines_in s }) _ few refl)

  pub held_is : length (sheet_of s).lines ≡ s.held
  held_is = let w = s.whole in ap (λ c. length c.lines) whole_is ∙ length-map (take s.held s.lines) line_of ∙ length-take-le s.held s.lines (omega (arith, few, w))

-- without its last line
module _ (s s' : CSheet) {b : Box} (over : box_in s.over ≡ Ok b) (few : s.held ≤ 64) (eo : s'.over ≡ s.over) (el : s'.lines ≡ s.lines) where
  over_is : box_in s'.over ≡ Ok b
  over_is = ap box_in eo ∙ over

  pub one_less : (s.held ≡ 0 → ⊥) → s'.held ≡ s.held - 1 → Struck (sheet_of s) (Ok tt) (sheet_of s')
  one_less some eh = record {
    answer = sym (ap (λ t. cond t (refused NoLine 0) (Ok tt)) (ap (λ n. n == 0) (held_is s over few) ∙ ne_eqb s.held 0 some));
    sheet = whole_is s' over_is (omega (arith, eh, few))
        ∙ ap (λ ls. record { over = b; lines = ls })
        (ap (λ n. map line_of (take n s'.lines)) eh ∙ ap (λ ls. map line_of (take (s.held - 1) ls)) el ∙ ap (map line_of) (sym (take-take (s.held - 1) s.held s.lines (omega arith))) ∙ sym (take-map line_of (s.held - 1) (take s.held s.lines)) ∙ ap (λ n. take (n - 1) (lines_in s)) (sym (held_is s over few)))
        ∙ ap (λ c. record { over = c.over; lines = take (length (sheet_of s).lines - 1) c.lines }) (sym (whole_is s over few));
  }

-- no memory means more than 64 lines
pub few_lines : (s : CSheet) → length (sheet_of s).lines ≤ 64
few_lines s = over (box_in s.over)
  where
    held : (b : Box) (t : Bool) → nat_lt 64 s.held ≡ t → length (cond t blank (record { over = b; lines = lines_in s })).lines ≤ 64
    held b true e = omega arith
    held b false e = let few = ltb-false 64 s.held e in let n = length-map (take s.held s.lines) line_of in let w = s.whole in let l = length-take-le s.held s.lines (omega (arith, few, w)) in omega (arith, few, n, l)

    over : (o : Result Box Fault) → length (sheet_over s o).lines ≤ 64
    over (Ok b) = held b (nat_lt 64 s.held) refl
    over (Err f) = omega arith

-- with no line
pub none_held : (s : CSheet) {b : Box} → box_in s.over ≡ Ok b → s.held ≡ 0 → sheet_of s ≡ record { over = b; lines = [] }
none_held s {b} over none = whole_is s over (omega (arith, none)) ∙ ap (λ n. record { over = b; lines = map line_of (take n s.lines) }) none
