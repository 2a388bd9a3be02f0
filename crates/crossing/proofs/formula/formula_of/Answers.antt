use Rattle.std.proofs.Common.{[], take, Ok, sym, ap, ◌∙◌, arith, take_all, length-take-le}
use Rattle.crossing.proofs.Parsing.{all_read, count_few, goes_on}
use Rattle.fault.proofs.Steps.{ok_is}
use Rattle.fault.specs.Refusals.{after}
use Rattle.reader.specs.Reading.{lines_from}
use Rattle.sheet.proofs.ReadLines.{stands_ok}
use Rattle.sheet.specs.Contents.{contents}
use Rattle.crossing.proofs.formula.formula_of.Goals as goal

pub loop-n-preserved : goal.loop-n-preserved
loop-n-preserved c = goes_on c.args.bytes.now c.in_ok-count.count c.in_ok-count.from.at c.loop-n.invariant
    (stands_ok _ _ _ c.line_at.ensures c.in_ok-lines.was) c.loop-n-test.true (count_few c.args.bytes.now (sym c.in_ok-count.ensures))

pub returns : goal.returns
returns c s e =
    let n = c.in_ok-count.count in
    let few = count_few c.args.bytes.now (sym c.in_ok-count.ensures) in
    let whole = c.loop-n.invariant.whole in
    let long = length-take-le n c.loop-n.lines (omega (arith, few, whole)) in
    ap (λ r. after r (λ p. lines_from p.0 c.args.bytes.now p.1.at [])) (sym c.in_ok-count.ensures)
    ∙ all_read c.args.bytes.now n c.in_ok-count.from.at c.loop-n.invariant c.loop-n-test.false c.in_ok-end_at.ensures
    ∙ ap Ok (sym (take_all 64 (take n c.loop-n.lines) (omega (arith, few, long))) ∙ ap (λ c. c.lines) (sym c.of_parts.ensures) ∙ ap (λ s. (contents s).lines) (ok_is e))
