use Rattle.std.proofs.Common.{ℕ, List, get_or, length, ℤ, pos, sym, ap, ◌∙◌, arith, w32, to_z, of_z, rules}
use Rattle.boxes.specs.Boxes.{inside}
use Rattle.boxes.specs.Stored.{ranged}
use Rattle.boxes.proofs.Accepted.{inside_is}
use Rattle.boxes.proofs.Judged.{all_high, all_low, judged_all, judged_on}
use Rattle.boxes.proofs.Opened.{bad_centre, centre_inside, exit, not_swept, of_ends_is, opens, swept_inside}
use Rattle.boxes.proofs.Reopened.{takes}
use Rattle.boxes.proofs.channels.ChannelBox.of_ends.Goals as goal

-- an end of channel c as the code has it
abbrev read : List ℤ → ℕ → ℤ
read xs c = to_z w32 (of_z w32 (get_or xs c (pos 0)))

pub loop-c-preserved : goal.loop-c-preserved
loop-c-preserved c = judged_on c.loop-c.invariant c.loop-c-test.true (omega (arith, c.loop-c-test.true, c.if-channels-upper.false))
    {x = read c.args.lower.now c.loop-c.c} {y = read c.args.upper.now c.loop-c.c} (search rules) (search rules) c.in_ok-ranges.field-0
    (omega (arith, c.loop-c-test.true, c.if-channels-gt8.false)) (sym (ap ranged c.in_ok-ranges.was) ∙ c.ordered.ensures)

pub returns-in_err-swept_range-clause-value : goal.returns-in_err-swept_range-clause-value
returns-in_err-swept_range-clause-value c = exit _ c.from_residual-in_err-swept_range.ensures.1
    (not_swept inside c.args.lower.now c.args.upper.now c.args.swept c.args.centre (of_ends_is _ _ _ c.args.centre c.if-channels-eq0.false c.if-channels-gt8.false c.if-channels-upper.false)
    (judged_all c.loop-c.invariant (search rules)) _ (all_low c.loop-c.invariant (search rules)) (all_high c.loop-c.invariant (search rules) c.if-channels-upper.false)
    (sym c.in_err-swept_range.was ∙ c.range_at.ensures))

pub returns-in_err-centre-clause-value : goal.returns-in_err-centre-clause-value
returns-in_err-centre-clause-value c = exit _ c.from_residual-in_err-centre.ensures.1
    (bad_centre inside c.args.lower.now c.args.upper.now c.args.swept c.args.centre (of_ends_is _ _ _ c.args.centre c.if-channels-eq0.false c.if-channels-gt8.false c.if-channels-upper.false)
    (judged_all c.loop-c.invariant (search rules)) _ (all_low c.loop-c.invariant (search rules)) (all_high c.loop-c.invariant (search rules) c.if-channels-upper.false)
    (sym c.in_ok-swept_range.was ∙ c.range_at.ensures) {x = to_z w32 (of_z w32 c.args.centre)} (search rules) (sym c.in_err-centre.was ∙ c.inside.ensures))

pub returns-in_err-centre-clause-taken : goal.returns-in_err-centre-clause-taken
returns-in_err-centre-clause-taken c p = returns-in_err-centre-clause-value c ∙ takes _ p

pub invariant_of-result : goal.invariant_of-result
invariant_of-result c = record {
  whole = c.loop-c.invariant.all;
  few = c.if-channels-gt8.false;
  inside = swept_inside c.loop-c.ranges (length c.args.lower.now) c.args.swept (sym c.in_ok-swept_range.was ∙ c.range_at.ensures);
  centred = λ r e. centre_inside c.loop-c.ranges (length c.args.lower.now) c.args.swept (sym c.in_ok-swept_range.was ∙ c.range_at.ensures) e (to_z w32 (of_z w32 c.args.centre))
      {y = c.in_ok-centre.centre} {y' = to_z w32 (of_z w32 c.in_ok-centre.centre)} (search rules)
      (inside_is c.in_ok-swept_range.swept_range.lower c.in_ok-swept_range.swept_range.upper (to_z w32 (of_z w32 c.args.centre)) c.args.swept (sym c.inside.ensures ∙ c.in_ok-centre.was));
}

pub returns-clause-value : goal.returns-clause-value
returns-clause-value c = opens inside c.args.lower.now c.args.upper.now c.args.swept c.args.centre (of_ends_is _ _ _ c.args.centre c.if-channels-eq0.false c.if-channels-gt8.false c.if-channels-upper.false)
    (judged_all c.loop-c.invariant (search rules)) _ (all_low c.loop-c.invariant (search rules)) (all_high c.loop-c.invariant (search rules) c.if-channels-upper.false)
    (sym c.in_ok-swept_range.was ∙ c.range_at.ensures) {x = to_z w32 (of_z w32 c.args.centre)} (search rules)
    {y = c.in_ok-centre.centre} {y' = to_z w32 (of_z w32 c.in_ok-centre.centre)} (search rules) (sym c.in_ok-centre.was ∙ c.inside.ensures)
