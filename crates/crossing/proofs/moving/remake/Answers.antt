use Rattle.std.proofs.Common.{◌+◌, map, set, sym, ap, ◌∙◌, subst, arith}
use Rattle.std.proofs.lemmas.List.{get_or-map, length-map}
use Rattle.boxes.specs.Stored.{box_of}
use Rattle.crossing.proofs.Remade.{Making, making_on}
use Rattle.crossing.specs.Lines.{line_of}
use Rattle.crossing.specs.Memory.{records_in}
use Rattle.line.specs.declared.line.Line.TheVariants.{Channel}
use Rattle.rule.specs.Placed.{stored}
use Rattle.rule.specs.Rule.{rule}
use Rattle.sheet.proofs.Remaking.{Ended, bad_record}
use Rattle.crossing.proofs.moving.remake.Given.{Over}
use Rattle.crossing.proofs.moving.remake.Goals as goal

-- a record that is refused ends the work
refused : (g : Over) (c : goal.After-from_residual g) → Ended g.K.NumberKind.model (box_of c.args.over.now) (map line_of c.args.lines.now) (records_in g.K.Crossing.mark_of c.args.memory.now) c.from_residual.result (records_in g.K.Crossing.mark_of c.loop-n.memory)
refused g c =
    let m = g.K.NumberKind.model in
    let b = box_of c.args.over.now in
    let ls = c.args.lines.now in
    let n = c.loop-n.n in
    let i = c.loop-n.invariant in
    let h = c.loop-n-test.true in
    let as_many = length-map ls line_of in
    bad_record m b (map line_of ls) (records_in g.K.Crossing.mark_of c.args.memory.now) i.going (Channel 0) (omega (arith, h, as_many))
    (c.meaning.ensures ∙ sym (get_or-map line_of ls n _ (Channel 0) h))
    (c.in_err-record_in.ensures.answer ∙ ap (λ w. rule m b w c.meaning.result) i.both.same) c.from_residual.result c.from_residual.ensures.1

pub returns-in_err-record_in-clause-answer : goal.returns-in_err-record_in-clause-answer
returns-in_err-record_in-clause-answer g c = (refused g c).answer_is

pub returns-in_err-record_in-clause-memory : goal.returns-in_err-record_in-clause-memory
returns-in_err-record_in-clause-memory g c = (refused g c).records_are

pub loop-n-preserved : goal.loop-n-preserved
loop-n-preserved g c =
    let m = g.K.NumberKind.model in
    let of = g.K.Crossing.mark_of in
    let b = box_of c.args.over.now in
    let ls = c.args.lines.now in
    let n = c.loop-n.n in
    let rs = c.loop-n.records in
    let made = c.in_ok-record_in.ensures in
    let h = c.loop-n-test.true in
    let few = c.requires.few in
    let as_many = length-map ls line_of in
    subst (λ rs. Making m of b (map line_of ls) c.args.memory.now (set c.loop-n.memory n c.form.result) rs (n + 1)) (sym (made.records ∙ ap (stored rs n) (sym made.answer)))
    (making_on m of b (map line_of ls) c.args.memory.now c.loop-n.invariant (Channel 0) (omega (arith, h, as_many)) (omega (arith, h, few))
    (c.meaning.ensures ∙ sym (get_or-map line_of ls n _ (Channel 0) h)) c.in_ok-record_in.field-0 made.answer c.form.result c.form.ensures)
