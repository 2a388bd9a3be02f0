use Rattle.std.proofs.Common.{sym, ◌∙◌, subst}
use Rattle.writer.proofs.LineBytes.{line_is}
use Rattle.writer.proofs.Pens.{wrote_four}
use Rattle.writer.specs.Pens.{Fits, Wrote}
use Rattle.writer.proofs.pen.Pen.put_line.Goals as goal

pub returns : goal.returns
returns c =
    let e = line_is c.args.line _ _ _ _ (c.from.ensures ∙ c.operation.ensures) c.operands_of-a.ensures.first c.operands_of-a.ensures.second c.operands_of-a.ensures.third in
    subst (Wrote c.args.self.now c.put-4.new.self) (sym e) (wrote_four c.args.self.now c.put.new.self c.put-2.new.self c.put-3.new.self c.put-4.new.self _ _ _ _ (subst (Fits c.args.self.now) e c.requires) c.put.ensures c.put-2.ensures c.put-3.ensures c.put-4.ensures)
