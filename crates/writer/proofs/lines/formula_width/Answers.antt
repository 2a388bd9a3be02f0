use Rattle.std.proofs.Common.{◌≡◌, length, sum_by, arith, rules, length-append}
use Rattle.leb.specs.Numbers.{encode}
use Rattle.writer.proofs.LinesBytes.{lines_few, lines_sum}
use Rattle.writer.specs.Writing.{line_bytes, lines_bytes}
use Rattle.writer.proofs.lines.formula_width.Goals as goal

pub overflow_add-result : goal.overflow_add-result
overflow_add-result c =
    let e : c.sum-lines_width.result ≡ sum_by (λ l. length (line_bytes l)) c.args.lines.now = search rules in
    omega (arith, lines_sum c.args.lines.now, lines_few c.args.lines.now)

pub returns : goal.returns
returns c =
    let e : c.sum-lines_width.result ≡ sum_by (λ l. length (line_bytes l)) c.args.lines.now = search rules in
    omega (arith, lines_sum c.args.lines.now, length-append (encode (length c.args.lines.now)) (lines_bytes c.args.lines.now))
