use Rattle.std.proofs.Common.{List, length, take, ap, ◌∙◌}
use Rattle.std.proofs.Math.Nat.{min_comm}
use Rattle.std.proofs.lemmas.List.{take_min}
use Rattle.boxes.specs.Stored.{box_of}
use Rattle.line.specs.declared.line.Line.{Line}
use Rattle.sheet.specs.Contents.{Contents}
use Rattle.sheet.proofs.sheet.Sheet.of_parts.Goals as goal

pub returns : goal.returns
returns c =
    let ls = c.args.lines.now in
    let of_lines : List Line → Contents = λ l. record { over = box_of c.args.over; lines = l } in
    ap of_lines (c.table.ensures.begins ∙ ap (λ n. take n ls) (c.min.ensures ∙ min_comm (length ls) 64) ∙ take_min 64 ls)
