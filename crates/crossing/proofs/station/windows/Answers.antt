use Rattle.std.proofs.Common.{◌≤◌, length, take, drop, Ok, sym, ap, ◌∙◌, arith, length-take-le}
use Rattle.std.proofs.Math.Nat.{min-le_left}
use Rattle.std.proofs.lemmas.List.{length-map, take_at}
use Rattle.crossing.proofs.Window.{all_by_bytes}
use Rattle.crossing.specs.Windows.{answer_in}
use Rattle.crossing.proofs.station.windows.Goals as goal

pub returns-in-Ok-clause-answers : goal.returns-in-Ok-clause-answers
returns-in-Ok-clause-answers g c =
    let m = g.K.NumberKind.model in
    let n = c.min-windows.result in
    let boxes = c.args.boxes.now in
    let ls = c.lines.result.now in
    let fits = min-le_left (length boxes) (length c.args.answers.now) in
    let enough : n ≤ length boxes = omega (arith, c.min-windows.ensures, fits) in
    let long = ap length c.windows_in.ensures ∙ length-map (take n boxes) (answer_in m ls c.args.line) ∙ length-take-le n boxes enough in
    take_at c.windows_in.new.answers (drop n c.args.answers.now) n long ∙ c.windows_in.ensures
    ∙ all_by_bytes m c.args.bytes.now c.args.line ls (c.formula_of.ensures c.in-Ok.formula c.in-Ok.is ∙ ap Ok (sym c.lines.ensures)) (take n boxes)
