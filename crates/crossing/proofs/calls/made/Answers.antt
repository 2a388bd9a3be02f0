use Rattle.std.proofs.Common.{sym, refl, subst, rules, w64, to_z, of_z}
use Rattle.crossing.specs.Memory.{in_memory, records_in}
use Rattle.crossing.specs.Sheets.{sheet_of}
use Rattle.runs.proofs.Called.{opened_as}
use Rattle.runs.specs.Runs.{Made}
use Rattle.sheet.specs.Calls.{Added}
use Rattle.crossing.proofs.calls.made.Goals as goal

pub returns-in-Open-clause-made : goal.returns-in-Open-clause-made
returns-in-Open-clause-made g c =
    let a = c.args in
    let in_mem = in_memory g.K.Crossing.mark_of in
    subst (Made g.K.NumberKind.model (in_mem a.sheet.now a.working.now a.spare.now a.out.now) (in_mem c.opened.new.sheet a.working.now a.spare.now a.out.now) c.accepted.result) (sym c.in-Open.is)
    (c.opened.result, c.accepted.ensures, opened_as {x = to_z w64 (of_z w64 c.in-Open.o.centre)} {centre = c.in-Open.o.centre} (search rules) c.opened.ensures, refl, refl, refl)

pub returns-in-Add-clause-made : goal.returns-in-Add-clause-made
returns-in-Add-clause-made g c =
    let a = c.args in
    let of = g.K.Crossing.mark_of in
    let t = c.add_line.new in
    subst (Made g.K.NumberKind.model (in_memory of a.sheet.now a.working.now a.spare.now a.out.now) (in_memory of t.sheet t.working a.spare.now a.out.now) c.numbered.result) (sym c.in-Add.is) (
      c.add_line.result,
      c.numbered.ensures,
      subst (λ l. Added g.K.NumberKind.model l (sheet_of a.sheet.now) (records_in of a.working.now) c.add_line.result (sheet_of t.sheet) (records_in of t.working)) c.form.ensures c.add_line.ensures.call,
      refl,
      refl,
    )

pub returns-in-Strike-clause-made : goal.returns-in-Strike-clause-made
returns-in-Strike-clause-made g c =
    let a = c.args in
    let in_mem = in_memory g.K.Crossing.mark_of in
    subst (Made g.K.NumberKind.model (in_mem a.sheet.now a.working.now a.spare.now a.out.now) (in_mem c.struck.new.sheet a.working.now a.spare.now a.out.now) c.accepted-in-Strike.result) (sym c.in-Strike.is)
    (c.struck.result, c.accepted-in-Strike.ensures, c.struck.ensures, refl, refl, refl)

pub returns-in-Move-clause-made : goal.returns-in-Move-clause-made
returns-in-Move-clause-made g c =
    let a = c.args in
    let in_mem = in_memory g.K.Crossing.mark_of in
    let t = c.moved.new in
    let v = c.in-Move.v in
    subst (Made g.K.NumberKind.model (in_mem a.sheet.now a.working.now a.spare.now a.out.now) (in_mem t.sheet t.working t.spare a.out.now) c.accepted-in-Move.result) (sym c.in-Move.is)
    (c.moved.result, c.accepted-in-Move.ensures, c.moved.ensures.call, refl)

pub returns-in-Read-clause-made : goal.returns-in-Read-clause-made
returns-in-Read-clause-made g c =
    let a = c.args in
    let in_mem = in_memory g.K.Crossing.mark_of in
    let t = c.read_formula.new in
    subst (Made g.K.NumberKind.model (in_mem a.sheet.now a.working.now a.spare.now a.out.now) (in_mem t.sheet t.working a.spare.now a.out.now) c.accepted-in-Read.result) (sym c.in-Read.is)
    (c.read_formula.result, c.accepted-in-Read.ensures, c.read_formula.ensures.call, refl, refl)

pub returns-in-Write-clause-made : goal.returns-in-Write-clause-made
returns-in-Write-clause-made g c =
    let a = c.args in
    let in_mem = in_memory g.K.Crossing.mark_of in
    subst (Made g.K.NumberKind.model (in_mem a.sheet.now a.working.now a.spare.now a.out.now) (in_mem a.sheet.now a.working.now a.spare.now c.written.new.out) c.measured.result) (sym c.in-Write.is)
    (c.written.result, c.measured.ensures, c.written.ensures, refl, refl, refl)

pub returns-in-Report-clause-made : goal.returns-in-Report-clause-made
returns-in-Report-clause-made g c =
    let a = c.args in
    let in_mem = in_memory g.K.Crossing.mark_of in
    subst (Made g.K.NumberKind.model (in_mem a.sheet.now a.working.now a.spare.now a.out.now) (in_mem a.sheet.now a.working.now a.spare.now a.out.now) c.told.result) (sym c.in-Report.is)
    (c.report_line.result, c.told.ensures, c.report_line.ensures, refl, refl, refl, refl)
