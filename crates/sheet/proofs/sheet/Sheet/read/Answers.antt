use Rattle.std.proofs.Common.{Err, sym, refl, ap, ◌∙◌, arith}
use Rattle.sheet.proofs.Held.{held_is, lent_enough}
use Rattle.sheet.proofs.ReadFormula.{empty, not_empty}
use Rattle.sheet.proofs.Trips.{read_trips}
use Rattle.sheet.specs.Contents.{contents}
use Rattle.sheet.specs.Reading.{filled, overlaid}
use Rattle.sheet.proofs.sheet.Sheet.read.Goals as goal

pub returns-in_err-enough-clause-trips : goal.returns-in_err-enough-clause-trips
returns-in_err-enough-clause-trips g c = read_trips g.K.NumberKind.model

pub returns-then-self-gt0 : goal.returns-then-self-gt0
returns-then-self-gt0 g c =
    let s = c.args.self.now in
    let l = held_is s in
    let q = not_empty g.K.NumberKind.model (contents s) c.args.working.now c.args.bytes.now (lent_enough c.args.working.now c.in_ok-enough.ensures) (omega (arith, l, c.if-self-gt0.true)) in
    record { call = record { answer = ap Err c.at.ensures ∙ sym (ap (λ o. o.answer) q); sheet = refl; records = sym (ap (λ o. overlaid o.records c.args.working.now) q) }; trips = read_trips g.K.NumberKind.model }

pub returns : goal.returns
returns g c =
    let s = c.args.self.now in
    let l = held_is s in
    let q = empty g.K.NumberKind.model (contents s) c.args.working.now c.args.bytes.now (lent_enough c.args.working.now c.in_ok-enough.ensures) (omega (arith, l, c.if-self-gt0.false)) in
    record {
      call = record {
        answer = c.fill.ensures.answer ∙ sym (ap (λ o. o.answer) q);
        sheet = c.fill.ensures.sheet ∙ sym (ap (λ o. filled (contents s) c.fill.result o.lines) q);
        records = c.fill.ensures.records ∙ sym (ap (λ o. overlaid o.records c.args.working.now) q);
      };
      trips = read_trips g.K.NumberKind.model;
    }
