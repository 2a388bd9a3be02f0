use Rattle.std.proofs.Common.{◌≡◌, Err, refl, sym, ap, ◌∙◌, w32, to_z, of_z, rules}
use Rattle.std.proofs.lemmas.Result.{err_from_is_err_and}
use Rattle.rule.proofs.Ranges.{another, no_channel, the_swept}
use Rattle.rule.specs.Placed.{accepts, stored}
use Rattle.rule.proofs.records.put_channel.Goals as goal

pub returns-in_err-range : goal.returns-in_err-range
returns-in_err-range g c =
    let e = err_from_is_err_and c.from_residual.result c.from_residual.ensures.1 in
    let q = no_channel g.K.NumberKind.model c.args.b.now c.args.c c.args.n {x = Err _} refl (sym c.in_err-range.was ∙ c.channel_range.ensures) in
    record { answer = e.1 ∙ ap Err e.2 ∙ ap accepts q; records = ap (stored c.args.records.now c.args.n) q }

pub returns-in_err-put_swept : goal.returns-in_err-put_swept
returns-in_err-put_swept g c =
    let b = c.args.b.now in
    let e = err_from_is_err_and c.from_residual-in_err-put_swept.result c.from_residual-in_err-put_swept.ensures.1 in
    let x : to_z w32 (of_z w32 b.centre) ≡ b.centre = search rules in
    let q = the_swept g.K.NumberKind.model b c.args.c c.args.n (sym c.in_ok-range.was ∙ c.channel_range.ensures) x refl c.if-c-b.true in
    record { answer = e.1 ∙ ap Err e.2 ∙ c.in_err-put_swept.ensures.answer ∙ ap accepts q; records = c.in_err-put_swept.ensures.records ∙ ap (stored c.args.records.now c.args.n) q }

pub returns-in_ok-put_swept : goal.returns-in_ok-put_swept
returns-in_ok-put_swept g c =
    let b = c.args.b.now in
    let x : to_z w32 (of_z w32 b.centre) ≡ b.centre = search rules in
    let q = the_swept g.K.NumberKind.model b c.args.c c.args.n (sym c.in_ok-range.was ∙ c.channel_range.ensures) x refl c.if-c-b.true in
    record { answer = c.in_ok-put_swept.ensures.answer ∙ ap accepts q; records = c.in_ok-put_swept.ensures.records ∙ ap (stored c.args.records.now c.args.n) q }

pub returns-in_err-put_still : goal.returns-in_err-put_still
returns-in_err-put_still g c =
    let e = err_from_is_err_and c.from_residual-in_err-put_still.result c.from_residual-in_err-put_still.ensures.1 in
    let q = another g.K.NumberKind.model c.args.b.now c.args.c c.args.n (sym c.in_ok-range.was ∙ c.channel_range.ensures) refl c.if-c-b.false in
    record { answer = e.1 ∙ ap Err e.2 ∙ c.in_err-put_still.ensures.answer ∙ ap accepts q; records = c.in_err-put_still.ensures.records ∙ ap (stored c.args.records.now c.args.n) q }

pub returns-in_ok-put_still : goal.returns-in_ok-put_still
returns-in_ok-put_still g c =
    let q = another g.K.NumberKind.model c.args.b.now c.args.c c.args.n (sym c.in_ok-range.was ∙ c.channel_range.ensures) refl c.if-c-b.false in
    record { answer = c.in_ok-put_still.ensures.answer ∙ ap accepts q; records = c.in_ok-put_still.ensures.records ∙ ap (stored c.args.records.now c.args.n) q }
