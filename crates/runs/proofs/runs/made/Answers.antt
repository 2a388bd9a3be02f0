use Rattle.std.proofs.Common.{sym, refl, subst, rules, w64, to_z, of_z}
use Rattle.runs.proofs.Called.{moved_as, opened_as}
use Rattle.runs.specs.Runs.{Made, state}
use Rattle.sheet.specs.Contents.{contents}
use Rattle.runs.proofs.runs.made.Goals as goal

pub returns-in-Open : goal.returns-in-Open
returns-in-Open g c = let a = c.args in
    subst (Made g.K.NumberKind.model (state (contents a.sheet.now) a.working.now a.spare.now a.out.now) (state (contents c.open.new.self) a.working.now a.spare.now a.out.now) c.accepted.result) (sym c.in-Open.is)
    (c.open.result, c.accepted.ensures, opened_as {x = to_z w64 (of_z w64 c.in-Open.o.centre)} {centre = c.in-Open.o.centre} (search rules) c.open.ensures, refl, refl, refl)

pub returns-in-Strike : goal.returns-in-Strike
returns-in-Strike g c = let a = c.args in
    subst (Made g.K.NumberKind.model (state (contents a.sheet.now) a.working.now a.spare.now a.out.now) (state (contents c.strike.new.self) a.working.now a.spare.now a.out.now) c.accepted-in-Strike.result) (sym c.in-Strike.is)
    (c.strike.result, c.accepted-in-Strike.ensures, c.strike.ensures, refl, refl, refl)

pub returns-in-Move : goal.returns-in-Move
returns-in-Move g c = let a = c.args in
    subst (Made g.K.NumberKind.model (state (contents a.sheet.now) a.working.now a.spare.now a.out.now) (state (contents c.move_channel.new.self) c.move_channel.new.working c.move_channel.new.spare a.out.now) c.accepted-in-Move.result) (sym c.in-Move.is)
    (c.move_channel.result, c.accepted-in-Move.ensures, moved_as g.K.NumberKind.model c.in-Move.v.channel {l = to_z w64 (of_z w64 c.in-Move.v.lower)} {lower = c.in-Move.v.lower} {u = to_z w64 (of_z w64 c.in-Move.v.upper)} {upper = c.in-Move.v.upper} {x = to_z w64 (of_z w64 c.in-Move.v.centre)} {centre = c.in-Move.v.centre} (search rules) (search rules) (search rules) c.move_channel.ensures, refl)

pub returns-in-Read : goal.returns-in-Read
returns-in-Read g c = let a = c.args in
    subst (Made g.K.NumberKind.model (state (contents a.sheet.now) a.working.now a.spare.now a.out.now) (state (contents c.read.new.self) c.read.new.working a.spare.now a.out.now) c.accepted-in-Read.result) (sym c.in-Read.is)
    (c.read.result, c.accepted-in-Read.ensures, c.read.ensures.call, refl, refl)

pub returns-in-Write : goal.returns-in-Write
returns-in-Write g c = let a = c.args in
    subst (Made g.K.NumberKind.model (state (contents a.sheet.now) a.working.now a.spare.now a.out.now) (state (contents a.sheet.now) a.working.now a.spare.now c.write.new.out) c.written.result) (sym c.in-Write.is)
    (c.write.result, c.written.ensures, c.write.ensures, refl, refl, refl)
