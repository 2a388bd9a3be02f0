use Rattle.std.proofs.Common.{◌≡◌, arith, codes, length, replicate, subst, take}
use Rattle.std.proofs.lemmas.List.{length-replicate, length-take}
use Rattle.runs.specs.declared.call.Call.TheVariants as calls
use Rattle.desk.specs.Dealing.{Deals, written_room}
use Rattle.desk.proofs.desk.Desk.write.Goals as goal

pub returns : goal.returns
returns g c =
    let e : length (take c.min-room.result (replicate 2048 0)) ≡ written_room c.args.room = simp (length-take, length-replicate, c.min-room.ensures, c.unwrap_or.ensures) (omega arith) in
    subst (λ n. Deals g.K.NumberKind.model calls.Write n (codes "write") c.args.self.now c.call_into.new.self c.call_into.result) e c.call_into.ensures
