use Rattle.script.proofs.Steps.{handed, room_none, room_some}
use Rattle.script.proofs.parse.room.Goals as goal

pub returns-in_err-index_of-in-Some : goal.returns-in_err-index_of-in-Some
returns-in_err-index_of-in-Some c = rw (handed _ _ c.from_residual.ensures.1) (room_some c.in-Some.word c.args.words.now c.next.new.self _ c.in-Some.ensures.steps c.in_err-index_of-in-Some.ensures)

pub returns-in_ok-index_of-in-Some : goal.returns-in_ok-index_of-in-Some
returns-in_ok-index_of-in-Some c = room_some c.in-Some.word c.args.words.now c.next.new.self _ c.in-Some.ensures.steps c.in_ok-index_of-in-Some.ensures

pub returns-in-None : goal.returns-in-None
returns-in-None c = room_none c.args.words.now c.next.new.self c.in-None.ensures.steps
