use Rattle.std.proofs.Common.{refl}
use Rattle.script.specs.Openings.{numbers_to}
use Rattle.script.proofs.parse.numbers_to.Goals as goal

pub loop-word-init : goal.loop-word-init
unfolding numbers_to
loop-word-init c = record { can = tt; ends = tt; same = rw c.new-numbers.ensures.items refl }
