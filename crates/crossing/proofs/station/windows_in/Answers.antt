use Rattle.std.proofs.Common.{refl, sym, ◌∙◌}
use Rattle.crossing.proofs.Stands.{accepted_is}
use Rattle.crossing.proofs.station.windows_in.Goals as goal

pub loop-i-init : goal.loop-i-init
loop-i-init g c = (refl, c.requires.room, λ e. let q = accepted_is c.constants.result (sym c.is_ok-standing.ensures.value ∙ e) in c.constants.ensures q.0 q.1)
