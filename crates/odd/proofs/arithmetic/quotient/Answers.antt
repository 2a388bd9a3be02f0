use Rattle.odd.proofs.Computed.{quotient_minus_above, quotient_minus_below, quotient_plus_above, quotient_plus_below}
use Rattle.odd.proofs.arithmetic.quotient.Goals as goal

pub returns-in-Minus : goal.returns-in-Minus
returns-in-Minus c = rw (c.in-Minus.is, c.opposite.ensures) record { below = quotient_minus_below _; above = quotient_minus_above _ }

pub returns-in-Plus : goal.returns-in-Plus
returns-in-Plus c = rw c.in-Plus.is record { below = quotient_plus_below _; above = quotient_plus_above _ }
