-- What a mark in memory means: what is no mark of its kind means 0.
use Rattle.std.specs.Prelude.{unwrap_or}
use Rattle.crossing.specs.declared.memory.CMark.{CMark}
use Rattle.fixed.specs.Grid.{fixed_model, mark_of}
use Rattle.fixed.specs.declared.mark.Fixed.{Fixed}
use Rattle.sliding.specs.Grid.{sliding_model, stored_as}
use Rattle.sliding.specs.declared.mark.Sliding.{Sliding}

abbrev pub fixed_of : CMark → Fixed
fixed_of c = unwrap_or (mark_of c.number) fixed_model.nought

abbrev pub sliding_of : CMark → Sliding
sliding_of c = unwrap_or (stored_as c.number c.scale) sliding_model.nought
