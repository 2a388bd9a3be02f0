-- What spans and records in memory mean, by the meaning of a mark.
use Rattle.std.specs.Prelude.{cond, eqb, Option, Some, None}
use Rattle.crossing.specs.declared.memory.CMark.{CMark}
use Rattle.crossing.specs.declared.memory.CRecord.{CRecord}
use Rattle.crossing.specs.declared.memory.CSpan.{CSpan}
use Rattle.slope.specs.declared.record.Record.{Record}
use Rattle.slope.specs.declared.record.Slopes.{Slopes}
use Rattle.span.specs.declared.span.Span.{Span}

module _ {K : Type 0} (mark_of : CMark → K) where
  abbrev pub span_of : CSpan → Span K
  span_of s = record { lower = mark_of s.lower; upper = mark_of s.upper }

  abbrev pub slopes_of : CRecord → Option (Slopes K)
  slopes_of r = cond (eqb r.slopes 0) None (Some (record { a = span_of r.a; b = span_of r.b; c = span_of r.c }))

  abbrev pub record_of : CRecord → Record K
  record_of r = record { u = span_of r.u; u0 = span_of r.u0; slopes = slopes_of r }
