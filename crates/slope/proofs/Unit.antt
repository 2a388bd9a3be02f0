-- Slopes [1], [1], [0].
use Rattle.std.proofs.Common.{◌≡◌, true}
use Rattle.std.proofs.lemmas.Bool.{and_parts}
use Rattle.kind.specs.Model.{Model, Rules}
use Rattle.slope.specs.Rules.{is_unit}
use Rattle.slope.specs.declared.record.Slopes.{Slopes}
use Rattle.span.proofs.Unit.{is_one_is}
use Rattle.span.proofs.Zero.{is_zero_is}
use Rattle.span.specs.Spans.{one_span, zero_span}

module _ {K : Type 0} (m : Model K) (rules : Rules m) where
  abbrev pub units : Slopes K
  units = record { a = one_span m; b = one_span m; c = zero_span m }

  pub is_unit_is : (s : Slopes K) → is_unit m s ≡ true → s ≡ units
  is_unit_is s e =
      let p = and_parts _ _ e in let q = and_parts _ _ p.0 in
      rw (is_one_is m rules s.a q.0, is_one_is m rules s.b q.1, is_zero_is m rules s.c p.1)
