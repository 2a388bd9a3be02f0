-- What slopes that are all [0] leave out of a rule.
use Rattle.std.proofs.Common.{◌≡◌, true, Some}
use Rattle.std.proofs.lemmas.Bool.{and_parts}
use Rattle.kind.specs.Model.{Model, Rules}
use Rattle.slope.specs.Rules.{is_still, part_slopes}
use Rattle.slope.specs.declared.record.Record.{Record}
use Rattle.slope.specs.declared.record.Slopes.{Slopes}
use Rattle.span.proofs.Zero.{is_zero_is, sum_zero, zero_sum}
use Rattle.span.specs.Spans.{sum, zero_span}

module _ {K : Type 0} (m : Model K) (rules : Rules m) where
  abbrev pub zeros : Slopes K
  zeros = record { a = zero_span m; b = zero_span m; c = zero_span m }

  pub is_still_is : (s : Slopes K) → is_still m s ≡ true → s ≡ zeros
  is_still_is s e =
      let p = and_parts _ _ e in let q = and_parts _ _ p.0 in
      rw (is_zero_is m rules s.a q.0, is_zero_is m rules s.b q.1, is_zero_is m rules s.c p.1)

  pub sum_still : (p q : Record K) (s t : Slopes K) → p.slopes ≡ Some s → q.slopes ≡ Some t → is_still m t ≡ true → part_slopes (sum m) p q ≡ Some s
  sum_still p q s t e f h = rw (e, f, is_still_is t h, sum_zero m rules s.a, sum_zero m rules s.b, sum_zero m rules s.c)

  pub still_sum : (p q : Record K) (s t : Slopes K) → p.slopes ≡ Some s → q.slopes ≡ Some t → is_still m s ≡ true → part_slopes (sum m) p q ≡ Some t
  still_sum p q s t e f h = rw (e, f, is_still_is s h, zero_sum m rules t.a, zero_sum m rules t.b, zero_sum m rules t.c)
