-- Channels, constants, sums and differences tell the truth.
use Rattle.std.proofs.Common.{◌≡◌, ℕ, Some, Option, Result, sym, subst}
use Rattle.fault.specs.declared.fault.Fault.{Fault}
use Rattle.exact.proofs.Fractions.{≈_refl}
use Rattle.exact.proofs.Ring.{x0}
use Rattle.exact.specs.Fraction.{Frac, ◌+F◌, ◌-F◌, ◌≈◌}
use Rattle.kind.specs.Model.{Model, Rules}
use Rattle.span.proofs.Enclosing.{difference_in, one_in, sum_in, zero_in}
use Rattle.span.proofs.Nested.{difference_nested, sum_nested, within_refl}
use Rattle.span.specs.Narrowest.{Held, Inner, Ordered, Within}
use Rattle.span.specs.declared.span.Span.{Span}
use Rattle.truth.proofs.Slopes.{difference_slope, still_slope, sum_slope, swept_slope}
use Rattle.truth.specs.Truth.{Slope}
use Rattle.slope.proofs.Chains.{ordered_u, ordered_u0, sloped, slopes_of, step, told}
use Rattle.slope.specs.Rules.{difference, given, part_slopes, parts, still, sum, swept}
use Rattle.slope.specs.Truth.{Kept, Sloped?, True}
use Rattle.slope.specs.declared.record.Record.{Record}
use Rattle.slope.specs.declared.record.Slopes.{Slopes}
use Rattle.span.specs.Spans as spans

module _ {K : Type 0} (m : Model K) (rules : Rules m) where
  pub swept_true : (X X0 : Span K) (x x0 h : Frac) → (x -F x0) ≈ h → Held m X x → Held m X0 x0 → Within m X0 X → True m (swept m X X0) h x x0
  swept_true X X0 x x0 h e i i0 w = record {
    here = i;
    centre = i0;
    nested = w;
    slopes = record {
      a = _;
      b = _;
      c = _;
      a_in = one_in m rules;
      b_in = one_in m rules;
      c_in = zero_in m rules;
      slope = swept_slope e;
    };
  }

  pub still_true : (X : Span K) (x h : Frac) → Held m X x → True m (still m X) h x x
  still_true X x h i = record {
    here = i;
    centre = i;
    nested = within_refl m X;
    slopes = record {
      a = _;
      b = _;
      c = _;
      a_in = zero_in m rules;
      b_in = zero_in m rules;
      c_in = zero_in m rules;
      slope = still_slope (≈_refl x);
    };
  }

  -- ---- part by part, by an operation on spans that encloses and is monotone
  module _ (f : Frac → Frac → Frac) (F : Span K → Span K → Option (Span K))
      (holds : (s t p : Span K) (a b : Frac) → F s t ≡ Some p → Held m s a → Held m t b → Held m p (f a b))
      (nested : (s t s' t' w : Span K) → Ordered m s → Ordered m t → Ordered m s' → Ordered m t' → Within m s' s → Within m t' t → F s t ≡ Some w → Inner m (F s' t') w)
      (linear : (h u u0 v v0 au bu cu av bv cv : Frac) → Slope h u u0 au bu cu → Slope h v v0 av bv cv → Slope h (f u v) (f u0 v0) (f au av) (f bu bv) (f cu cv)) where
    parts_kept : (place : ℕ) (p q : Record K) → Kept m f (F p.u q.u) p q (given place (parts F p q))
    parts_kept place p q h u u0 v v0 tp tq = told m place (F p.u q.u) (F p.u0 q.u0) (λ _. part_slopes F p q) h (f u v) (f u0 v0)
        (λ w e. nested _ _ _ _ w (ordered_u m p h u u0 tp) (ordered_u m q h v v0 tq) (ordered_u0 m p h u u0 tp) (ordered_u0 m q h v v0 tq) tp.nested tq.nested e)
        (λ w e. holds _ _ w u v e tp.here tq.here) (λ w e. holds _ _ w u0 v0 e tp.centre tq.centre) (λ w w0 e e0. slopes)
      where
        P : Option (Slopes K) → Type 0
        P = Sloped? m h (f u v) (f u0 v0)

        slopes : P (part_slopes F p q)
        slopes = step P _ _ tt (λ s es. step P _ _ tt (λ t et. step P _ _ tt (λ a ea. step P _ _ tt (λ b eb. step P _ _ tt (λ c ec.
            let S = sloped m p h u u0 tp s es in let T = sloped m q h v v0 tq t et in
            slopes_of m a b c (holds _ _ a _ _ ea S.a_in T.a_in) (holds _ _ b _ _ eb S.b_in T.b_in) (holds _ _ c _ _ ec S.c_in T.c_in)
            (linear _ _ _ _ _ _ _ _ _ _ _ S.slope T.slope))))))

  pub sum_kept : (place : ℕ) (p q : Record K) → Kept m ◌+F◌ (spans.sum m p.u q.u) p q (given place (sum m p q))
  sum_kept = parts_kept ◌+F◌ (spans.sum m) (sum_in m rules) (λ s t s' t' w a b c d p q e. sum_nested m rules s t s' t' w a b c d p q e) (λ h u u0 v v0 au bu cu av bv cv s t. sum_slope s t)

  pub difference_kept : (place : ℕ) (p q : Record K) → Kept m ◌-F◌ (spans.difference m p.u q.u) p q (given place (difference m p q))
  difference_kept = parts_kept ◌-F◌ (spans.difference m) (difference_in m rules) (λ s t s' t' w a b c d p q e. difference_nested m rules s t s' t' w a b c d p q e) (λ h u u0 v v0 au bu cu av bv cv s t. difference_slope s t)

  -- ---- what equals a sum or a difference has its law
  pub sum_law : (place : ℕ) (p q : Record K) (r : Result (Record K) Fault) → r ≡ given place (sum m p q) → Kept m ◌+F◌ (spans.sum m p.u q.u) p q r
  sum_law place p q r e = subst (Kept m ◌+F◌ (spans.sum m p.u q.u) p q) (sym e) (sum_kept place p q)

  pub difference_law : (place : ℕ) (p q : Record K) (r : Result (Record K) Fault) → r ≡ given place (difference m p q) → Kept m ◌-F◌ (spans.difference m p.u q.u) p q r
  difference_law place p q r e = subst (Kept m ◌-F◌ (spans.difference m p.u q.u) p q) (sym e) (difference_kept place p q)
