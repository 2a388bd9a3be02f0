-- The greater, the lesser and the branch tell the truth.
use Rattle.std.proofs.Common.{◌≡◌, Option, sym, subst}
use Rattle.exact.proofs.Extremes.{max_is_left, max_is_right, min_is_left, min_is_right}
use Rattle.exact.proofs.Fractions.{≈_sym}
use Rattle.exact.proofs.Order.{<≤, by_le, ≤F_of_≈, ≤F_trans}
use Rattle.exact.proofs.Signs.{0F}
use Rattle.exact.specs.Fraction.{Frac, ◌<F◌, ◌≈◌, ◌≤F◌, max_F, min_F}
use Rattle.kind.specs.Model.{Model, Rules}
use Rattle.span.proofs.Enclose.{0≤}
use Rattle.span.proofs.Enclosing.{greater_in, held-≈, hull_left, hull_right, lesser_in}
use Rattle.span.proofs.Nested.{greater_nested, hull_nested, left_in_hull, lesser_nested, right_in_hull}
use Rattle.span.specs.Narrowest.{Held, Within, interval}
use Rattle.span.specs.Spans.{hull}
use Rattle.span.specs.declared.span.Span.{Span}
use Rattle.truth.proofs.Branch.{branch_ind, branch_over, branch_under}
use Rattle.truth.proofs.Steps.{Hull}
use Rattle.truth.proofs.Weights.{Mixed, max_mixed, min_mixed, mixed_sloped}
use Rattle.truth.specs.Curve.{branch_F}
use Rattle.slope.proofs.Chains.{inner, sloped, step, true-≈}
use Rattle.slope.specs.Rules.{branch, chosen, greater, hulls, lesser}
use Rattle.slope.specs.Truth.{Branched, Chosen, Sloped?, True}
use Rattle.slope.specs.declared.record.Record.{Record}
use Rattle.slope.specs.declared.record.Slopes.{Slopes}

module _ {K : Type 0} (m : Model K) (rules : Rules m) where
  -- all of t is at most all of s
  apart : (s t : Span K) (a b : Frac) → m.value t.upper ≤F m.value s.lower → Held m s a → Held m t b → b ≤F a
  apart s t a b h i j = ≤F_trans j.high (≤F_trans h i.low)

  joined : (f : Frac → Frac → Frac) (p q : Record K) (h u u0 v v0 : Frac) → Mixed u u0 v v0 (f u v) (f u0 v0) → True m p h u u0 → True m q h v v0
      → Sloped? m h (f u v) (f u0 v0) (hulls m p q)
  joined f p q h u u0 v v0 x tp tq = step P _ _ tt (λ s es. step P _ _ tt (λ t et.
      mixed_sloped x (hull_of s.a t.a) (hull_of s.b t.b) (hull_of s.c t.c) (sloped m p h u u0 tp s es) (sloped m q h v v0 tq t et)))
    where
      P : Option (Slopes K) → Type 0
      P = Sloped? m h (f u v) (f u0 v0)

      hull_of : (s t : Span K) → Hull (interval m s) (interval m t) (interval m (hull m s t))
      hull_of s t = record { left = hull_left m s t; right = hull_right m s t }

  pub greater_chosen : (p q : Record K) → Chosen m max_F p q (greater m p q)
  greater_chosen p q h u u0 v v0 tp tq = by_le _ _ (λ r. True m r h (max_F u v) (max_F u0 v0)) _ _
      (λ d. true-≈ m p h u u0 _ _ (≈_sym (max_is_left (apart _ _ u v d tp.here tq.here))) (≈_sym (max_is_left (apart _ _ u0 v0 d (inner m p h u u0 tp) (inner m q h v v0 tq)))) tp)
      (λ _. by_le _ _ (λ r. True m r h (max_F u v) (max_F u0 v0)) _ _
      (λ d. true-≈ m q h v v0 _ _ (≈_sym (max_is_right (apart _ _ v u d tq.here tp.here))) (≈_sym (max_is_right (apart _ _ v0 u0 d (inner m q h v v0 tq) (inner m p h u u0 tp)))) tq)
      (λ _. record {
        here = greater_in m _ _ u v tp.here tq.here;
        centre = greater_in m _ _ u0 v0 tp.centre tq.centre;
        nested = greater_nested m _ _ _ _ tp.nested tq.nested;
        slopes = joined max_F p q h u u0 v v0 (max_mixed u u0 v v0) tp tq;
      }))

  pub lesser_chosen : (p q : Record K) → Chosen m min_F p q (lesser m p q)
  lesser_chosen p q h u u0 v v0 tp tq = by_le _ _ (λ r. True m r h (min_F u v) (min_F u0 v0)) _ _
      (λ d. true-≈ m p h u u0 _ _ (≈_sym (min_is_left (apart _ _ v u d tq.here tp.here))) (≈_sym (min_is_left (apart _ _ v0 u0 d (inner m q h v v0 tq) (inner m p h u u0 tp)))) tp)
      (λ _. by_le _ _ (λ r. True m r h (min_F u v) (min_F u0 v0)) _ _
      (λ d. true-≈ m q h v v0 _ _ (≈_sym (min_is_right (apart _ _ u v d tp.here tq.here))) (≈_sym (min_is_right (apart _ _ u0 v0 d (inner m p h u u0 tp) (inner m q h v v0 tq)))) tq)
      (λ _. record {
        here = lesser_in m _ _ u v tp.here tq.here;
        centre = lesser_in m _ _ u0 v0 tp.centre tq.centre;
        nested = lesser_nested m _ _ _ _ tp.nested tq.nested;
        slopes = joined min_F p q h u u0 v v0 (min_mixed u u0 v v0) tp tq;
      }))

  -- ---- branch
  from : {a : K} → m.value m.nought ≤F m.value a → 0F ≤F m.value a
  from h = 0≤ m rules h

  under : {a : K} → m.value a <F m.value m.nought → m.value a <F 0F
  under h = <≤ h (≤F_of_≈ rules.nought_is)

  -- the test on a span of s decides the value of the branch, or leaves it to both
  picked : (P : Span K → Frac → Type 0) (s q r j : Span K) (a u v : Frac) → Held m s a
      → (branch_F a u v ≈ v → P r (branch_F a u v)) → (branch_F a u v ≈ u → P q (branch_F a u v)) → P j (branch_F a u v) → P (chosen m s q r j) (branch_F a u v)
  picked P s q r j a u v i over low between = by_le _ _ (λ w. P w (branch_F a u v)) _ _
      (λ _. by_le _ _ (λ w. P w (branch_F a u v)) _ _ (λ d. over (branch_over u v (from d) i)) (λ _. between))
      (λ d. low (branch_under u v (under d) i))

  pub branch_kept : (s q r : Record K) → Branched m s q r (branch m s q r)
  branch_kept s q r h a a0 u u0 v v0 ts tq tr = by_le _ _ P _ _
      (λ _. by_le _ _ P _ _
      (λ d. true-≈ m r h v v0 _ _ (≈_sym (branch_over u v (from d) ts.here)) (≈_sym (branch_over u0 v0 (from d) (inner m s h a a0 ts))) tr)
      (λ _. record {
        here = branch_ind a u v (λ x. Held m (hull m q.u r.u) x) (λ _. hull_left m _ _ u tq.here) (λ _. hull_right m _ _ v tr.here);
        centre = picked (λ w x. Held m w x) s.u0 q.u0 r.u0 _ a0 u0 v0 ts.centre
            (λ e. held-≈ m r.u0 (≈_sym e) tr.centre) (λ e. held-≈ m q.u0 (≈_sym e) tq.centre)
            (branch_ind a0 u0 v0 (λ x. Held m (hull m q.u0 r.u0) x) (λ _. hull_left m _ _ u0 tq.centre) (λ _. hull_right m _ _ v0 tr.centre));
        nested = picked (λ w x. Within m w (hull m q.u r.u)) s.u0 q.u0 r.u0 _ a0 u0 v0 ts.centre
            (λ e. right_in_hull m _ _ _ tr.nested) (λ e. left_in_hull m _ _ _ tq.nested) (hull_nested m _ _ _ _ tq.nested tr.nested);
        slopes = tt;
      }))
      (λ d. true-≈ m q h u u0 _ _ (≈_sym (branch_under u v (under d) ts.here)) (≈_sym (branch_under u0 v0 (under d) (inner m s h a a0 ts))) tq)
    where
      P : Record K → Type 0
      P x = True m x h (branch_F a u v) (branch_F a0 u0 v0)

  -- ---- what equals a choice has its law
  pub greater_law : (p q r : Record K) → r ≡ greater m p q → Chosen m max_F p q r
  greater_law p q r e = subst (Chosen m max_F p q) (sym e) (greater_chosen p q)

  pub lesser_law : (p q r : Record K) → r ≡ lesser m p q → Chosen m min_F p q r
  lesser_law p q r e = subst (Chosen m min_F p q) (sym e) (lesser_chosen p q)

  pub branch_law : (s q r x : Record K) → x ≡ branch m s q r → Branched m s q r x
  branch_law s q r x e = subst (Branched m s q r) (sym e) (branch_kept s q r)
