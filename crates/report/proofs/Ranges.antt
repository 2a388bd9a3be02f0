-- The range of a report holds the exact value wherever the record tells the truth.
use Rattle.std.proofs.Common.{◌≡◌, Some, None, Option, refl}
use Rattle.std.specs.List.{slice_get}
use Rattle.boxes.specs.Boxes.{Box}
use Rattle.exact.proofs.Order.{≤F_refl}
use Rattle.exact.specs.Fraction.{Frac, ◌-F◌, ◌≤F◌}
use Rattle.exact.specs.Optional.{◌>>=◌}
use Rattle.kind.specs.Model.{Model, Rules, count}
use Rattle.slope.proofs.Chains.{sloped, step}
use Rattle.slope.specs.Truth.{True}
use Rattle.slope.specs.declared.record.Record.{Record}
use Rattle.span.proofs.Enclose.{greater_ind, lesser_ind}
use Rattle.span.proofs.Enclosing.{counts_in, difference_in, held-≈, product_in, sum_in}
use Rattle.span.specs.Narrowest.{Held}
use Rattle.span.specs.declared.span.Span.{Span}
use Rattle.report.specs.Near.{Sweeps}
use Rattle.report.specs.Reports.{distance, first_form, narrowed, range, second_form}
use Rattle.span.specs.Spans as spans
use Rattle.truth.proofs.Report as forms

module _ {K : Type 0} (m : Model K) where
  pub meet_in : (s t : Span K) (x : Frac) → Held m s x → Held m t x → Held m (spans.meet m s t) x
  meet_in s t x p q = record {
    low = greater_ind m s.lower t.lower (λ a. m.value a ≤F x) p.low q.low;
    high = lesser_ind m s.upper t.upper (λ a. x ≤F m.value a) p.high q.high;
  }

  module _ (rules : Rules m) (b : Box) (r : Record K) (x u u0 : Frac) (sweeps : Sweeps b x) (t : True m r (x -F count b.centre) u u0) where
    abbrev h : Frac
    h = x -F count b.centre

    -- an absent form says nothing
    abbrev Holds : Option (Span K) → Type 0
    Holds None = Unit {0}
    Holds (Some s) = Held m s u

    abbrev Far : Option (Span K) → Type 0
    Far None = Unit {0}
    Far (Some d) = Held m d h

    far : Far (distance m b)
    far = step Far (slice_get b.lower b.swept) _ tt (λ l el. step Far (slice_get b.upper b.swept) _ tt (λ v ev.
        step Far (spans.of_counts m l v) _ tt (λ s es. step Far (spans.of_counts m b.centre b.centre) _ tt (λ s0 es0.
        let p = sweeps l v el ev in
        there (spans.difference m s s0) (λ d ed. difference_in m rules s s0 d x (count b.centre) ed (counts_in m rules l v s x es p.0 p.1) (counts_in m rules b.centre b.centre s0 _ es0 (≤F_refl _) (≤F_refl _)))))))
      where
        there : (o : Option (Span K)) → ((d : Span K) → o ≡ Some d → Held m d h) → Far o
        there None f = tt
        there (Some d) f = f d refl

    there : (o : Option (Span K)) → ((s : Span K) → o ≡ Some s → Held m s u) → Holds o
    there None f = tt
    there (Some d) f = f d refl

    first : (d : Span K) → Held m d h → Holds (first_form m r d)
    first d i = step Holds r.slopes _ tt (λ s es. step Holds (spans.product m s.a d) _ tt (λ ad ea.
        there (spans.sum m r.u0 ad) (λ f ef. let S = sloped m r h u u0 t s es in
        held-≈ m f (forms.first_form S.slope) (sum_in m rules _ _ f _ _ ef t.centre (product_in m rules _ _ ad _ _ ea S.a_in i)))))

    second : (d : Span K) → Held m d h → Holds (second_form m r d)
    second d i = step Holds r.slopes _ tt (λ s es. step Holds (spans.product m s.b d) _ tt (λ bd eb. step Holds (spans.product m d d) _ tt (λ dd edd.
        step Holds (spans.product m s.c dd) _ tt (λ cdd ec. step Holds (spans.sum m bd cdd) _ tt (λ q eq.
        there (spans.sum m r.u0 q) (λ f ef. let S = sloped m r h u u0 t s es in
        held-≈ m f (forms.second_form S.slope) (sum_in m rules _ _ f _ _ ef t.centre
        (sum_in m rules _ _ q _ _ eq (product_in m rules _ _ bd _ _ eb S.b_in i) (product_in m rules _ _ cdd _ _ ec S.c_in (product_in m rules _ _ dd _ _ edd i i))))))))))

    narrow : (s : Span K) (o : Option (Span K)) → Held m s u → Holds o → Held m (narrowed m s o) u
    narrow s None i j = i
    narrow s (Some f) i j = meet_in s f u i j

    formed : (form : Span K → Option (Span K)) → ((d : Span K) → Held m d h → Holds (form d)) → (o : Option (Span K)) → Far o → Holds (o >>= form)
    formed form f None k = tt
    formed form f (Some d) k = f d k

    pub in_range : Held m (range m b r) u
    in_range = narrow _ (distance m b >>= second_form m r) (narrow r.u (distance m b >>= first_form m r) t.here (formed (first_form m r) first (distance m b) far)) (formed (second_form m r) second (distance m b) far)
