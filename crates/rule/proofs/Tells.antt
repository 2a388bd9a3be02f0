-- A record that a rule makes of true records is true: one step of the induction over the lines.
use Rattle.std.proofs.Common.{◌≡◌, ℕ, Bool, true, false, cond, eqb, List, length, ℤ, ◌≤ℤ◌, Some, None, Ok, Option, Result, refl, ap, ◌∙◌, subst}
use Rattle.std.proofs.lemmas.Bool.{eqb-true}
use Rattle.std.specs.List.{slice_get}
use Rattle.boxes.specs.Boxes.{Box, Centred, is_count}
use Rattle.curve.proofs.Lifts.{lift_kept}
use Rattle.curve.specs.MagnitudeBends.{magnitude_bends}
use Rattle.curve.specs.SquareBends.{square_bends}
use Rattle.exact.proofs.Division.{inverse_some}
use Rattle.exact.proofs.Division.{divided as divides}
use Rattle.exact.proofs.Fractions.{≈_refl}
use Rattle.exact.proofs.Integers.{≤ℤ_times}
use Rattle.exact.proofs.Order.{≤F_refl}
use Rattle.exact.specs.Fraction.{Frac, ◌*F◌, ◌+F◌, ◌-F◌, ◌≈◌, ◌≤F◌, inv_F, max_F, min_F}
use Rattle.exact.specs.Optional.{◌>>=◌}
use Rattle.fault.proofs.Steps.{after_ok, err_ok, found_ok, none_some, ok_is, some_is}
use Rattle.fault.specs.Refusals.{after, found, refused}
use Rattle.fault.specs.declared.fault.Cause.TheVariants.{Divisor, NoChannel, Number}
use Rattle.fault.specs.declared.fault.Fault.{Fault}
use Rattle.kind.specs.Model.{Model, Rules, count}
use Rattle.line.specs.declared.line.Line.{Line}
use Rattle.line.specs.declared.line.Line.TheVariants.{Branch, Channel, Constant, Difference, Greater, Lesser, Magnitude, Product, Quotient, Square, Sum}
use Rattle.product.proofs.Kept.{product_kept}
use Rattle.quotient.proofs.Kept.{quotient_kept}
use Rattle.slope.proofs.Chains.{inner}
use Rattle.slope.proofs.ChoicesTrue.{branch_kept, greater_chosen, lesser_chosen}
use Rattle.slope.proofs.PartsTrue.{difference_kept, still_true, sum_kept, swept_true}
use Rattle.slope.specs.Rules.{given}
use Rattle.slope.specs.Curves.{Curved, magnitude_shape, square_shape}
use Rattle.slope.specs.Truth.{Kept, Told, True}
use Rattle.slope.specs.declared.record.Record.{Record}
use Rattle.span.proofs.Enclosing.{counts_in, quotient_away}
use Rattle.span.proofs.Nested.{counts_nested}
use Rattle.span.specs.Spans.{of_counts}
use Rattle.span.specs.declared.span.Span.{Span}
use Rattle.truth.specs.Curve.{branch_F, magnitude_F, square_F}
use Rattle.rule.specs.Exact.{InBox, Point, centred, distance, earlier, exact, of_two}
use Rattle.rule.specs.Rule.{all_three, channel, constant, operand, rule, still_range, swept_range, two}
use Rattle.slope.specs.Rules as rules
use Rattle.span.specs.Spans as spans

-- ---- what an answer that is there tells of its steps
pub chain_ok : {X Y : Type 0} (P : Type 0) (o : Option X) (f : X → Option Y) (y : Y) → (o >>= f) ≡ Some y → ((x : X) → o ≡ Some x → f x ≡ Some y → P) → P
chain_ok P None f y e k = absurd (none_some e)
chain_ok P (Some x) f y e k = k x refl e

module _ {R : Type 0} (rs : List R) where
  two_ok : (l r : ℕ) (x : R × R) → two rs l r ≡ Ok x → (operand rs l ≡ Ok x.0) × (operand rs r ≡ Ok x.1)
  two_ok l r x e = after_ok _ (operand rs l) _ x e (λ y ey e1. after_ok _ (operand rs r) _ x e1 (λ z ez e2. let q = ok_is e2 in (ey ∙ ap (λ t. Ok t.0) q, ez ∙ ap (λ t. Ok t.1) q)))

  three_ok : (s q r : ℕ) (x : R × R × R) → all_three rs s q r ≡ Ok x → (operand rs s ≡ Ok x.0) × (operand rs q ≡ Ok x.1) × (operand rs r ≡ Ok x.2)
  three_ok s q r x e = after_ok _ (operand rs s) _ x e (λ a ea e1. after_ok _ (operand rs q) _ x e1 (λ y ey e2. after_ok _ (operand rs r) _ x e2 (λ z ez e3.
      let k = ok_is e3 in (ea ∙ ap (λ t. Ok t.0) k, ey ∙ ap (λ t. Ok t.1) k, ez ∙ ap (λ t. Ok t.2) k))))

-- ---- values that are there
of_two_is : (vs : List (Option Frac)) (l r : ℕ) (f : Frac → Frac → Option Frac) {u v : Frac} → earlier vs l ≡ Some u → earlier vs r ≡ Some v → of_two vs l r f ≡ f u v
of_two_is vs l r f {u} {v} e k = ap (λ o. o >>= (λ x. earlier vs r >>= f x)) e ∙ ap (λ o. o >>= f u) k

module _ {K : Type 0} (m : Model K) (keeps : Rules m) (b : Box) (p : Point) where
  -- a line has values at the point and at its centre point, and r tells the truth about them
  pub record Valued (o o0 : Option Frac) (r : Record K) : Type 0 where
    pub u : Frac
    pub u0 : Frac
    pub here : o ≡ Some u
    pub centre : o0 ≡ Some u0
    pub told : True m r (distance b p) u u0

  -- so do all lines before
  abbrev pub Agree : List (Option Frac) → List (Option Frac) → List (Record K) → Type 0
  Agree vs v0s rs = (i : ℕ) (r : Record K) → slice_get rs i ≡ Some r → Valued (earlier vs i) (earlier v0s i) r

  module _ (vs v0s : List (Option Frac)) (rs : List (Record K)) (agree : Agree vs v0s rs) where
    known : (l : ℕ) (x : Record K) → operand rs l ≡ Ok x → Valued (earlier vs l) (earlier v0s l) x
    known l x e = agree l x (found_ok _ _ _ x e)

    -- an operation f by a rule R that keeps the truth
    binary : (l r : ℕ) (f : Frac → Frac → Frac) (U : Record K → Record K → Option (Span K)) (R : Record K → Record K → Result (Record K) Fault) → ((x y : Record K) → Kept m f (U x y) x y (R x y))
        → (made : Record K) → after (two rs l r) (λ x. R x.0 x.1) ≡ Ok made → Valued (of_two vs l r (λ u v. Some (f u v))) (of_two v0s l r (λ u v. Some (f u v))) made
    binary l r f U R kept made e = after_ok _ (two rs l r) _ made e (λ x ex er.
        let o = two_ok rs l r x ex in
        let kl = known l x.0 o.0 in
        let kr = known r x.1 o.1 in
        record {
          u = f kl.u kr.u;
          u0 = f kl.u0 kr.u0;
          here = of_two_is vs l r _ kl.here kr.here;
          centre = of_two_is v0s l r _ kl.centre kr.centre;
          told = subst (Told m (U x.0 x.1) (distance b p) (f kl.u kr.u) (f kl.u0 kr.u0)) er (kept x.0 x.1 _ _ _ _ _ kl.told kr.told);
        })

    -- a curve
    lifted : (l : ℕ) (f : Frac → Frac) (U : Record K → Option (Span K)) (R : Record K → Result (Record K) Fault) → ((x : Record K) → Curved m f (U x) x (R x))
        → (made : Record K) → after (operand rs l) R ≡ Ok made → Valued (earlier vs l >>= (λ u. Some (f u))) (earlier v0s l >>= (λ u. Some (f u))) made
    lifted l f U R kept made e = after_ok _ (operand rs l) _ made e (λ x ex er.
        let k = known l x ex in
        record {
          u = f k.u;
          u0 = f k.u0;
          here = ap (λ o. o >>= (λ u. Some (f u))) k.here;
          centre = ap (λ o. o >>= (λ u. Some (f u))) k.centre;
          told = subst (Told m (U x) (distance b p) (f k.u) (f k.u0)) er (kept x _ _ _ k.told);
        })

    -- a quotient that is there has a divisor whose span does not hold 0
    quotient_there : (n : ℕ) (x y made : Record K) → rules.divided m n x y ≡ Ok made → (z : Span K) × (spans.quotient m x.u y.u ≡ Some z)
    quotient_there n x y made e = go (spans.holds_zero m y.u) e
      where
        go : (t : Bool) → cond t (refused Divisor n) (given n (rules.quotient m x y)) ≡ Ok made → (z : Span K) × (spans.quotient m x.u y.u ≡ Some z)
        go true q = absurd (err_ok q)
        go false q = chain_ok _ (spans.quotient m x.u y.u) _ made (found_ok _ n _ made q) (λ z ez _. (z, ez))

    by_quotient : (l r : ℕ) (made : Record K) → after (two rs l r) (λ x. rules.divided m (length rs) x.0 x.1) ≡ Ok made → Valued (exact p vs (Quotient l r)) (exact (centred b p) v0s (Quotient l r)) made
    by_quotient l r made e = after_ok _ (two rs l r) _ made e (λ x ex er.
        let o = two_ok rs l r x ex in
        let kl = known l x.0 o.0 in
        let kr = known r x.1 o.1 in
        let z = quotient_there (length rs) x.0 x.1 made er in
        let nv = quotient_away m keeps _ _ z.0 kl.u kr.u z.1 kl.told.here kr.told.here in
        let nv0 = quotient_away m keeps _ _ z.0 kl.u kr.u0 z.1 kl.told.here (inner m x.1 _ _ _ kr.told) in
        record {
          u = kl.u *F inv_F kr.u;
          u0 = kl.u0 *F inv_F kr.u0;
          here = of_two_is vs l r _ kl.here kr.here ∙ ap (λ o. o >>= (λ i. Some (kl.u *F i))) (inverse_some kr.u nv);
          centre = of_two_is v0s l r _ kl.centre kr.centre ∙ ap (λ o. o >>= (λ i. Some (kl.u0 *F i))) (inverse_some kr.u0 nv0);
          told = subst (Told m (spans.quotient m x.0.u x.1.u) (distance b p) (kl.u *F inv_F kr.u) (kl.u0 *F inv_F kr.u0)) er
              (quotient_kept m keeps (length rs) x.0 x.1 _ _ _ _ _ _ _ (divides kl.u kr.u nv) (divides kl.u0 kr.u0 nv0) kl.told kr.told);
        })

    by_branch : (s q r : ℕ) (made : Record K) → after (all_three rs s q r) (λ x. Ok (rules.branch m x.0 x.1 x.2)) ≡ Ok made → Valued (exact p vs (Branch s q r)) (exact (centred b p) v0s (Branch s q r)) made
    by_branch s q r made e = after_ok _ (all_three rs s q r) _ made e (λ x ex er.
        let o = three_ok rs s q r x ex in
        let ks = known s x.0 o.0 in
        let kq = known q x.1 o.1 in
        let kr = known r x.2 o.2 in
        record {
          u = branch_F ks.u kq.u kr.u;
          u0 = branch_F ks.u0 kq.u0 kr.u0;
          here = ap (λ o. o >>= (λ a. of_two vs q r (λ u v. Some (branch_F a u v)))) ks.here ∙ of_two_is vs q r _ kq.here kr.here;
          centre = ap (λ o. o >>= (λ a. of_two v0s q r (λ u v. Some (branch_F a u v)))) ks.centre ∙ of_two_is v0s q r _ kq.centre kr.centre;
          told = subst (λ x. True m x (distance b p) (branch_F ks.u kq.u kr.u) (branch_F ks.u0 kq.u0 kr.u0)) (ok_is er)
              (branch_kept m keeps x.0 x.1 x.2 _ _ _ _ _ _ _ ks.told kq.told kr.told);
        })

  -- ---- channels and constants
  count-≤ : {x y : ℤ} → x ≤ℤ y → count x ≤F count y
  count-≤ {x} {y} h = record { cross = ≤ℤ_times x y 65536 h }

  by_still : (l u : ℤ) (n : ℕ) (x : Frac) (made : Record K) → still_range m l u n ≡ Ok made → count l ≤F x → x ≤F count u → True m made (distance b p) x x
  by_still l u n x made e h k = chain_ok _ (of_counts m l u) _ made (found_ok _ n _ made e) (λ X eX es.
      subst (λ r. True m r (distance b p) x x) (some_is es) (still_true m keeps X x (distance b p) (counts_in m keeps l u X x eX h k)))

  by_swept : (l u : ℤ) (n : ℕ) (x : Frac) (made : Record K) → swept_range m l u b.centre n ≡ Ok made → count l ≤F x → x ≤F count u → l ≤ℤ b.centre → b.centre ≤ℤ u → (x -F count b.centre) ≈ distance b p
      → True m made (distance b p) x (count b.centre)
  by_swept l u n x made e h k low high d = chain_ok _ (of_counts m l u) _ made (found_ok _ n _ made e) (λ X eX e1. chain_ok _ (of_counts m b.centre b.centre) _ made e1 (λ X0 eX0 es.
      subst (λ r. True m r (distance b p) x (count b.centre)) (some_is es)
      (swept_true m keeps X X0 x (count b.centre) (distance b p) d (counts_in m keeps l u X x eX h k) (counts_in m keeps _ _ X0 _ eX0 (≤F_refl _) (≤F_refl _))
      (counts_nested m keeps l u b.centre b.centre X X0 eX eX0 (count-≤ low) (≤F_refl _) (count-≤ high)))))

  module _ (inside : Centred b) (at : InBox b p) (vs v0s : List (Option Frac)) where
    by_channel : (c n : ℕ) (made : Record K) → channel m b c n ≡ Ok made → Valued (exact p vs (Channel c)) (exact (centred b p) v0s (Channel c)) made
    by_channel c n made e = after_ok _ (found NoChannel n (slice_get b.lower c)) _ made e (λ l el e1. after_ok _ (found NoChannel n (slice_get b.upper c)) _ made e1 (λ u eu e2.
        let ll = found_ok _ n _ l el in
        let uu = found_ok _ n _ u eu in
        let i = at c l u ll uu in
        go l u ll uu i.0 i.1 (eqb c b.swept) refl e2))
      where
        go : (l u : ℤ) → slice_get b.lower c ≡ Some l → slice_get b.upper c ≡ Some u → count l ≤F p c → p c ≤F count u → (t : Bool) → eqb c b.swept ≡ t
            → cond t (swept_range m l u b.centre n) (still_range m l u n) ≡ Ok made → Valued (Some (p c)) (Some (cond (eqb c b.swept) (count b.centre) (p c))) made
        go l u ll uu h k false t q = record { u = p c; u0 = p c; here = refl; centre = ap (λ z. Some (cond z (count b.centre) (p c))) t; told = by_still l u n (p c) made q h k }
        go l u ll uu h k true t q =
            let s = eqb-true c b.swept t in
            let i = inside l u (subst (λ z. slice_get b.lower z ≡ Some l) s ll) (subst (λ z. slice_get b.upper z ≡ Some u) s uu) in
            record {
              u = p c;
              u0 = count b.centre;
              here = refl;
              centre = ap (λ z. Some (cond z (count b.centre) (p c))) t;
              told = by_swept l u n (p c) made q h k i.0 i.1 (subst (λ z. (p c -F count b.centre) ≈ (p z -F count b.centre)) s (≈_refl _));
            }

    by_constant : (z : ℤ) (n : ℕ) (made : Record K) → constant m z n ≡ Ok made → Valued (exact p vs (Constant z)) (exact (centred b p) v0s (Constant z)) made
    by_constant z n made e = go (is_count z) e
      where
        go : (t : Bool) → cond t (still_range m z z n) (refused Number n) ≡ Ok made → Valued (Some (count z)) (Some (count z)) made
        go true q = record { u = count z; u0 = count z; here = refl; centre = refl; told = by_still z z n (count z) made q (≤F_refl _) (≤F_refl _) }
        go false q = absurd (err_ok q)

    -- ---- each operation
    pub step : (rs : List (Record K)) → Agree vs v0s rs → (l : Line) (made : Record K) → rule m b rs l ≡ Ok made → Valued (exact p vs l) (exact (centred b p) v0s l) made
    step rs a (Channel c) made e = by_channel c (length rs) made e
    step rs a (Constant z) made e = by_constant z (length rs) made e
    step rs a (Sum l r) made e = binary vs v0s rs a l r ◌+F◌ (λ x y. spans.sum m x.u y.u) _ (sum_kept m keeps (length rs)) made e
    step rs a (Difference l r) made e = binary vs v0s rs a l r ◌-F◌ (λ x y. spans.difference m x.u y.u) _ (difference_kept m keeps (length rs)) made e
    step rs a (Product l r) made e = binary vs v0s rs a l r ◌*F◌ (λ x y. spans.product m x.u y.u) _ (product_kept m keeps (length rs)) made e
    step rs a (Quotient l r) made e = by_quotient vs v0s rs a l r made e
    step rs a (Square l) made e = lifted vs v0s rs a l square_F (λ x. spans.square m x.u) _ (lift_kept m keeps square_F (spans.square m) (square_shape m) (square_bends m keeps) (length rs)) made e
    step rs a (Magnitude l) made e = lifted vs v0s rs a l magnitude_F (λ x. Some (spans.magnitude m x.u)) _ (lift_kept m keeps magnitude_F (λ s. Some (spans.magnitude m s)) (magnitude_shape m) (magnitude_bends m keeps) (length rs)) made e
    step rs a (Greater l r) made e = binary vs v0s rs a l r max_F (λ x y. None) (λ x y. Ok (rules.greater m x y)) (greater_chosen m keeps) made e
    step rs a (Lesser l r) made e = binary vs v0s rs a l r min_F (λ x y. None) (λ x y. Ok (rules.lesser m x y)) (lesser_chosen m keeps) made e
    step rs a (Branch s q r) made e = by_branch vs v0s rs a s q r made e
