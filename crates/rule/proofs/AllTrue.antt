-- If each line has the record that the rules give it, each tells the truth: the induction over the lines.
use Rattle.std.proofs.Common.{◌≡◌, ◌+◌, ◌<◌, List, [], ◌∷◌, ◌++◌, length, Some, Ok, Option, sym, refl, ap, ◌∙◌, subst, ⊎_elim, arith, length-append}
use Rattle.std.specs.List.{slice_get}
use Rattle.boxes.specs.Boxes.{Box, Centred}
use Rattle.exact.specs.Fraction.{Frac}
use Rattle.exact.specs.Optional.{◌>>=◌}
use Rattle.fault.proofs.Steps.{after_ok, none_some, ok_is}
use Rattle.kind.specs.Model.{Model, Rules}
use Rattle.line.specs.declared.line.Line.{Line}
use Rattle.slope.specs.declared.record.Record.{Record}
use Rattle.rule.proofs.Places.{nth_new, nth_old, nth_push}
use Rattle.rule.proofs.Tells.{Agree, Valued, step}
use Rattle.rule.specs.Exact.{InBox, Point, centred, earlier, values_from}
use Rattle.rule.specs.Records.{RecordsTrue, records_from}
use Rattle.rule.specs.Rule.{rule}

module _ {K : Type 0} (m : Model K) (keeps : Rules m) where
  module _ (b : Box) (p : Point) where
    -- one line more
    grown : (vs v0s : List (Option Frac)) (rs : List (Record K)) (o o0 : Option Frac) (r : Record K) → length vs ≡ length rs → length v0s ≡ length rs
        → Agree m keeps b p vs v0s rs → Valued m keeps b p o o0 r → Agree m keeps b p (vs ++ o ∷ []) (v0s ++ o0 ∷ []) (rs ++ r ∷ [])
    grown vs v0s rs o o0 r lv l0 agree new i x e = ⊎_elim before here (nth_push r rs i x e)
      where
        old : (ws : List (Option Frac)) (w : Option Frac) → i < length ws → earlier (ws ++ w ∷ []) i ≡ earlier ws i
        old ws w h = ap (λ (z : Option (Option Frac)). z >>= (λ v. v)) (nth_old w ws i h)

        fresh : (ws : List (Option Frac)) (w : Option Frac) → i ≡ length ws → earlier (ws ++ w ∷ []) i ≡ w
        fresh ws w h = ap (λ (z : Option (Option Frac)). z >>= (λ v. v)) (ap (slice_get (ws ++ w ∷ [])) h ∙ nth_new w ws)

        before : (i < length rs) × (slice_get rs i ≡ Some x) → Valued m keeps b p (earlier (vs ++ o ∷ []) i) (earlier (v0s ++ o0 ∷ []) i) x
        before h = let k = agree i x h.1 in let t = h.0 in
            record { u = k.u; u0 = k.u0; here = old vs o (omega arith) ∙ k.here; centre = old v0s o0 (omega arith) ∙ k.centre; told = k.told }

        here : (i ≡ length rs) × (r ≡ x) → Valued m keeps b p (earlier (vs ++ o ∷ []) i) (earlier (v0s ++ o0 ∷ []) i) x
        here h = subst (Valued m keeps b p (earlier (vs ++ o ∷ []) i) (earlier (v0s ++ o0 ∷ []) i)) h.1
            (record { u = new.u; u0 = new.u0; here = fresh vs o (h.0 ∙ sym lv) ∙ new.here; centre = fresh v0s o0 (h.0 ∙ sym l0) ∙ new.centre; told = new.told })

    pushed : {X Y : Type 0} (xs : List X) (ys : List Y) (x : X) (y : Y) → length xs ≡ length ys → length (xs ++ x ∷ []) ≡ length (ys ++ y ∷ [])
    pushed xs ys x y e = length-append xs (x ∷ []) ∙ ap (λ n. n + 1) e ∙ sym (length-append ys (y ∷ []))

    all : Centred b → InBox b p → (ls : List Line) (vs v0s : List (Option Frac)) (rs made : List (Record K)) → length vs ≡ length rs → length v0s ≡ length rs → Agree m keeps b p vs v0s rs
        → records_from m b rs ls ≡ Ok made → Agree m keeps b p (values_from p vs ls) (values_from (centred b p) v0s ls) made
    all inside at [] vs v0s rs made lv l0 agree e = subst (Agree m keeps b p vs v0s) (ok_is e) agree
    all inside at (l ∷ ls) vs v0s rs made lv l0 agree e = after_ok _ (rule m b rs l) _ made e (λ r er e1.
        all inside at ls _ _ (rs ++ r ∷ []) made (pushed vs rs _ r lv) (pushed v0s rs _ r l0)
        (grown vs v0s rs _ _ r lv l0 agree (step m keeps b p inside at vs v0s rs agree l r er)) e1)

  pub records_true : RecordsTrue m
  records_true b inside ls rs e p at i r q =
      let k = all b p inside at ls [] [] [] rs refl refl (λ j x z. absurd (none_some z)) e i r q in
      record { u = k.u; u0 = k.u0; here = k.here; centre = k.centre; told = k.told }
