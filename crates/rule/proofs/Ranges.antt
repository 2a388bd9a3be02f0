-- What the record of a channel comes to, case by case.
use Rattle.std.proofs.Common.{◌≡◌, ℕ, cond, eqb, take, ℤ, IsErrAnd, Some, None, Ok, Err, Option, Result, sym, refl, ap, ◌∙◌, ap₂}
use Rattle.std.proofs.lemmas.Result.{err_from_is_err_and}
use Rattle.std.proofs.lemmas.Bool.{eq-eqb, ne_eqb}
use Rattle.std.proofs.lemmas.Option.{slice_get-map}
use Rattle.std.specs.List.{slice_get}
use Rattle.std.specs.Option.{option_map}
use Rattle.boxes.specs.Stored.{box_of}
use Rattle.boxes.specs.declared.channels.ChannelBox.{ChannelBox}
use Rattle.boxes.specs.declared.range.Range.{Range}
use Rattle.exact.specs.Optional.{◌>>=◌}
use Rattle.fault.specs.Refusals.{after, found}
use Rattle.fault.specs.declared.fault.Cause.TheVariants.{NoChannel}
use Rattle.fault.specs.declared.fault.Fault.{Fault}
use Rattle.kind.specs.Model.{Model}
use Rattle.slope.specs.Rules.{given, swept}
use Rattle.slope.specs.declared.record.Record.{Record}
use Rattle.span.specs.Spans.{of_counts}
use Rattle.span.specs.declared.span.Span.{Span}
use Rattle.rule.proofs.Exits.{given_on, given_out}
use Rattle.rule.specs.Rule.{channel, still_range, swept_range}

module _ {K : Type 0} (m : Model K) where
  -- the centre is absent
  pub swept_out : (place : ℕ) {lower upper centre lower' upper' centre' : ℤ} {x : Span K} {e : Fault} {o o0 : Option (Span K)} {r : Result (Record K) Fault}
      → lower' ≡ lower → upper' ≡ upper → centre' ≡ centre → IsErrAnd r (λ y. y ≡ e)
      → o ≡ of_counts m lower' upper' → o0 ≡ of_counts m centre' centre' → given place o ≡ Ok x → given place o0 ≡ Err e → r ≡ swept_range m lower upper centre place
  swept_out place {x = x} {e = e} {o = o} {o0 = o0} {r = r} l u n h i i0 p q = let k = err_from_is_err_and r h in
      k.1 ∙ ap Err k.2 ∙ sym (given_out place (λ x0. Some (swept m x x0)) o0 e q)
      ∙ sym (given_on place (λ x. o0 >>= (λ x0. Some (swept m x x0))) o x p)
      ∙ ap₂ (λ u v. given place (u >>= (λ x. v >>= (λ x0. Some (swept m x x0))))) (i ∙ ap₂ (of_counts m) l u) (i0 ∙ ap (λ z. of_counts m z z) n)

  -- ---- by the stored range of the channel
  module _ (b : ChannelBox) (c place : ℕ) where
    abbrev pub stored : Result Range Fault
    stored = found NoChannel place (slice_get (take b.channels b.ranges) c)

    abbrev picked : ℤ → ℤ → Result (Record K) Fault
    picked l u = cond (eqb c b.swept) (swept_range m l u b.centre place) (still_range m l u place)

    there : channel m (box_of b) c place ≡ after stored (λ r. picked r.lower r.upper)
    there = ap₂ (λ o n. after (found NoChannel place o) (λ l. after (found NoChannel place n) (λ u. picked l u)))
        (slice_get-map (λ r. r.lower) (take b.channels b.ranges) c) (slice_get-map (λ r. r.upper) (take b.channels b.ranges) c) ∙ both (slice_get (take b.channels b.ranges) c)
      where
        both : (o : Option Range) → after (found NoChannel place (option_map (λ r. r.lower) o)) (λ l. after (found NoChannel place (option_map (λ r. r.upper) o)) (λ u. picked l u))
            ≡ after (found NoChannel place o) (λ r. picked r.lower r.upper)
        both None = refl
        both (Some r) = refl

    pub no_channel : {x : Result (Record K) Fault} {e : Fault} → IsErrAnd x (λ y. y ≡ e) → Err e ≡ stored → x ≡ channel m (box_of b) c place
    no_channel {x = x} h k = let p = err_from_is_err_and x h in p.1 ∙ ap Err p.2 ∙ sym (there ∙ ap (λ o. after o (λ r. picked r.lower r.upper)) (sym k))

    module _ {r : Range} (k : Ok r ≡ stored) where
      on : channel m (box_of b) c place ≡ picked r.lower r.upper
      on = there ∙ ap (λ o. after o (λ r. picked r.lower r.upper)) (sym k)

      pub the_swept : {x : Result (Record K) Fault} {x0 : ℤ} → x0 ≡ b.centre → x ≡ swept_range m r.lower r.upper x0 place → c ≡ b.swept → x ≡ channel m (box_of b) c place
      the_swept q h e = h ∙ ap (λ z. swept_range m r.lower r.upper z place) q
          ∙ sym (on ∙ ap (λ t. cond t (swept_range m r.lower r.upper b.centre place) (still_range m r.lower r.upper place)) (eq-eqb _ _ e))

      pub another : {x : Result (Record K) Fault} → x ≡ still_range m r.lower r.upper place → (c ≡ b.swept → ⊥) → x ≡ channel m (box_of b) c place
      another h n = h ∙ sym (on ∙ ap (λ t. cond t (swept_range m r.lower r.upper b.centre place) (still_range m r.lower r.upper place)) (ne_eqb _ _ n))
