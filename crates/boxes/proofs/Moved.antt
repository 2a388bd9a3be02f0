-- Moving, case by case.
use Rattle.std.proofs.Common.{true, false, refl, ◌≡◌, ℕ, cond, ℤ, ◌≤ℤ◌, ⊎_elim, Some, Ok, Result, sym, ap, ◌∙◌, subst, ◌==◌}
use Rattle.std.proofs.lemmas.Bool.{eqb-false, eqb-true}
use Rattle.std.specs.List.{slice_get}
use Rattle.fault.specs.Refusals.{after}
use Rattle.fault.specs.declared.fault.Fault.{Fault}
use Rattle.fault.proofs.Steps.{ok_is}
use Rattle.boxes.proofs.Accepted.{ok_after, ok_either, range_about_tells, range_tells}
use Rattle.boxes.specs.Boxes.{Box, InOrder, range}
use Rattle.boxes.specs.Moving.{changed, judged, moved}

-- ---- what it tells that the numbers of a move are accepted
module _ (b : Box) (channel : ℕ) where
  pub record Fits (m : ℤ × ℤ × ℤ) : Type 0 where
    pub range : InOrder m.0 m.1
    pub within : channel ≡ b.swept → (m.0 ≤ℤ m.2) × (m.2 ≤ℤ m.1)
    pub still : (channel ≡ b.swept → ⊥) → m.2 ≡ b.centre

  module _ (l u x : ℤ) where
    -- the new range and the new centre
    abbrev pub given : ℤ × ℤ × ℤ
    given = (l, u, cond (channel == b.swept) x b.centre)

    swept_given : channel == b.swept ≡ true → (l, u, x) ≡ given
    swept_given e = ap (λ t. (l, u, cond t x b.centre)) (sym e)

    still_given : channel == b.swept ≡ false → (l, u, b.centre) ≡ given
    still_given e = ap (λ t. (l, u, cond t x b.centre)) (sym e)

    judged_both : {m : ℤ × ℤ × ℤ} → judged b channel l u x ≡ Ok m → (given ≡ m) × Fits given
    judged_both e = ⊎_elim
        (λ s. let t = range_about_tells l u x channel s.1 in
        (sym (swept_given s.0) ∙ t.0, subst Fits (swept_given s.0) (record { range = t.1; within = λ _. t.2; still = λ n. absurd (n (eqb-true channel b.swept s.0)) })))
        (λ s. let r = ok_after (range l u channel) _ s.1 in
        let t = range_tells l u channel r.1 in
        (sym (still_given s.0) ∙ ap (λ r. (r.0, r.1, b.centre)) t.0 ∙ ok_is r.2, subst Fits (still_given s.0) (record { range = t.1; within = λ h. absurd (eqb-false channel b.swept s.0 h); still = λ _. refl })))
        (ok_either (channel == b.swept) _ _ e)

    pub judged_is : {m : ℤ × ℤ × ℤ} → judged b channel l u x ≡ Ok m → given ≡ m
    judged_is e = (judged_both e).0

    pub judged_fits : {m : ℤ × ℤ × ℤ} → judged b channel l u x ≡ Ok m → Fits m
    judged_fits e = let p = judged_both e in subst Fits p.0 p.1

-- ---- the call, by what its numbers are found to be
module _ (b : Box) (channel : ℕ) (lower upper centre : ℤ) {e : ℤ} (has : slice_get b.lower channel ≡ Some e) where
  abbrev goes : Result (ℤ × ℤ × ℤ) Fault → Result Box Fault
  goes r = after r (λ m. Ok (changed b channel m.0 m.1 m.2))

  -- as the code has them
  pub moved_as : {l u x : ℤ} → l ≡ lower → u ≡ upper → x ≡ centre → {r : Result (ℤ × ℤ × ℤ) Fault} → r ≡ judged b channel l u x → goes r ≡ moved b channel lower upper centre
  moved_as el eu ex q = ap goes q ∙ (λ i. goes (judged b channel (el i) (eu i) (ex i))) ∙ sym (rw has)
