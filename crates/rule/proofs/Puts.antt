-- What a record that is put into its place leaves, accepted or refused.
use Rattle.std.proofs.Common.{◌≡◌, ℕ, ◌<◌, cond, List, length, take, set, Ok, Err, Result, refl, sym, ap, ◌∙◌}
use Rattle.std.proofs.lemmas.Bool.{lt-ltb}
use Rattle.boxes.specs.Boxes.{Box}
use Rattle.fault.proofs.Steps.{err_is, err_ok}
use Rattle.fault.specs.Refusals.{refused}
use Rattle.fault.specs.declared.fault.Cause.TheVariants.{Lines}
use Rattle.fault.specs.declared.fault.Fault.{Fault}
use Rattle.kind.specs.Model.{Model}
use Rattle.line.specs.declared.line.Line.{Line}
use Rattle.rule.specs.Placed.{accepts, placed, stored}
use Rattle.rule.specs.Rule.{rule}
use Rattle.slope.specs.declared.record.Record.{Record}

module _ {R : Type 0} (w : List R) (n : ℕ) where
  -- a refusal is the maker's, and leaves all
  pub refusal : {e : Fault} {w' : List R} (made : Result R Fault) → Err e ≡ accepts made → w' ≡ stored w n made → (Err e ≡ made) × (w' ≡ w)
  refusal (Ok r) p q = absurd (err_ok p)
  refusal (Err f) p q = (ap Err (err_is p), q)

  -- what is accepted is in its place
  pub acceptance : {x : Unit {0}} {w' : List R} (made : Result R Fault) → Ok x ≡ accepts made → w' ≡ stored w n made → (r : R) × (Ok r ≡ made) × (w' ≡ set w n r)
  acceptance (Ok r) p q = (r, refl, q)
  acceptance (Err f) p q = absurd (err_ok (sym p))

module _ {K : Type 0} (m : Model K) (b : Box) (w : List (Record K)) (n : ℕ) (line : Line) (h : n < length w) where
  pub placed_is : placed m b w n line ≡ rule m b (take n w) line
  placed_is = ap (λ t. cond t (rule m b (take n w) line) (refused Lines 0)) (lt-ltb n (length w) h)

  pub line_refused : {e : Fault} {w' : List (Record K)} → Err e ≡ accepts (placed m b w n line) → w' ≡ stored w n (placed m b w n line) → (Err e ≡ rule m b (take n w) line) × (w' ≡ w)
  line_refused p q = let r = refusal w n (placed m b w n line) p q in (r.0 ∙ placed_is, r.1)

  pub line_made : {x : Unit {0}} {w' : List (Record K)} → Ok x ≡ accepts (placed m b w n line) → w' ≡ stored w n (placed m b w n line) → (r : Record K) × (Ok r ≡ rule m b (take n w) line) × (w' ≡ set w n r)
  line_made p q = let r = acceptance w n (placed m b w n line) p q in (r.0, r.1 ∙ placed_is, r.2)
