-- Constants that stand: their records are made one after the other, and no other record takes their place.
use Rattle.std.proofs.Common.{◌≡◌, ℕ, ◌+◌, ◌<◌, ◌≤◌, List, length, get_or, take, set, ℤ, Some, Ok, Err, Result, true, true≢false, refl, ⊎_elim, sym, ap, ◌∙◌, subst, arith, length-set, length-take-le}
use Rattle.std.specs.Result.{is_ok}
use Rattle.fault.specs.declared.fault.Fault.{Fault}
use Rattle.std.proofs.lemmas.Bool.{cases_order}
use Rattle.std.proofs.lemmas.List.{get_or-set_other, get_or-set_same, set-get_or}
use Rattle.std.proofs.lemmas.Option.{get_or_from_slice_get, slice_get-get_or, slice_get_within}
use Rattle.std.specs.List.{slice_get}
use Rattle.boxes.specs.Boxes.{Box}
use Rattle.crossing.specs.Standing.{Standing, Stands}
use Rattle.kind.specs.Model.{Model}
use Rattle.line.specs.declared.line.Line.{Line}
use Rattle.line.specs.declared.line.Line.TheVariants.{Constant}
use Rattle.rule.specs.Rule.{constant, rule}
use Rattle.slope.specs.declared.record.Record.{Record}

module _ {R : Type 0} (w : List R) (i j : ℕ) (r : R) where
  -- what is put into one place leaves another
  pub put_other : (j ≡ i → ⊥) → (x : R) → slice_get w j ≡ Some x → slice_get (set w i r) j ≡ Some x
  put_other h x e = let n = slice_get_within w j x e in
      slice_get-get_or (set w i r) j x (omega (arith, n, length-set w i r)) ∙ ap Some (get_or-set_other w i j r x h ∙ get_or_from_slice_get w j x x e)

  pub put_same : i < length w → slice_get (set w i r) i ≡ Some r
  put_same h = slice_get-get_or (set w i r) i r (omega (arith, h, length-set w i r)) ∙ ap Some (get_or-set_same w i r r h)

module _ {K : Type 0} (m : Model K) (ls : List Line) where
  -- the constants among the first i lines stand
  abbrev pub StandingTo : ℕ → List (Record K) → Type 0
  StandingTo i w = (n : ℕ) (k : ℤ) → n < i → slice_get ls n ≡ Some (Constant k) → Stands m w n k

  pub all_stand : (w : List (Record K)) (i : ℕ) → length ls ≤ i → StandingTo i w → Standing m ls w
  all_stand w i h s n k e = s n k (let q = slice_get_within ls n (Constant k) e in omega arith) e

  module _ (w : List (Record K)) (i : ℕ) {line : Line} (d : Line) (h : i < length ls) (here : line ≡ get_or ls i d) where
    here_is : {k : ℤ} → slice_get ls i ≡ Some (Constant k) → line ≡ Constant k
    here_is {k} e = here ∙ get_or_from_slice_get ls i (Constant k) d e

    -- a line that is no constant
    pub other_line : ((k : ℤ) → line ≡ Constant k → ⊥) → StandingTo i w → StandingTo (i + 1) w
    other_line not s n k l e = ⊎_elim (λ q. absurd (not k (here_is (subst (λ j. slice_get ls j ≡ Some (Constant k)) q e)))) (λ q. s n k (omega (arith, l, q)) e) (cases_order n i)

    -- what another line's record leaves
    pub still_stand : ((k : ℤ) → line ≡ Constant k → ⊥) → (r : Record K) → Standing m ls w → Standing m ls (set w i r)
    still_stand not r s n k e = let q = s n k e in
        (q.0, q.1, put_other w i n r (λ j. not k (here_is (subst (λ j. slice_get ls j ≡ Some (Constant k)) j e))) q.0 q.2)

    module _ (b : Box) (hw : i < length w) (r : Record K) (ok : Ok r ≡ rule m b (take i w) line) where
      -- the record of a constant by its rule
      by_rule : (k : ℤ) → line ≡ Constant k → Ok r ≡ constant m k i
      by_rule k e = ok ∙ ap (rule m b (take i w)) e ∙ ap (constant m k) (length-take-le i w (omega (arith, hw)))

      pub made_stands : StandingTo i w → StandingTo (i + 1) (set w i r)
      made_stands s n k l e = ⊎_elim
          (λ q. subst (λ j. Stands m (set w i r) j k) (sym q) (r, by_rule k (here_is (subst (λ j. slice_get ls j ≡ Some (Constant k)) q e)), put_same w i i r hw))
          (λ q. let p : n < i = omega (arith, l, q) in let z = s n k p e in (z.0, z.1, put_other w i n r (λ j. omega (arith, j, p)) z.0 z.2))
          (cases_order n i)

    -- a record that stands is the one the rule makes
    pub stands_here : (b : Box) → i ≤ length w → (k : ℤ) → line ≡ Constant k → Stands m w i k → (r : Record K) × (Ok r ≡ rule m b (take i w) line) × (w ≡ set w i r)
    stands_here b hw k e s = (
      s.0,
      s.1 ∙ sym (ap (rule m b (take i w)) e ∙ ap (constant m k) (length-take-le i w hw)),
      sym (ap (set w i) (sym (get_or_from_slice_get w i s.0 s.0 s.2)) ∙ set-get_or w i s.0),
    )

pub accepted_is : (r : Result (Unit {0}) Fault) → is_ok r ≡ true → (u : Unit {0}) × (r ≡ Ok u)
accepted_is (Ok u) e = (u, refl)
accepted_is (Err f) e = absurd (true≢false (sym e))
