-- Reading a number: where its last group stands, and what its groups join to.
use Rattle.std.proofs.Common.{◌≡◌, ℕ, zero, suc, ◌+◌, ◌-◌, ◌*◌, ◌%◌, ◌<◌, ◌≤◌, Bool, true, false, cond, ltb, leb, List, [], ◌∷◌, length, get_or, take, not, position, Some, None, Ok, Err, Result, sym, refl, ap, ◌∙◌, ⊎_elim, mod-eq_of_lt, add-one, arith, pow_mono}
use Rattle.std.proofs.lemmas.List.Quantifiers.{position-Some}
use Rattle.std.proofs.lemmas.Bool.{cases_lt, cond_both, le-leb, le-ltb, lt-leb, lt-ltb, ltb-false, ltb-true}
use Rattle.std.specs.List.{position_or_len, prefix_len}
use Rattle.fault.specs.declared.fault.Cause.{Cause}
use Rattle.fault.specs.declared.fault.Cause.TheVariants.{Early, Form}
use Rattle.leb.proofs.Forms.{ends_last, ends_next, large, last_last, last_next, size_last, size_next, value_last, value_next}
use Rattle.leb.specs.Groups.{Judged, joined, last}
use Rattle.leb.specs.Numbers.{decode, ends, last_group, shortest, size, value}

-- the first i + 1 bytes are the groups of the number that the bytes begin with
record Whole (bs gs : List ℕ) (i : ℕ) : Type 0 where
  ended : ends bs ≡ true
  long : size bs ≡ i + 1
  many : length gs ≡ i + 1
  worth : value bs ≡ joined gs
  tail : last_group bs ≡ get_or gs i 0

whole : (bs : List ℕ) (i : ℕ) → i < length bs → get_or bs i 0 < 128 → ((k : ℕ) → k < i → 128 ≤ get_or bs k 0) → Whole bs (take (suc i) bs) i
whole [] i h l p = absurd (omega arith)
whole (b ∷ bs) zero h l p = record { ended = ends_last b bs l; long = size_last b bs l; many = refl; worth = value_last b bs l ∙ omega (arith, mod-eq_of_lt l); tail = last_last b bs l }
whole (b ∷ bs) (suc i) h l p =
    let le : 128 ≤ b = p 0 (omega arith) in
    let w = whole bs i (omega arith) l (λ k q. p (suc k) (omega arith)) in
    record {
      ended = ends_next b bs le ∙ w.ended;
      long = size_next b bs le ∙ omega (arith, w.long);
      many = omega (arith, w.many);
      worth = value_next b bs le ∙ ap (λ v. b % 128 + 128 * v) w.worth;
      tail = last_next b bs le ∙ w.tail;
    }

abbrev ends_here : ℕ → Bool
ends_here b = ltb b 128

found : (bs : List ℕ) (i : ℕ) → position ends_here bs ≡ Some i → Whole bs (take (i + 1) bs) i
found bs i e =
    let p = position-Some ends_here bs i 0 e in
    rw add-one (whole bs i p.0 (ltb-true _ 128 p.1) (λ k h. ltb-false _ 128 (p.2 k h)))

-- no byte is the last group
unended : (bs : List ℕ) → length bs ≤ prefix_len (λ b. not (ends_here b)) bs → ends bs ≡ false
unended [] h = refl
unended (b ∷ bs) h =
    ⊎_elim
    (λ lt. let e = rw (lt-ltb b 128 lt) at h in absurd (omega arith))
    (λ le. let e = rw (le-ltb b 128 le) at h in ends_next b bs le ∙ unended bs (omega arith))
    (cases_lt b 128)

no_end : (bs : List ℕ) → position ends_here bs ≡ None → ends bs ≡ false
no_end bs e = go (ltb p (length bs)) refl e
  where
    p : ℕ
    p = position_or_len ends_here bs

    go : (t : Bool) → ltb p (length bs) ≡ t → cond t (Some p) None ≡ None → ends bs ≡ false
    go true h q = let z : ◌≡◌ {A = ℕ} 0 1 = cc in absurd (omega arith)
    go false h q = unended bs (ltb-false p (length bs) h)

pub early : (bs : List ℕ) → position ends_here bs ≡ None → decode bs ≡ Err Early
early bs e = rw (no_end bs e)

pub short_one : (bs : List ℕ) → size bs ≤ 1 → shortest bs ≡ true
short_one bs h = rw (le-leb (size bs) 1 h)

pub short_last : (bs : List ℕ) → 0 < last_group bs → shortest bs ≡ true
short_last bs h = rw (lt-ltb 0 (last_group bs) h) (cond_both (leb (size bs) 1) true true (λ t. t ≡ true) (λ _. refl) (λ _. refl))

pub form_long : (bs : List ℕ) → ends bs ≡ true → 1 < size bs → last_group bs ≡ 0 → decode bs ≡ Err Form
form_long bs e long zero-last = rw (e, lt-leb (size bs) 1 long, zero-last)

pub form_large : (bs : List ℕ) → ends bs ≡ true → 2147483647 < value bs → decode bs ≡ Err Form
form_large bs e big =
    rw (e, lt-leb (value bs) 2147483647 big)
    (cond_both (shortest bs) false false (λ t. cond {A = Result ℕ Cause} t (Ok (value bs)) (Err Form) ≡ Err Form) (λ _. refl) (λ _. refl))

-- what is answered for the groups is what their number is
module _ (bs : List ℕ) (i : ℕ) (e : position ends_here bs ≡ Some i) where
  w : Whole bs (take (i + 1) bs) i
  w = found bs i e

  last_is : last (take (i + 1) bs) ≡ last_group bs
  last_is = let n : length (take (i + 1) bs) - 1 ≡ i = omega (arith, w.many) in rw n (sym w.tail)

  pub size_is : length (take (i + 1) bs) ≡ size bs
  size_is = w.many ∙ sym w.long

  pub accepted : (n : ℕ) → Judged (take (i + 1) bs) (Some n) → decode bs ≡ Ok n
  accepted n j =
      let small : leb (value bs) 2147483647 ≡ true = le-leb _ _ (omega (arith, w.worth, j.0, j.2)) in
      let short : shortest bs ≡ true =
      ⊎_elim
      (λ one. short_one bs (omega (arith, w.long, w.many)))
      (λ more. short_last bs (omega (arith, last_is, j.3 more)))
      (cases_lt (length (take (i + 1) bs)) 2) in
      rw (w.ended, short, small) (ap Ok (w.worth ∙ sym j.0))

  pub refused : Judged (take (i + 1) bs) None → decode bs ≡ Err Form
  refused j =
      ⊎_elim
      (λ many. ⊎_elim
      (λ lt. form_long bs w.ended (omega (arith, w.long, w.many)) (omega arith))
      (λ le. let p = pow_mono {i = 42} {j = 7 * size bs} (omega (arith, w.long, w.many)) in form_large bs w.ended (omega (arith, large bs w.ended le, p)))
      (cases_lt (last_group bs) 1))
      (λ o. ⊎_elim
      (λ big. form_large bs w.ended (omega (arith, w.worth)))
      (λ long. form_long bs w.ended (omega (arith, w.long, w.many, long.0)) (sym last_is ∙ long.1))
      o)
      j
