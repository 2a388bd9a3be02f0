-- Both round trips of numbers.
use Rattle.std.proofs.Common.{◌≡◌, ℕ, zero, suc, ◌+◌, ◌*◌, ◌/◌, ◌%◌, ◌^◌, ◌<◌, ◌≤◌, Bool, true, false, cond, ltb, leb, ◌⊎◌, List, [], ◌∷◌, ◌++◌, length, take, Ok, Err, sym, refl, ap, ◌∙◌, inl, inr, ⊎_elim, add-one, arith, pow_pos, pow-add}
use Rattle.std.proofs.lemmas.Nat.{div_below, le-div}
use Rattle.std.proofs.lemmas.Bool.{cases_lt, false≢true, le-leb, le-ltb, leb-true, lt-leb, lt-ltb, ltb-true}
use Rattle.fault.specs.declared.fault.Cause.TheVariants.{Early, Form}
use Rattle.leb.proofs.Forms.{ends_last, ends_next, large, last_last, last_next, size_last, size_next, value_last, value_next}
use Rattle.leb.proofs.Reading.{short_last, short_one}
use Rattle.leb.specs.Numbers.{Bytes, decode, encode, ends, groups, last_group, shortest, size, value, well_formed}
use Rattle.leb.specs.Trips.{RoundTrips}

pub record Wrote (k n : ℕ) (rest : List ℕ) : Type 0 where
  pub ended : ends (groups k n ++ rest) ≡ true
  pub worth : value (groups k n ++ rest) ≡ n
  pub long : size (groups k n ++ rest) ≡ length (groups k n)
  pub tight : 0 < n → 0 < last_group (groups k n ++ rest)
  pub one : n < 128 → size (groups k n ++ rest) ≡ 1

wrote_last : (n : ℕ) (rest : List ℕ) → n < 128 → Wrote zero n rest
wrote_last n rest h =
    record { ended = ends_last n rest h; worth = value_last n rest h; long = size_last n rest h; tight = λ p. rw (last_last n rest h) p; one = λ _. size_last n rest h }

pub one_group : (k n : ℕ) → n < 128 → groups k n ≡ n ∷ []
one_group zero n h = refl
one_group (suc k) n h = rw (lt-ltb n 128 h)

pub wrote : (k n : ℕ) (rest : List ℕ) → n < 2 ^ (7 * k + 7) → Wrote k n rest
wrote zero n rest h = wrote_last n rest h
wrote (suc k) n rest h =
    ⊎_elim
    (λ lt.
    let w = wrote_last n rest lt in
    record { ended = rw (one_group (suc k) n lt) w.ended; worth = rw (one_group (suc k) n lt) w.worth; long = rw (one_group (suc k) n lt) w.long; tight = λ p. rw (one_group (suc k) n lt) (w.tight p); one = λ p. rw (one_group (suc k) n lt) (w.one p) })
    (λ le.
    let b = n % 128 + 128 in
    let hb : 128 ≤ b = omega arith in
    let pow : 2 ^ (7 * suc k + 7) ≡ 2 ^ (7 * k + 7) * 128 = ap (λ (x : ℕ). 2 ^ x) (omega arith) ∙ pow-add 2 (7 * k + 7) 7 in
    let lt : n / 128 < 2 ^ (7 * k + 7) = div_below n 128 (2 ^ (7 * k + 7)) (omega arith) (omega (arith, h, pow)) in
    let w = wrote k (n / 128) rest lt in
    let rest' = groups k (n / 128) ++ rest in
    let g : groups (suc k) n ≡ b ∷ groups k (n / 128) = rw (le-ltb n 128 le) in
    record {
      ended = rw g (ends_next b rest' hb ∙ w.ended);
      worth = rw g (value_next b rest' hb ∙ omega (arith, w.worth));
      long = rw g (size_next b rest' hb ∙ omega (arith, w.long));
      tight = λ p. rw (g, last_next b rest' hb) (w.tight (le-div 1 n 128 (omega arith) (omega arith)));
      one = λ p. absurd (omega arith);
    })
    (cases_lt n 128)

there : (n : ℕ) (rest : List ℕ) → n ≤ 2147483647 → (decode (encode n ++ rest) ≡ Ok n) × (size (encode n ++ rest) ≡ length (encode n))
unfolding encode
there n rest h =
    let w = wrote 9 n rest (omega arith) in
    let bs = encode n ++ rest in
    let short : shortest bs ≡ true = ⊎_elim (λ lt. short_one bs (omega (arith, w.one lt))) (λ le. short_last bs (w.tight (omega arith))) (cases_lt n 128) in
    let m : leb (value bs) 2147483647 ≡ true = le-leb (value bs) 2147483647 (omega (arith, w.worth)) in
    (rw (w.ended, short, m, w.worth), w.long)

-- a number that ends has a group
some : (bs : List ℕ) → ends bs ≡ true → 1 ≤ size bs
some [] e = absurd (false≢true e)
some (b ∷ bs) e = ⊎_elim (λ lt. rw (size_last b bs lt) (omega arith)) (λ le. rw (size_next b bs le) (omega arith)) (cases_lt b 128)

later : (b : ℕ) (bs : List ℕ) → 128 ≤ b → ends (b ∷ bs) ≡ true → (size (b ∷ bs) ≤ 1) ⊎ (0 < last_group (b ∷ bs)) → (ends bs ≡ true) × (0 < last_group bs) × (1 ≤ value bs)
later b bs le e f =
    let e' : ends bs ≡ true = sym (ends_next b bs le) ∙ e in
    let l : 0 < last_group bs = ⊎_elim (λ one. absurd (omega (arith, one, size_next b bs le, some bs e'))) (λ p. rw (last_next b bs le) at p) f in
    (e', l, omega (arith, large bs e' l, pow_pos (7 * size bs)))

back : (k : ℕ) (bs : List ℕ) → Bytes bs → ends bs ≡ true → (size bs ≤ 1) ⊎ (0 < last_group bs) → value bs < 2 ^ (7 * k + 7) → groups k (value bs) ≡ take (size bs) bs
back k [] t e f h = absurd (false≢true e)
back zero (b ∷ bs) t e f h =
    ⊎_elim
    (λ lt. rw (value_last b bs lt, size_last b bs lt))
    (λ le. absurd (omega (arith, h, value_next b bs le, (later b bs le e f).2)))
    (cases_lt b 128)
back (suc k) (b ∷ bs) t e f h =
    ⊎_elim
    (λ lt. rw (value_last b bs lt, size_last b bs lt, one_group (suc k) b lt))
    (λ le.
    let l = later b bs le e f in
    let v = b % 128 + 128 * value bs in
    let pow : 2 ^ (7 * suc k + 7) ≡ 2 ^ (7 * k + 7) * 128 = ap (λ (x : ℕ). 2 ^ x) (omega arith) ∙ pow-add 2 (7 * k + 7) 7 in
    let g : groups (suc k) v ≡ (v % 128 + 128) ∷ groups k (v / 128) = rw (le-ltb v 128 (omega (arith, l.2))) in
    let q : v / 128 ≡ value bs = omega arith in
    let m : v % 128 + 128 ≡ b = omega (arith, t.0) in
    let ih = back k bs t.1 l.0 (inr l.1) (omega (arith, h, value_next b bs le, pow)) in
    rw (value_next b bs le, size_next b bs le, add-one (size bs)) (g ∙ rw (m, q, ih)))
    (cases_lt b 128)

cond_split : (x y : Bool) → cond x y false ≡ true → (x ≡ true) × (y ≡ true)
cond_split x y h = elim x as (λ v. cond v y false ≡ true → (v ≡ true) × (y ≡ true)) [ true ↦ λ e. (refl, e) | false ↦ λ e. absurd (false≢true e) ] h

short_parts : (m n : ℕ) → cond (leb m 1) true (ltb 0 n) ≡ true → (m ≤ 1) ⊎ (0 < n)
short_parts m n h = ⊎_elim (λ le. inl (omega arith)) (λ gt. inr (ltb-true 0 n (rw (lt-leb m 1 gt) at h))) (cases_lt m 2)

well_formed_split : (bs : List ℕ) (n : ℕ) → decode bs ≡ Ok n → (ends bs ≡ true) × (well_formed bs ≡ true) × (value bs ≡ n)
well_formed_split bs n h =
    elim (ends bs) as (λ e. cond e (cond (well_formed bs) (Ok (value bs)) (Err Form)) (Err Early) ≡ Ok n → (e ≡ true) × (well_formed bs ≡ true) × (value bs ≡ n)) [
      | true ↦ λ p.
          elim (well_formed bs) as (λ w. cond w (Ok (value bs)) (Err Form) ≡ Ok n → (true ≡ true) × (w ≡ true) × (value bs ≡ n))
          [ true ↦ λ q. (refl, refl, cc) | false ↦ λ q. let z : ◌≡◌ {A = ℕ} 0 1 = cc in absurd (omega arith) ]
          p
      | false ↦ λ p. let z : ◌≡◌ {A = ℕ} 0 1 = cc in absurd (omega arith)
    ]
    h

again : (n : ℕ) (bs : List ℕ) → Bytes bs → decode bs ≡ Ok n → encode n ≡ take (size bs) bs
unfolding encode
again n bs t e =
    let p = well_formed_split bs n e in
    let q = cond_split (shortest bs) (leb (value bs) 2147483647) p.1 in
    let v : value bs ≤ 2147483647 = leb-true (value bs) 2147483647 q.1 in
    rw p.2 at (back 9 bs t p.0 (short_parts (size bs) (last_group bs) q.0) (omega arith))

pub round_trips : RoundTrips
round_trips = record { there = there; back = again }
