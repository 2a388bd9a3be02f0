-- The records of a memory that are lent, one by one.
use Rattle.std.proofs.Common.{◌≡◌, ℕ, ◌<◌, ◌≤◌, nat_lt, cond, ⊎_elim, ℤ, ap₂, List, length, get_or, take, Some, sym, ap, ◌∙◌, arith, length-take-le}
use Rattle.std.proofs.Math.Nat.{min-le_right}
use Rattle.std.proofs.lemmas.Bool.{cases_lt, le-ltb, lt-ltb}
use Rattle.std.proofs.lemmas.List.{get_or-map, get_or-take, length-map, length-take}
use Rattle.std.proofs.lemmas.Option.{slice_get-get_or}
use Rattle.std.specs.List.{slice_get}
use Rattle.boxes.specs.Moving.{moved}
use Rattle.crossing.proofs.Named.{in_front}
use Rattle.crossing.specs.Memory.{records_in}
use Rattle.crossing.specs.Records.{record_of}
use Rattle.crossing.specs.declared.memory.CMark.{CMark}
use Rattle.crossing.specs.declared.memory.CRecord.{CRecord}
use Rattle.fault.specs.Refusals.{refused}
use Rattle.fault.specs.declared.fault.Cause.TheVariants.{Lines}
use Rattle.sheet.specs.Contents.{Contents}
use Rattle.sheet.specs.Moving.{new_box}

module _ {K : Type 0} (of : CMark → K) (w : List CRecord) where
  pub all_lent : 64 ≤ length w → length (records_in of w) ≡ 64
  all_lent enough = length-map (take 64 w) (record_of of) ∙ length-take-le 64 w enough

  pub few_lent : length w < 64 → length (records_in of w) < 64
  few_lent few = let n = length-map (take 64 w) (record_of of) in let k = length-take 64 w in let l = min-le_right 64 (length w) in omega (arith, few, n, k, l)

  module _ (enough : 64 ≤ length w) (i : ℕ) (d : CRecord) where
    pub lent_at : i < 64 → slice_get (records_in of w) i ≡ Some (record_of of (get_or w i d))
    lent_at h = let n = all_lent enough in
        slice_get-get_or (records_in of w) i (record_of of d) (omega (arith, h, n))
        ∙ ap Some (get_or-map (record_of of) (take 64 w) i d (record_of of d) (let k = length-take-le 64 w enough in omega (arith, h, k)) ∙ ap (record_of of) (get_or-take 64 w i d h))

    pub held_at : (n : ℕ) → i < n → n ≤ 64 → slice_get (take n (records_in of w)) i ≡ Some (record_of of (get_or w i d))
    held_at n h few = in_front (records_in of w) n i h ∙ lent_at (omega (arith, h, few))

-- whether enough are lent
pub as_few : {K : Type 0} (of : CMark → K) (w : List CRecord) → nat_lt (length w) 64 ≡ nat_lt (length (records_in of w)) 64
as_few of w = ⊎_elim
    (λ h. lt-ltb (length w) 64 h ∙ sym (lt-ltb (length (records_in of w)) 64 (few_lent of w h)))
    (λ h. let n = all_lent of w h in le-ltb (length w) 64 h ∙ sym (le-ltb (length (records_in of w)) 64 (omega (arith, n))))
    (cases_lt (length w) 64)

-- the box of a move, by what is lent of memory and by what that means
pub box_alike : {K : Type 0} (of : CMark → K) (s : Contents) (w p : List CRecord) (channel : ℕ) (lower upper centre : ℤ)
    → new_box s (length w) (length p) channel lower upper centre ≡ new_box s (length (records_in of w)) (length (records_in of p)) channel lower upper centre
box_alike of s w p channel lower upper centre =
    ap₂ (λ t u. cond t (refused Lines 0) (cond u (refused Lines 0) (moved s.over channel lower upper centre))) (as_few of w) (as_few of p)
