-- What `parse` gives is the number of the word.
use Rattle.std.proofs.Common.{◌≡◌, ℕ, ◌<◌, Bool, true, false, cond, ◌&&◌, List, ℤ, pos, negsuc, nat_lt, nat_le, ◌≤◌, Ok, Err, Result, refl, ap, ◌∙◌, FitsSigned, w64, to_z, of_z, nat_abs, arith}
use Rattle.std.proofs.lemmas.Bool.Decides.{nat_tests}
use Rattle.std.proofs.lemmas.Str.Parse.{IsNumeralModel, numerals_by_value, tells_all_ascii_digits}
use Rattle.std.specs.Str.{all_ascii_digits}
use Rattle.std.specs.Str.Parse.{IsNumeral, ParsesSigned, digits_value, signed_digits_value, without_leading_sign}
use Rattle.script.specs.declared.slip.Problem.TheVariants.{Beyond, NoIndex, NoNumber}
use Rattle.script.specs.Calls.{bounded}
use Rattle.script.specs.Numbers.{fits_64_bits, index_of, is_numeral, not_below_0, number_of}
use Rattle.script.specs.Slips.{Fault, told}
use Rattle.script.specs.declared.slip.Slip.{Slip}
use Rattle.script.proofs.Steps.{fault_is}
use Rattle.std.specs.Int.{FitsUnsignedBits}
use Rattle.std.specs.Option.{ok_or}
use Rattle.std.specs.Result.{OkIff, result_ok}
use Rattle.std.proofs.lemmas.Int.{to_z-of_z}

own : IsNumeralModel (λ ds. all_ascii_digits ds ≡ true) (digits_value 10)
own = numerals_by_value (λ ds. all_ascii_digits ds ≡ true) tells_all_ascii_digits

fits : (z : ℤ) → FitsSigned w64 z → fits_64_bits z ≡ true
fits (pos n) h = let k = h.sfits in grind (arith, nat_tests)
fits (negsuc n) h = let k = h.sfits in grind (arith, nat_tests)

fits_back : (z : ℤ) → fits_64_bits z ≡ true → FitsSigned w64 z
fits_back (pos n) h = record { sfits = grind (arith, nat_tests) }
fits_back (negsuc n) h = record { sfits = grind (arith, nat_tests) }

abbrev Whole : List ℕ → Type 0
Whole word = IsNumeral 10 (without_leading_sign word) × FitsSigned w64 (signed_digits_value 10 word)

some_true : (n : ℕ) → 0 < n → nat_lt 0 n ≡ true
some_true n h = grind (arith, nat_tests)

some_back : (n : ℕ) → nat_lt 0 n ≡ true → 0 < n
some_back n h = grind (arith, nat_tests)

whole_true : (word : List ℕ) → Whole word → is_numeral word && fits_64_bits (signed_digits_value 10 word) ≡ true
whole_true word h = rw (some_true _ h.0.0, own.from _ h.0.1, fits _ h.1) refl

parts : (a b c : Bool) → (a && b) && c ≡ true → (a ≡ true) × (b ≡ true) × (c ≡ true)
parts true true true e = (refl, refl, refl)
parts true true false e = cc
parts true false c e = cc
parts false b c e = cc

whole_back : (word : List ℕ) → is_numeral word && fits_64_bits (signed_digits_value 10 word) ≡ true → Whole word
whole_back word e =
    let p = parts _ _ _ e in
    ((some_back _ p.0, own.to _ p.1), fits_back _ p.2)

pub is_number : (word : List ℕ) → Whole word → number_of word ≡ Ok (signed_digits_value 10 word)
unfolding number_of
is_number word h = rw (whole_true word h) refl

by_test : (word : List ℕ) (b : Bool) → is_numeral word && fits_64_bits (signed_digits_value 10 word) ≡ b → (Whole word → ⊥) → number_of word ≡ Err (record { word = word; problem = NoNumber })
unfolding number_of
by_test word true e n = absurd (n (whole_back word e))
by_test word false e n = rw e refl

pub is_no_number : (word : List ℕ) → (Whole word → ⊥) → number_of word ≡ Err (record { word = word; problem = NoNumber })
is_no_number word n = by_test word _ refl n

pub number_told : {E : Type 0} (word : List ℕ) (parsed : Result ℤ E) (slip : Slip) (r : Result ℤ Slip) → ParsesSigned w64 10 word parsed → r ≡ ok_or (result_ok parsed) slip → slip.word.now ≡ word → slip.problem ≡ NoNumber → told r ≡ number_of word
number_told word (Ok n) slip r h e w p = rw (e, is_number word h.0, h.1) refl
number_told word (Err x) slip r h e w p = rw (e, is_no_number word h, fault_is slip _ _ w p) refl

abbrev none : List ℕ → Result ℤ Fault
none word = Err (record { word = word; problem = NoNumber })

-- the number of a word fits 64 bits
pub number_fits : (word : List ℕ) (n : ℤ) → Ok n ≡ number_of word → FitsSigned w64 n
unfolding number_of
number_fits word n e = by (is_numeral word) (fits_64_bits (signed_digits_value 10 word)) refl e
  where
    by : (a b : Bool) → fits_64_bits (signed_digits_value 10 word) ≡ b → Ok n ≡ cond (a && b) (Ok (signed_digits_value 10 word)) (none word) → FitsSigned w64 n
    by true true f e = let same : n ≡ signed_digits_value 10 word = cc in rw same (fits_back _ f)
    by true false f e = cc
    by false b f e = cc

tried_told : {E : Type 0} (word : List ℕ) (n : ℤ) (tried : Result ℕ E) (slip : Slip) (r : Result ℕ Slip) → OkIff tried (FitsUnsignedBits 64 n) (nat_abs n) → r ≡ ok_or (result_ok tried) slip → slip.word.now ≡ word → slip.problem ≡ NoIndex → FitsSigned w64 n → told r ≡ not_below_0 word n
tried_told word (pos n) (Ok x) slip r h e w p f = rw (e, h.1) refl
tried_told word (pos n) (Err x) slip r h e w p f = let k = f.sfits in absurd (h (omega arith))
tried_told word (negsuc n) (Ok x) slip r h e w p f = absurd h.0
tried_told word (negsuc n) (Err x) slip r h e w p f = rw (e, fault_is slip _ _ w p) refl

pub index_told : {E : Type 0} (word : List ℕ) (n : ℤ) (tried : Result ℕ E) (slip : Slip) (r : Result ℕ Slip) → Ok n ≡ number_of word → OkIff tried (FitsUnsignedBits 64 (to_z w64 (of_z w64 n))) (nat_abs (to_z w64 (of_z w64 n))) → r ≡ ok_or (result_ok tried) slip → slip.word.now ≡ word → slip.problem ≡ NoIndex → told r ≡ index_of word
unfolding index_of
index_told word n tried slip r k h e w p =
    let f = number_fits word n k in
    let same = to_z-of_z w64 n f in
    rw (← k) (tried_told word n tried slip r (rw same at h) e w p f)

-- a number within a limit, and none
bound_in : (word : List ℕ) (n : ℤ) (limit x : ℕ) → FitsUnsignedBits 64 n → x ≡ nat_abs n → x ≤ limit → Ok x ≡ bounded limit word n
bound_in word (pos n) limit x f e h = let t : nat_le n limit ≡ true = grind (arith, nat_tests) in rw (t, e) refl
bound_in word (negsuc n) limit x f e h = absurd f

bound_out : (word : List ℕ) (n : ℤ) (limit : ℕ) → (FitsUnsignedBits 64 n → limit < nat_abs n) → FitsSigned w64 n → Err (record { word = word; problem = Beyond }) ≡ bounded limit word n
bound_out word (pos n) limit h f =
    let k = f.sfits in
    let b : limit < n = h (omega arith) in
    let t : nat_le n limit ≡ false = grind (arith, nat_tests) in rw t refl
bound_out word (negsuc n) limit h f = refl

pub within_told : (word : List ℕ) (n : ℤ) (limit x : ℕ) → Ok n ≡ number_of word → FitsUnsignedBits 64 (to_z w64 (of_z w64 n)) × (x ≡ nat_abs (to_z w64 (of_z w64 n))) → x ≤ limit → Ok x ≡ bounded limit word n
within_told word n limit x k h le =
    let g = rw (to_z-of_z w64 n (number_fits word n k)) at h in
    bound_in word n limit x g.0 g.1 le

pub beyond_told : (word : List ℕ) (n : ℤ) (limit : ℕ) (slip : Slip) → Ok n ≡ number_of word → (FitsUnsignedBits 64 (to_z w64 (of_z w64 n)) → limit < nat_abs (to_z w64 (of_z w64 n))) → slip.word.now ≡ word → slip.problem ≡ Beyond → told (Err slip) ≡ bounded limit word n
beyond_told word n limit slip k h w p =
    let f = number_fits word n k in
    let g = rw (to_z-of_z w64 n f) at h in
    ap Err (fault_is slip _ _ w p) ∙ bound_out word n limit g f
