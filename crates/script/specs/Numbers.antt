-- The words that are numbers.
use Rattle.std.specs.Prelude.{ℕ, ◌^◌, Bool, cond, ◌&&◌, List, length, ℤ, pos, negsuc, Ok, Err, Result, nat_lt}
use Rattle.std.specs.Str.{all_ascii_digits}
use Rattle.std.specs.Str.Parse.{signed_digits_value, without_leading_sign}
use Rattle.script.specs.declared.slip.Problem.TheVariants.{NoIndex, NoNumber}
use Rattle.script.specs.Slips.{Fault, after}

-- from -2^63 to 2^63 - 1
abbrev pub fits_64_bits : ℤ → Bool
fits_64_bits (pos n) = nat_lt n (2 ^ 63)
fits_64_bits (negsuc n) = nat_lt n (2 ^ 63)

-- a digit or more behind at most one sign
abbrev pub is_numeral : List ℕ → Bool
is_numeral word = nat_lt 0 (length (without_leading_sign word)) && all_ascii_digits (without_leading_sign word)

-- the number that a word is
unfoldable pub number_of : List ℕ → Result ℤ Fault
number_of word = cond (is_numeral word && fits_64_bits (signed_digits_value 10 word)) (Ok (signed_digits_value 10 word)) (Err (record { word = word; problem = NoNumber }))

-- a number that is not below 0
abbrev pub not_below_0 : List ℕ → ℤ → Result ℕ Fault
not_below_0 word (pos n) = Ok n
not_below_0 word (negsuc n) = Err (record { word = word; problem = NoIndex })

unfoldable pub index_of : List ℕ → Result ℕ Fault
index_of word = after (number_of word) (not_below_0 word)
