-- Bytes as words of hexadecimal digits.
use Rattle.std.specs.Prelude.{◌≡◌, ℕ, ◌+◌, ◌*◌, ◌⊎◌, cond, List, [], ◌∷◌, ◌++◌, None, Some, Option, Ok, Err, Result, Vec, nat_lt, option_and_then, option_map}
use Rattle.std.specs.Char.{digit_value}
use Rattle.std.specs.declared.alloc.Global.{Global}
use Rattle.script.specs.declared.slip.Problem.TheVariants.{NoByte}
use Rattle.script.specs.declared.slip.Slip.{Slip}
use Rattle.script.specs.Readings.{Reading, read, slipped}
use Rattle.script.specs.Slips.{Fault, no_memory, told}
use Rattle.script.specs.Words.{Place}

-- 0 to 9, a to f or A to F
abbrev pub hex_digit : ℕ → Option ℕ
hex_digit c = cond (nat_lt (digit_value c) 16) (Some (digit_value c)) None

-- the byte of two digits
abbrev pub byte_of : List ℕ → Option ℕ
byte_of (high ∷ low ∷ []) = option_and_then (λ h. option_map (λ l. h * 16 + l) (hex_digit low)) (hex_digit high)
byte_of _ = None

-- a byte of a word goes on; a word that is no byte is a slip
abbrev pub byte_read : Option ℕ → List ℕ → Place → (ℕ → Reading (List ℕ)) → Reading (List ℕ)
byte_read None word at next = slipped word NoByte at
byte_read (Some b) word at next = next b

-- a byte from each word, behind bytes that are known; the word taken last comes last
abbrev pub bytes_in : List ℕ → List (List ℕ) → List ℕ → Reading (List ℕ)
bytes_in bytes [] last = read bytes (record { words = []; last = last })
bytes_in bytes (word ∷ words) last = byte_read (byte_of word) word (record { words = words; last = word }) (λ b. bytes_in (bytes ++ b ∷ []) words word)

abbrev pub bytes_at : List ℕ → Place → Reading (List ℕ)
bytes_at bytes at = bytes_in bytes at.words at.last

-- an answer, and the bytes that were appended until then
pub record Appending : Type 0 where
  pub answer : Result (Unit {0}) Fault
  pub bytes : List ℕ

abbrev pub AppendsOrNoMemory : Result (Unit {0}) Slip → Vec ℕ Global → Appending → Type 0
AppendsOrNoMemory result bytes meant = (record { answer = told result; bytes = bytes.items } ≡ meant) ⊎ (told result ≡ Err no_memory)

-- a byte is appended; two digits of a word that are none are a slip
abbrev pub byte_into : Option ℕ → List ℕ → List ℕ → (List ℕ → Appending) → Appending
byte_into None word bytes next = record { answer = Err (record { word = word; problem = NoByte }); bytes = bytes }
byte_into (Some b) word bytes next = next (bytes ++ b ∷ [])

-- the bytes of a word's digits, two by two, are appended
abbrev pub pairs_into : List ℕ → List ℕ → List ℕ → Appending
pairs_into word bytes [] = record { answer = Ok tt; bytes = bytes }
pairs_into word bytes (odd ∷ []) = record { answer = Err (record { word = word; problem = NoByte }); bytes = bytes }
pairs_into word bytes (high ∷ low ∷ digits) = byte_into (byte_of (high ∷ low ∷ [])) word bytes (λ more. pairs_into word more digits)

abbrev pub on_from : Result (Unit {0}) Fault → List ℕ → (List ℕ → Appending) → Appending
on_from (Ok x) bytes next = next bytes
on_from (Err fault) bytes next = record { answer = Err fault; bytes = bytes }

-- the bytes of each word are appended; a slip ends it
abbrev pub words_into : List (List ℕ) → List ℕ → Appending
words_into [] bytes = record { answer = Ok tt; bytes = bytes }
words_into (word ∷ words) bytes = on_from (pairs_into word bytes word).answer (pairs_into word bytes word).bytes (λ more. words_into words more)
