-- The words of the answers, where there was memory for them.
use Rattle.std.specs.Prelude.{◌≡◌, ℕ, ◌/◌, ◌%◌, false, List, [], ◌∷◌, ◌++◌, codes, take, IfOk, Ok, Err, Result, string_bytes}
use Rattle.std.specs.Fmt.{decimal, digit_glyph, signed_decimal}
use Rattle.std.specs.List.{flat_map}
use Rattle.std.specs.declared.alloc.AllocError.{AllocError}
use Rattle.std.specs.declared.alloc.Global.{Global}
use Rattle.std.specs.declared.string.String.{String}
use Rattle.fault.specs.Causes.{number}
use Rattle.fault.specs.declared.fault.Fault.{Fault}
use Rattle.report.specs.declared.answer.Report.{Report}
use Rattle.runs.specs.declared.call.Answer.{Answer}
use Rattle.runs.specs.declared.call.Answer.TheVariants.{Accepted, Length, Line}
use Rattle.runs.specs.declared.call.Answer.TheVariants as answers

abbrev pub Text : Type 0
Text = Result (String Global) AllocError

abbrev pub Says : List ℕ → Text → Type 0
Says words t = IfOk t (λ s. string_bytes s ≡ words)

-- these words, others that are left open, and these words
abbrev pub SaysAround : List ℕ → List ℕ → Text → Type 0
SaysAround before behind t = IfOk t (λ s. (open_words : List ℕ) × (string_bytes s ≡ before ++ open_words ++ behind))

-- bytes in hexadecimal: two digits each, behind a space
abbrev pub hex_byte : ℕ → List ℕ
hex_byte b = 32 ∷ digit_glyph false (b / 16) ∷ digit_glyph false (b % 16) ∷ []

abbrev pub hex_bytes : List ℕ → List ℕ
hex_bytes = flat_map hex_byte

-- what a report says: behind the two numbers in counts stands in brackets what they are worth
abbrev pub report_words : Report → List ℕ
report_words r = codes ": middle " ++ signed_decimal r.middle ++ codes " margin " ++ signed_decimal r.margin ++ codes " ("

-- what a refusal says: behind its number and place stands in brackets its cause in words
abbrev pub refusal_words : Fault → List ℕ
refusal_words e = codes ": refused " ++ decimal (number e.cause) ++ codes " at " ++ decimal e.place ++ codes " ("

-- how the answer to a look at a line begins
abbrev pub line_words : List ℕ → ℕ → List ℕ
line_words name line = name ++ codes " " ++ decimal line ++ codes ": "

-- what a call of this name answers, with the bytes that it wrote to
abbrev pub Told : List ℕ → Result Answer Fault → List ℕ → Text → Type 0
Told name (Ok Accepted) out t = Says (name ++ codes ": accepted") t
Told name (Ok (Line n)) out t = Says (name ++ codes ": line " ++ decimal n) t
Told name (Ok (Length n)) out t = Says (name ++ codes ":" ++ hex_bytes (take n out)) t
Told name (Ok (answers.Report r)) out t = SaysAround (name ++ report_words r) (codes ")") t
Told name (Err e) out t = SaysAround (name ++ refusal_words e) (codes ")") t
