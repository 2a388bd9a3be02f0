-- The words of a text, and those that are left of a line.
use Rattle.std.specs.Prelude.{◌≡◌, ℕ, cond, List, [], ◌∷◌, ◌++◌, MatchOption, Option, chars, encode_utf8}
use Rattle.std.specs.Borrow.{Bor}
use Rattle.std.specs.Char.{is_whitespace}
use Rattle.std.specs.Str.Iter.{split_whitespace_rest}
use Rattle.script.specs.declared.words.Words.{Words}

-- a word before other words, if it has letters
abbrev pub before : List ℕ → List (List ℕ) → List (List ℕ)
before [] words = words
before (b ∷ bs) words = (b ∷ bs) ∷ words

-- the words of characters behind a word that has begun: white space ends it
abbrev pub words_behind : List ℕ → List ℕ → List (List ℕ)
words_behind begun [] = before begun []
words_behind begun (c ∷ cs) = cond (is_whitespace c) (before begun (words_behind [] cs)) (words_behind (begun ++ encode_utf8 c) cs)

-- the words of a text
unfoldable pub words_of : List ℕ → List (List ℕ)
words_of text = words_behind [] (chars text)

-- how far a line is read: the words that are left, and the word that was taken last
pub record Place : Type 0 where
  pub words : List (List ℕ)
  pub last : List ℕ

abbrev pub place : Words → Place
place line = record { words = words_of (split_whitespace_rest line.rest); last = line.last.now }

-- the next word is taken, and none where none is left
abbrev pub Takes : Words → Option (Bor (List ℕ)) → Words → Type 0
Takes from word to = MatchOption word (((place from).words ≡ []) × (place to ≡ place from))
    (λ w. ((place from).words ≡ w.now ∷ (place to).words) × ((place to).last ≡ w.now))
