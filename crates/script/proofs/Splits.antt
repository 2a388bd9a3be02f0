-- What `split_whitespace` gives are the words.
use Rattle.std.proofs.Common.{◌≡◌, ℕ, ◌<◌, Bool, true, false, not, List, [], ◌∷◌, ◌++◌, length, refl, sym, ap, ◌∙◌, append_assoc, append-nil, arith}
use Rattle.std.specs.Char.{is_whitespace, is_not_whitespace, encode_utf8}
use lib.Utf8.{low_scalar}
use Rattle.std.specs.Str.{chars, IsUtf8, all_scalars, encode_utf8_all, NonePass, NoCharPasses, EmptyOrStartsWithPassing}
use Rattle.std.proofs.lemmas.Str.{chars-append, chars-encodes, chars-nil, encodes_same, IsUtf8-encode}
use Rattle.std.proofs.lemmas.Bool.Decides.{nat_tests}
use Rattle.script.specs.Words.{before, words_behind, words_of}

not_false : (b : Bool) → not b ≡ false → b ≡ true
not_false true e = refl
not_false false e = cc

low : (c : ℕ) → is_whitespace c ≡ true → c < 55296
low c e = grind (arith, nat_tests)

-- white space at the front gives no word
gap_passes : (cs ds : List ℕ) → NonePass is_not_whitespace cs → words_behind [] (cs ++ ds) ≡ words_behind [] ds
gap_passes [] ds h = refl
gap_passes (c ∷ cs) ds h = rw (not_false _ h.0) (gap_passes cs ds h.1)

gap_scalars : (cs : List ℕ) → NonePass is_not_whitespace cs → all_scalars cs ≡ true
gap_scalars [] h = refl
gap_scalars (c ∷ cs) h = rw (low_scalar c (low c (not_false _ h.0)), gap_scalars cs h.1) refl

-- characters without white space go to the word that has begun
word_collects : (begun cs ds : List ℕ) → NonePass is_whitespace cs → words_behind begun (cs ++ ds) ≡ words_behind (begun ++ encode_utf8_all cs) ds
word_collects begun [] ds h = rw append-nil refl
word_collects begun (c ∷ cs) ds h = rw h.0 (word_collects (begun ++ encode_utf8 c) cs ds h.1 ∙ ap (λ w. words_behind w ds) (append_assoc begun (encode_utf8 c) (encode_utf8_all cs)))

before_some : (w : List ℕ) (ws : List (List ℕ)) → 0 < length w → before w ws ≡ w ∷ ws
before_some [] ws h = absurd (omega arith)
before_some (b ∷ bs) ws h = refl

-- the word ends where the text ends, and where white space begins
word_ends : (w t more : List ℕ) → 0 < length w → EmptyOrStartsWithPassing is_whitespace t more → words_behind w (chars t) ≡ w ∷ words_behind [] (chars t)
word_ends w [] more h e = rw chars-nil (before_some w [] h)
word_ends w (b ∷ bs) more h e =
    let p = e (omega arith) in
    let one : chars (encode_utf8 p.0) ≡ p.0 ∷ [] = ap chars (sym (append-nil (encode_utf8 p.0))) ∙ chars-encodes (p.0 ∷ []) (rw p.3 refl) in
    let all : chars (b ∷ bs) ≡ p.0 ∷ chars more = ap chars p.2 ∙ chars-append (encode_utf8 p.0) more (IsUtf8-encode p.0 p.3) ∙ ap (λ l. l ++ chars more) one in
    rw all (rw p.1 (before_some w _ h))

-- a word and the text behind it
pub words_of_next : (s gap x t more : List ℕ) → IsUtf8 x → s ≡ gap ++ (x ++ t) → 0 < length x → NoCharPasses is_not_whitespace gap → NoCharPasses is_whitespace x → EmptyOrStartsWithPassing is_whitespace t more → words_of s ≡ x ∷ words_of t
unfolding words_of
words_of_next s gap x t more u e some g w ends =
    let same : u.0 ≡ w.0 = encodes_same u.0 w.0 (u.1.1 ∙ sym w.1) in
    let xs : chars x ≡ w.0 = ap chars (sym u.1.1) ∙ chars-encodes u.0 u.1.0 ∙ same in
    let gaps : chars gap ≡ g.0 = ap chars (sym g.1) ∙ chars-encodes g.0 (gap_scalars g.0 g.2) in
    let gap_utf8 : IsUtf8 gap = (g.0, (gap_scalars g.0 g.2, g.1)) in
    let all : chars s ≡ g.0 ++ (w.0 ++ chars t) =
    ap chars e ∙ chars-append gap (x ++ t) gap_utf8 ∙ ap (λ l. chars gap ++ l) (chars-append x t u) ∙ ap (λ l. l ++ (chars x ++ chars t)) gaps ∙ ap (λ l. g.0 ++ (l ++ chars t)) xs in
    ap (words_behind []) all ∙ gap_passes g.0 (w.0 ++ chars t) g.2 ∙ word_collects [] w.0 (chars t) w.2 ∙ ap (λ v. words_behind v (chars t)) w.1 ∙ word_ends x t more some ends

-- a text of white space has no words
pub words_of_none : (s : List ℕ) → NoCharPasses is_not_whitespace s → words_of s ≡ []
unfolding words_of
words_of_none s g =
    let all : chars s ≡ g.0 ++ [] = ap chars (sym g.1) ∙ chars-encodes g.0 (gap_scalars g.0 g.2) ∙ sym (append-nil g.0) in
    ap (words_behind []) all ∙ gap_passes g.0 [] g.2
