-- A lower and an upper end more.
use Rattle.std.proofs.Common.{◌≡◌, ℕ, List, [], ◌∷◌, ◌++◌, ℤ, Ok, refl, w64, to_z, of_z}
use Rattle.std.proofs.lemmas.Int.{to_z-of_z}
use Rattle.script.specs.Counts.{pairs_of}
use Rattle.script.specs.Numbers.{number_of}
use Rattle.script.proofs.Numbers.{number_fits}

-- a number of a word that is passed on is the same number
pub passed : (word : List ℕ) (n : ℤ) → Ok n ≡ number_of word → to_z w64 (of_z w64 n) ≡ n
passed word n e = to_z-of_z w64 n (number_fits word n e)

pub pair_more : (words behind rest : List (List ℕ)) (low up : List ℕ) (lower upper lower' upper' : List ℤ) (l u : ℤ) → words ≡ low ∷ behind → behind ≡ up ∷ rest → Ok l ≡ number_of low → Ok u ≡ number_of up → lower' ≡ lower ++ to_z w64 (of_z w64 l) ∷ [] → upper' ≡ upper ++ to_z w64 (of_z w64 u) ∷ [] → pairs_of words lower upper ≡ pairs_of rest lower' upper'
pair_more words behind rest low up lower upper lower' upper' l u a b k m f g = rw (a, b, ← k, ← m, f, g, passed low l k, passed up u m) refl
