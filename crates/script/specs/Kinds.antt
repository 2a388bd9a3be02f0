-- The words of the number kinds.
use Rattle.std.specs.Prelude.{◌≡◌, ℕ, List, [], ◌∷◌, Ok, Err, Result}
use Rattle.script.specs.declared.call.KindName.{KindName}
use Rattle.script.specs.declared.call.KindName.TheVariants.{Fixed, Sliding}
use Rattle.script.specs.declared.slip.Problem.{Problem}
use Rattle.script.specs.declared.slip.Problem.TheVariants.{NoKind}

-- its letters: fixed, sliding
abbrev pub word_of : KindName → List ℕ
word_of Fixed = 102 ∷ 105 ∷ 120 ∷ 101 ∷ 100 ∷ []
word_of Sliding = 115 ∷ 108 ∷ 105 ∷ 100 ∷ 105 ∷ 110 ∷ 103 ∷ []

-- the kind that a word names; any other word is no kind
abbrev pub Named : List ℕ → Result KindName Problem → Type 0
Named w (Ok k) = w ≡ word_of k
Named w (Err e) = (e ≡ NoKind) × (w ≡ word_of Fixed → ⊥) × (w ≡ word_of Sliding → ⊥)
