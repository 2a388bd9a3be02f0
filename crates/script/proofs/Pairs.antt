-- A byte more.
use Rattle.std.proofs.Common.{◌≡◌, ℕ, List, [], ◌∷◌, ◌++◌, None, Some, Ok, Option, refl}
use Rattle.std.specs.Option.{ok_or}
use Rattle.script.specs.Bytes.{byte_of, pairs_into}

pub pair_more : (word bytes bytes' digits rest s : List ℕ) (b : ℕ) → s ≡ digits ++ rest → byte_of digits ≡ Some b → bytes' ≡ bytes ++ b ∷ [] → pairs_into word bytes s ≡ pairs_into word bytes' rest
pair_more word bytes bytes' [] rest s b e k f = cc
pair_more word bytes bytes' (x ∷ []) rest s b e k f = cc
pair_more word bytes bytes' (x ∷ y ∷ []) rest s b e k f = rw (e, k, f) refl
pair_more word bytes bytes' (x ∷ y ∷ z ∷ more) rest s b e k f = cc

pub some_from : {T E : Type 0} (o : Option T) (x : T) (e : E) → Ok x ≡ ok_or o e → o ≡ Some x
some_from None x e h = cc
some_from (Some y) x e h = cc
