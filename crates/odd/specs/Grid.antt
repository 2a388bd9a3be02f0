-- The odd kind: the marks −1, 0 and 1, and no others.
use Rattle.std.specs.Prelude.{zero, suc, ℤ, pos, negsuc, Some, None, Option}
use Rattle.std.proofs.Common.{lit<}
use Rattle.kind.specs.Grid.{Grid, grid_model}
use Rattle.kind.specs.Model.{Model}
use Rattle.odd.specs.declared.sign.Sign.{Sign}
use Rattle.odd.specs.declared.sign.Sign.TheVariants.{Minus, Nought, Plus}

abbrev pub whole : Sign → ℤ
whole Minus = negsuc 0
whole Nought = pos 0
whole Plus = pos 1

abbrev pub negative : Sign → Sign
negative Minus = Plus
negative Nought = Nought
negative Plus = Minus

-- the mark of a whole number, if it is one
unfoldable pub sign_of : ℤ → Option Sign
sign_of (pos zero) = Some Nought
sign_of (pos (suc zero)) = Some Plus
sign_of (pos (suc (suc n))) = None
sign_of (negsuc zero) = Some Minus
sign_of (negsuc (suc n)) = None

abbrev pub sign_grid : Grid Sign
sign_grid = record { unit = 1; some_unit = lit< tt; size = whole; top = Plus; nought = Nought; one = Plus; minus = negative; down = sign_of }

abbrev pub sign_model : Model Sign
sign_model = grid_model sign_grid
