-- The odd kind's grid is lawful, so it keeps the rules.
use Rattle.std.specs.Prelude.{◌≡◌, zero, suc, ℤ, pos, negsuc, neg_ℤ, ◌≤ℤ◌, Some, refl}
use Rattle.std.proofs.Common.{arith}
use Rattle.std.proofs.lemmas.Int.{ints}
use Rattle.std.specs.Int.Signed.{le_z_yes}
use Rattle.kind.proofs.GridRules.{grid_rules}
use Rattle.kind.specs.Grid.{Lawful, Nearest}
use Rattle.kind.specs.Model.{Rules}
use Rattle.odd.specs.Grid.{negative, sign_grid, sign_model, sign_of, whole}
use Rattle.odd.specs.declared.sign.Sign.{Sign}
use Rattle.odd.specs.declared.sign.Sign.TheVariants.{Minus, Nought, Plus}

-- ---- the rules
-- a whole number from −1 to 1 is a mark
pub record Marked (k : ℤ) : Type 0 where
  pub mark : Sign
  pub found : sign_of k ≡ Some mark
  pub is : whole mark ≡ k

pub marked : (k : ℤ) → neg_ℤ (pos 1) ≤ℤ k → k ≤ℤ pos 1 → Marked k
unfolding sign_of
marked (pos zero) p q = record { mark = Nought; found = refl; is = refl }
marked (pos (suc zero)) p q = record { mark = Plus; found = refl; is = refl }
marked (pos (suc (suc n))) p q = absurd (omega (arith, ints))
marked (negsuc zero) p q = record { mark = Minus; found = refl; is = refl }
marked (negsuc (suc n)) p q = absurd (omega (arith, ints))

near : (k : ℤ) → Marked k → Nearest sign_grid k
near k s = record {
  mark = s.mark;
  found = s.found;
  low = let e = s.is in omega (arith, ints);
  most = λ a h. let e = s.is in omega (arith, ints);
}

same : (a b : Sign) → whole a ≡ whole b → a ≡ b
same Minus Minus e = refl
same Minus Nought e = absurd (omega (arith, ints))
same Minus Plus e = absurd (omega (arith, ints))
same Nought Minus e = absurd (omega (arith, ints))
same Nought Nought e = refl
same Nought Plus e = absurd (omega (arith, ints))
same Plus Minus e = absurd (omega (arith, ints))
same Plus Nought e = absurd (omega (arith, ints))
same Plus Plus e = refl

most : (a : Sign) → whole a ≤ℤ pos 1
most Minus = le_z_yes tt
most Nought = le_z_yes tt
most Plus = le_z_yes tt

minus_is : (a : Sign) → whole (negative a) ≡ neg_ℤ (whole a)
minus_is Minus = refl
minus_is Nought = refl
minus_is Plus = refl

pub sign_lawful : Lawful sign_grid
sign_lawful = record {
  nought_is = refl;
  one_is = refl;
  minus_is = minus_is;
  distinct = same;
  greatest = most;
  bounded = le_z_yes tt;
  nearest = λ k lo hi. near k (marked k lo hi);
}

pub sign_rules : Rules sign_model
sign_rules = grid_rules sign_grid sign_lawful
