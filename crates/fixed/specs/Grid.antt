-- The fixed kind: the marks m/65,536 with m a count.
use Rattle.std.specs.Prelude.{Bool, true, false, ◌&&◌, T, ℤ, pos, neg_ℤ, ◌≤ℤ◌, Some, None, Option, int_le}
use Rattle.std.proofs.Common.{arith, lit<}
use Rattle.std.proofs.lemmas.Int.{ints}
use Rattle.std.specs.Int.Signed.{le_z_yes}
use Rattle.kind.specs.Model.{Model}
use Rattle.kind.specs.Grid.{Grid, grid_model}
use Rattle.fixed.specs.declared.mark.Fixed.{Fixed}

abbrev pub Count : ℤ → Type 0
Count n = (neg_ℤ (pos 1073741823) ≤ℤ n) × (n ≤ℤ pos 1073741823)

abbrev pub mark : (n : ℤ) → Count n → Fixed
mark n h = record { count = n; fits = h }

abbrev pub count? : ℤ → Bool
count? n = int_le (neg_ℤ (pos 1073741823)) n && int_le n (pos 1073741823)

both : (a b : Bool) → T (a && b) → T a × T b
both true b h = (tt, h)
both false b h = absurd h

pub count_yes : (n : ℤ) → T (count? n) → Count n
count_yes n h = (le_z_yes (both _ _ h).0, le_z_yes (both _ _ h).1)

pub count_negative : (n : ℤ) → Count n → Count (neg_ℤ n)
count_negative n h = (omega (arith, ints), omega (arith, ints))

-- the mark of n counts, if n is one
abbrev pub mark_if : (n : ℤ) (b : Bool) → (T b → Count n) → Option Fixed
mark_if n true h = Some (mark n (h tt))
mark_if n false h = None

abbrev pub mark_of : ℤ → Option Fixed
mark_of n = mark_if n (count? n) (count_yes n)

abbrev pub fixed_grid : Grid Fixed
fixed_grid = record {
  unit = 65536;
  some_unit = lit< tt;
  size = λ f. f.count;
  top = mark (pos 1073741823) (le_z_yes tt, le_z_yes tt);
  nought = mark (pos 0) (le_z_yes tt, le_z_yes tt);
  one = mark (pos 65536) (le_z_yes tt, le_z_yes tt);
  minus = λ f. mark (neg_ℤ f.count) (count_negative f.count f.fits);
  down = mark_of;
}

abbrev pub fixed_model : Model Fixed
fixed_model = grid_model fixed_grid
