-- The sliding kind: marks in whole units of 2^-24.
use Rattle.std.specs.Prelude.{ℕ, zero, suc, ◌*◌, ◌^◌, Bool, true, false, ◌&&◌, ◌||◌, T, ℤ, pos, neg_ℤ, Some, None, Option, nat_le, nat_lt, unsigned_abs}
use Rattle.std.proofs.Common.{arith, leb→le, lit<, lit≤}
use Rattle.kind.specs.Grid.{Grid, grid_model}
use Rattle.kind.specs.Model.{Model}
use Rattle.sliding.specs.Cut.{cut, shifted}
use Rattle.sliding.specs.Form.{Normal, OnGrid}
use Rattle.sliding.specs.Slides.{on_cut, on_negative, on_shifted}
use Rattle.sliding.specs.declared.mark.Sliding.{Sliding}

abbrev pub mark : (k : ℤ) → OnGrid k → Sliding
mark k h = record { units = k; on_grid = h }

-- the mark of k units, where b says that it is one
abbrev pub mark_if : (k : ℤ) (b : Bool) → (T b → OnGrid k) → Option Sliding → Option Sliding
mark_if k true h rest = Some (mark k (h tt))
mark_if k false h rest = rest

pub both : (a b : Bool) → T (a && b) → T a × T b
both true b h = (tt, h)
both false b h = absurd h

other : (a b : Bool) → T (a || b) → (T a → ⊥) → T b
other true b h n = absurd (n tt)
other false b h n = h

-- ---- the mark that is stored as m and s, if that is a stored form
abbrev pub normal? : ℤ → ℕ → Bool
normal? m s = nat_le (unsigned_abs m) 16777215 && (nat_le s 32 && (nat_le s 0 || nat_le 8388608 (unsigned_abs m)))

pub normal_yes : (m : ℤ) (s : ℕ) → T (normal? m s) → Normal m s
normal_yes m s h =
    let p = both (nat_le (unsigned_abs m) 16777215) (nat_le s 32 && (nat_le s 0 || nat_le 8388608 (unsigned_abs m))) h in
    let q = both (nat_le s 32) (nat_le s 0 || nat_le 8388608 (unsigned_abs m)) p.1 in
    (leb→le _ _ p.0, leb→le _ _ q.0, λ k. leb→le _ _ (other (nat_le s 0) (nat_le 8388608 (unsigned_abs m)) q.1 (λ t. let z = leb→le s 0 t in omega arith)))

pub normal_on : (m : ℤ) (s : ℕ) → Normal m s → OnGrid (shifted m s)
normal_on m s h = on_shifted m s h.0 h.1

abbrev pub stored_as : ℤ → ℕ → Option Sliding
stored_as m s = mark_if (shifted m s) (normal? m s) (λ h. normal_on m s (normal_yes m s h)) None

-- ---- a number of units is cut at the first s at which it has at most 24 + s bits, s = 0, 1, .. 32
abbrev pub short? : ℤ → ℕ → Bool
short? k s = nat_le (unsigned_abs k) 72057589742960640 && (nat_le s 32 && nat_lt (unsigned_abs k) (16777216 * 2 ^ s))

pub short_on : (k : ℤ) (s : ℕ) → T (short? k s) → OnGrid (cut k s)
short_on k s h =
    let p = both (nat_le (unsigned_abs k) 72057589742960640) (nat_le s 32 && nat_lt (unsigned_abs k) (16777216 * 2 ^ s)) h in
    let q = both (nat_le s 32) (nat_lt (unsigned_abs k) (16777216 * 2 ^ s)) p.1 in
    on_cut k s (leb→le _ _ p.0) (leb→le _ _ q.1) (leb→le _ _ q.0)

unfoldable pub slide : ℕ → ℕ → ℤ → Option Sliding
slide zero s k = None
slide (suc f) s k = mark_if (cut k s) (short? k s) (short_on k s) (slide f (suc s) k)

abbrev pub sliding_grid : Grid Sliding
sliding_grid = record {
  unit = 16777216;
  some_unit = lit< tt;
  size = λ a. a.units;
  top = mark (pos 72057589742960640) (on_shifted (pos 16777215) 32 (lit≤ tt) (lit≤ tt));
  nought = mark (pos 0) (on_shifted (pos 0) 0 (lit≤ tt) (lit≤ tt));
  one = mark (pos 16777216) (on_shifted (pos 8388608) 1 (lit≤ tt) (lit≤ tt));
  minus = λ a. mark (neg_ℤ a.units) (on_negative a.units a.on_grid);
  down = slide 33 0;
}

abbrev pub sliding_model : Model Sliding
sliding_model = grid_model sliding_grid
