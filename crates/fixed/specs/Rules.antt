-- The fixed kind's grid is lawful, so it keeps the rules.
use Rattle.std.specs.Prelude.{◌≡◌, Bool, true, false, ◌&&◌, T, ℤ, ◌≤ℤ◌, Some, refl}
use Rattle.std.proofs.Common.{sym, ap, ◌∙◌, subst, arith}
use mathlib.Core.HLevel.{is_prop→PathP}
use Rattle.std.proofs.lemmas.Int.{ints}
use denote.Struct.Props.{props}
use Rattle.std.specs.Int.Signed.{le_z_yes, ≤ℤ_refl}
use Rattle.kind.specs.Model.{Rules}
use Rattle.kind.specs.Grid.{Lawful, Nearest}
use Rattle.kind.proofs.GridRules.{grid_rules}
use Rattle.fixed.specs.declared.mark.Fixed.{Fixed}
use Rattle.fixed.specs.Grid.{Count, mark, count?, count_yes, mark_if, mark_of, fixed_grid, fixed_model}
use Rattle.fixed.specs.Marks.{FixedMarks}

pub same_mark : (a b : Fixed) → a.count ≡ b.count → a ≡ b
same_mark a b e = λ i. record {
  count = e i;
  fits = is_prop→PathP (λ j. Count (e j)) (λ j. hlevel props) a.fits b.fits i;
}

from_both : (a b : Bool) → T a → T b → T (a && b)
from_both true b h k = k
from_both false b h k = absurd h

yes_count : (n : ℤ) → Count n → T (count? n)
yes_count n h = from_both _ _ h.0.le h.1.le

-- the mark of a count is there, and there is none of any other number
at_mark : (n : ℤ) (b : Bool) (h : T b → Count n) → T b → (f : Fixed) × (mark_if n b h ≡ Some f) × (f.count ≡ n)
at_mark n true h t = (mark n (h tt), refl, refl)
at_mark n false h t = absurd t

pub mark_some : (n : ℤ) (f : Fixed) → f.count ≡ n → Some f ≡ mark_of n
mark_some n f e = let p = at_mark n (count? n) (count_yes n) (yes_count n (subst Count e f.fits)) in
    ap Some (same_mark f p.0 (e ∙ sym p.2)) ∙ sym p.1

near : (n : ℤ) → Count n → Nearest fixed_grid n
near n h = let p = at_mark n (count? n) (count_yes n) (yes_count n h) in
    record { mark = p.0; found = p.1; low = subst (λ (z : ℤ). z ≤ℤ n) (sym p.2) (≤ℤ_refl n); most = λ a e. subst (λ (z : ℤ). a.count ≤ℤ z) (sym p.2) e }

pub fixed_lawful : Lawful fixed_grid
fixed_lawful = record {
  nought_is = refl;
  one_is = refl;
  minus_is = λ a. refl;
  distinct = same_mark;
  greatest = λ a. a.fits.1;
  bounded = le_z_yes tt;
  nearest = λ n lo hi. near n (lo, hi);
}

pub fixed_rules : Rules fixed_model
fixed_rules = grid_rules fixed_grid fixed_lawful

pub fixed_marks : FixedMarks
fixed_marks = record {
  each = λ m h. (mark m (omega (arith, ints), omega (arith, ints)), record { cross = refl });
  only = λ a. (a.count, let f = a.fits in omega (arith, ints), record { cross = refl });
}
