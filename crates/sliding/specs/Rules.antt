-- The sliding kind's grid is lawful.
use Rattle.std.specs.Prelude.{◌≡◌, ℕ, zero, suc, ◌+◌, ◌*◌, ◌^◌, ◌<◌, ◌≤◌, Bool, true, false, ◌&&◌, T, ℤ, pos, neg_ℤ, ◌≤ℤ◌, Some, Option, nat_le, unsigned_abs, refl}
use mathlib.Core.HLevel.{is_prop→PathP}
use Rattle.std.proofs.Common.{ap, sym, subst, leb→le, le→leb, pow-suc, pow_mono}
use native.Mathlib.Omega.{arith}
use Rattle.std.proofs.lemmas.Int.{by_lt_z, ints}
use denote.Struct.Props.{props}
use Rattle.std.specs.Int.Signed.{le_z_yes}
use Rattle.kind.proofs.GridRules.{grid_rules}
use Rattle.kind.specs.Grid.{Lawful, Nearest}
use Rattle.kind.specs.Model.{Rules}
use Rattle.sliding.specs.Cut.{Scale, cut}
use Rattle.sliding.specs.Form.{OnGrid}
use Rattle.sliding.specs.Grid.{both, mark, mark_if, short?, short_on, slide, sliding_grid, sliding_model}
use Rattle.sliding.specs.Slides.{cut_low, cut_most}
use Rattle.sliding.specs.declared.mark.Sliding.{Sliding}

pub same_mark : (a b : Sliding) → a.units ≡ b.units → a ≡ b
same_mark a b e = λ i. record {
  units = e i;
  on_grid = is_prop→PathP (λ j. OnGrid (e j)) (λ j. hlevel props) a.on_grid b.on_grid i;
}

-- the mark of k units, where the test says so
pub made : (a : Sliding) (k : ℤ) (b : Bool) (h : T b → OnGrid k) (rest : Option Sliding) → T b → a.units ≡ k → Some a ≡ mark_if k b h rest
made a k true h rest t e = ap Some (same_mark a (mark k (h tt)) e)
made a k false h rest t e = absurd t

pub from_both : (a b : Bool) → T a → T b → T (a && b)
from_both true b h k = k
from_both false b h k = absurd h

-- ---- the first cut is at the scale of k
pub record Found (k : ℤ) (r : Option Sliding) : Type 0 where
  pub mark : Sliding
  pub is : r ≡ Some mark
  pub scale : ℕ
  pub units : mark.units ≡ cut k scale
  pub right : Scale k scale

module _ (k : ℤ) (b : unsigned_abs k ≤ 72057589742960640) where
  short_test : (s : ℕ) → s ≤ 32 → unsigned_abs k < 16777216 * 2 ^ s → T (short? k s)
  short_test s l u = from_both _ _ (le→leb _ _ b) (from_both (nat_le s 32) _ (le→leb _ _ l) (le→leb _ _ u))

  test_short : (s : ℕ) → T (short? k s) → unsigned_abs k < 16777216 * 2 ^ s
  test_short s h = leb→le _ _ (both (nat_le s 32) _ (both (nat_le (unsigned_abs k) 72057589742960640) _ h).1).1

  search_scale : (f s : ℕ) → f + s ≡ 33 → (0 < s → 8388608 * 2 ^ s ≤ unsigned_abs k) → Found k (slide f s k)
  unfolding slide
  search_scale zero s e w = let p : 2 ^ 33 ≤ 2 ^ s = pow_mono {i = 33} {j = s} (omega arith) in let q = w (omega arith) in absurd (omega arith)
  search_scale (suc f) s e w = go (short? k s) (short_on k s) (test_short s) (short_test s (omega arith))
      (λ p. search_scale f (suc s) (omega arith) (λ h. let q = pow-suc 2 s in omega arith))
    where
      go : (c : Bool) (h : T c → OnGrid (cut k s)) → (T c → unsigned_abs k < 16777216 * 2 ^ s) → (unsigned_abs k < 16777216 * 2 ^ s → T c)
          → (16777216 * 2 ^ s ≤ unsigned_abs k → Found k (slide f (suc s) k))
          → Found k (mark_if (cut k s) c h (slide f (suc s) k))
      go true h y n rest = record { mark = mark (cut k s) (h tt); is = refl; scale = s; units = refl; right = record { under = y tt; full = w } }
      go false h y n rest = rest (by_lt_z (pos (unsigned_abs k)) (pos (16777216 * 2 ^ s)) (λ l. absurd (n (omega (arith, ints)))) (λ l. omega (arith, ints)))

  pub found : Found k (slide 33 0 k)
  found = search_scale 33 0 refl (λ h. absurd (omega arith))

nearest : (k : ℤ) → neg_ℤ (pos 72057589742960640) ≤ℤ k → k ≤ℤ pos 72057589742960640 → Nearest sliding_grid k
nearest k lo hi = let f = found k (omega (arith, ints)) in
    record {
      mark = f.mark;
      found = f.is;
      low = subst (λ (z : ℤ). z ≤ℤ k) (sym f.units) (cut_low k f.scale);
      most = λ a p. subst (λ (z : ℤ). a.units ≤ℤ z) (sym f.units) (cut_most k f.scale f.right a.units a.on_grid p);
    }

pub sliding_lawful : Lawful sliding_grid
sliding_lawful = record {
  nought_is = refl;
  one_is = refl;
  minus_is = λ a. refl;
  distinct = same_mark;
  greatest = λ a. let b = a.on_grid.0 in omega (arith, ints);
  bounded = le_z_yes tt;
  nearest = nearest;
}

pub sliding_rules : Rules (sliding_model)
sliding_rules = grid_rules sliding_grid sliding_lawful
