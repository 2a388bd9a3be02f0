-- A lawful grid keeps the rules of a kind: rounding over any unit and any denominator, from the one theorem of the floor.
use Rattle.std.proofs.Common.{◌≡◌, ℕ, ◌*◌, ◌<◌, Bool, true, false, cond, ◌&&◌, T, [], ◌∷◌, ℤ, pos, ◌*ℤ◌, neg_ℤ, ◌≤ℤ◌, ◌<ℤ◌, Some, None, Option, sym, refl, ap, ◌∙◌, subst, arith}
use borrow.Author.Differences.{ints}
use Rattle.exact.specs.Optional.{◌>>=◌}
use Rattle.exact.specs.Fraction.{Frac, whole, neg_F, ◌≈◌, ◌≤F◌, le_F}
use Rattle.exact.specs.Floor.{Floor, floor}
use Rattle.exact.proofs.Ring.{num, x0, x1, x2, ◌⊗◌}
use Rattle.exact.proofs.Integers.{ring, cancel, ≤ℤ_cancel, ≤ℤ_times, ≤ℤ_trans}
use Rattle.exact.proofs.Fractions.{≈_sym, neg_neg}
use Rattle.exact.proofs.Order.{≤F_trans, ≤F_of_≈, neg_mono, neg_left, neg_right, le_F_yes, le_F_true}
use Rattle.exact.proofs.Floors.{floor_is}
use Rattle.kind.specs.Model.{Model, Rules, Inside, Down, Up}
use Rattle.kind.specs.Grid.{Grid, Lawful, Nearest, grid_value, inside?, grid_below, grid_above, grid_model, mirrored, units_over}
use Rattle.kind.proofs.Orders.{is_below}

both : (a b : Bool) → a && b ≡ true → (a ≡ true) × (b ≡ true)
both true b h = (refl, h)
both false b h = absurd (subst T (sym h) tt)

module _ {K : Type 0} (g : Grid K) (l : Lawful g) where
  abbrev m : Model K
  m = grid_model g

  minus_value : (a : K) → grid_value g (g.minus a) ≈ neg_F (grid_value g a)
  unfolding neg_F
  minus_value a = record { cross = ap (λ (z : ℤ). z *ℤ pos g.unit) (l.minus_is a) }

  at_whole : (z : ℤ) (k : K) → g.size k ≡ z *ℤ pos g.unit → grid_value g k ≈ whole z
  unfolding whole
  at_whole z k e = record { cross = rw e (ring (z ∷ pos g.unit ∷ []) (x0 ⊗ x1 ⊗ num (pos 1)) (x0 ⊗ x1) refl) }

  -- ---- inside −T to T
  inside_yes : (x : Frac) → inside? g x ≡ true → Inside m x
  unfolding inside?
  inside_yes x h = let b = both (le_F (neg_F (grid_value g g.top)) x) (le_F x (grid_value g g.top)) h in (le_F_yes _ _ b.0, le_F_yes _ _ b.1)

  yes_inside : (x : Frac) → Inside m x → inside? g x ≡ true
  unfolding inside?
  yes_inside x i = rw (le_F_true _ _ i.0, le_F_true _ _ i.1)

  -- a mark against a whole number of units
  under_floor : (x : Frac) (a : K) → g.size a ≤ℤ floor g.unit x → grid_value g a ≤F x
  under_floor x a h = ≤F_trans (record { cross = ≤ℤ_times (g.size a) (floor g.unit x) g.unit h }) (floor_is g.unit g.some_unit x).low

  found_down : (x : Frac) → Inside m x → Down m x (g.down (floor g.unit x))
  unfolding neg_F
  found_down x i = subst (Down m x) (sym n.found) (
    i,
    under_floor x n.mark n.low,
    λ a h. record { cross = ≤ℤ_times (g.size a) (g.size n.mark) g.unit (n.most a (f.greatest (g.size a) h)) },
  )
    where
      k : ℤ
      k = floor g.unit x

      f : Floor g.unit g.some_unit x k
      f = floor_is g.unit g.some_unit x

      n : Nearest g k
      n = l.nearest k (f.greatest (neg_ℤ (g.size g.top)) i.0)
          (≤ℤ_cancel k (g.size g.top) g.unit g.some_unit (≤F_trans f.low i.1).cross)

  down_at : (x : Frac) (b : Bool) → inside? g x ≡ b → Down m x (cond b (g.down (floor g.unit x)) None)
  down_at x true e = found_down x (inside_yes x e)
  down_at x false e = λ i. subst T (sym (yes_inside x i) ∙ e) tt

  grid_down : (x : Frac) → Down m x (grid_below g x)
  unfolding grid_below
  grid_down x = down_at x (inside? g x) refl

  -- ---- above is the mirror image
  neg_inside : {x : Frac} → Inside m (neg_F x) → Inside m x
  neg_inside i = (neg_left i.1, ≤F_trans (neg_right i.0) (≤F_of_≈ (neg_neg _)))

  inside_neg : {x : Frac} → Inside m x → Inside m (neg_F x)
  inside_neg i = (neg_mono i.1, neg_left i.0)

  mirror : (x : Frac) (r : Option K) → Down m (neg_F x) r → Up m x (r >>= (λ a. Some (g.minus a)))
  mirror x None p = λ i. p (inside_neg i)
  mirror x (Some d) p = (
    neg_inside p.0,
    ≤F_trans (neg_right p.1) (≤F_of_≈ (≈_sym (minus_value d))),
    λ a h. ≤F_trans (≤F_of_≈ (minus_value d)) (neg_left (≤F_trans (≤F_of_≈ (≈_sym (minus_value a))) (p.2 (g.minus a) (≤F_trans (≤F_of_≈ (minus_value a)) (neg_mono h))))),
  )

  grid_up : (x : Frac) → Up m x (grid_above g x)
  unfolding grid_above
  grid_up x = mirror x (grid_below g (neg_F x)) (grid_down (neg_F x))

  pub grid_rules : Rules (grid_model g)
  unfolding whole
  grid_rules = record {
    nought_is = at_whole (pos 0) g.nought (l.nought_is ∙ omega (arith, ints));
    unit_is = at_whole (pos 1) g.one (l.one_is ∙ omega (arith, ints));
    opposite_is = minus_value;
    distinct = λ a b e. l.distinct a b (cancel (g.size a) (g.size b) g.unit g.some_unit e.cross);
    greatest = λ a. record { cross = ≤ℤ_times (g.size a) (g.size g.top) g.unit (l.greatest a) };
    bounded = record { cross = let b = l.bounded in omega (arith, ints) };
    down = grid_down;
    up = grid_up;
  }

  -- ---- for code: n units over d
  module _ (n : ℤ) (d : ℕ) (h : 0 < d) where
    regroup : (z : ℤ) → z *ℤ pos (d * g.unit) ≡ (z *ℤ pos d) *ℤ pos g.unit
    regroup z = ring (z ∷ pos d ∷ pos g.unit ∷ []) (x0 ⊗ (x1 ⊗ x2)) (x0 ⊗ x1 ⊗ x2) refl

    -- z units against n/d
    under : (z : ℤ) → (z *ℤ pos d) ≤ℤ n → (z *ℤ pos (d * g.unit)) ≤ℤ (n *ℤ pos g.unit)
    under z p = rw (regroup z) (≤ℤ_times (z *ℤ pos d) n g.unit p)

    under_back : (z : ℤ) → (z *ℤ pos (d * g.unit)) ≤ℤ (n *ℤ pos g.unit) → (z *ℤ pos d) ≤ℤ n
    under_back z p = ≤ℤ_cancel (z *ℤ pos d) n g.unit g.some_unit (rw (regroup z) at p)

    over : (z : ℤ) → n ≤ℤ (z *ℤ pos d) → (n *ℤ pos g.unit) ≤ℤ (z *ℤ pos (d * g.unit))
    over z p = rw (regroup z) (≤ℤ_times n (z *ℤ pos d) g.unit p)

    over_back : (z : ℤ) → (n *ℤ pos g.unit) ≤ℤ (z *ℤ pos (d * g.unit)) → n ≤ℤ (z *ℤ pos d)
    over_back z p = ≤ℤ_cancel n (z *ℤ pos d) g.unit g.some_unit (rw (regroup z) at p)

    low_end : (k : K) → neg_ℤ (g.size g.top) ≤ℤ g.size k
    low_end k = let p = l.greatest (g.minus k) in let e = l.minus_is k in omega (arith, ints)

    pub ratio_some : (k : K) → (g.size k *ℤ pos d) ≤ℤ n → n ≤ℤ (g.size g.top *ℤ pos d) → ((a : K) → (g.size a *ℤ pos d) ≤ℤ n → g.size a ≤ℤ g.size k) → Some k ≡ grid_below g (units_over g n d h)
    unfolding units_over neg_F
    ratio_some k p q r = is_below (grid_model g) grid_rules (units_over g n d h) (Some k) (
      (record { cross = under _ (≤ℤ_trans (≤ℤ_times (neg_ℤ (g.size g.top)) (g.size k) d (low_end k)) p) }, record { cross = over _ q }),
      record { cross = under _ p },
      λ a e. record { cross = ≤ℤ_times (g.size a) (g.size k) g.unit (r a (under_back _ e.cross)) },
    )

    pub ratio_none_over : (g.size g.top *ℤ pos d) <ℤ n → None ≡ grid_below g (units_over g n d h)
    unfolding units_over
    ratio_none_over p = is_below (grid_model g) grid_rules (units_over g n d h) None (λ i. let q = over_back _ i.1.cross in omega (arith, ints))

    pub ratio_none_under : n <ℤ (neg_ℤ (g.size g.top) *ℤ pos d) → None ≡ grid_below g (units_over g n d h)
    unfolding units_over neg_F
    ratio_none_under p = is_below (grid_model g) grid_rules (units_over g n d h) None (λ i. let q = under_back _ i.0.cross in omega (arith, ints))

  pub above_of : (n n' : ℤ) (d : ℕ) (h : 0 < d) (r : Option K) → n' ≡ neg_ℤ n → r ≡ grid_below g (units_over g n' d h) → mirrored g r ≡ grid_above g (units_over g n d h)
  unfolding grid_above units_over neg_F
  above_of n n' d h r e p = ap (mirrored g) (p ∙ ap (λ (z : ℤ). grid_below g (units_over g z d h)) e)
