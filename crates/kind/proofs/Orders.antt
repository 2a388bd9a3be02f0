-- From the rules of a kind: rounding is one function of the value, and keeps the order.
use Rattle.std.proofs.Common.{◌≡◌, Some, None, Option, refl, sym, ap, subst}
use Rattle.exact.specs.Fraction.{Frac, ◌≈◌}
use Rattle.exact.proofs.Fractions.{≈_sym, neg_neg}
use Rattle.exact.proofs.Order.{≤F_trans, ≤F_of_≈, ≤F_antisym, neg_mono}
use Rattle.kind.specs.Model.{Model, Rules, Inside, Down, Up}
use Rattle.kind.specs.Rounding.{Orderly}

module _ {K : Type 0} (m : Model K) where
  inside_cong : {x y : Frac} → x ≈ y → Inside m x → Inside m y
  inside_cong e i = (≤F_trans i.0 (≤F_of_≈ e), ≤F_trans (≤F_of_≈ (≈_sym e)) i.1)

  down_cong : {x y : Frac} (r : Option K) → x ≈ y → Down m x r → Down m y r
  down_cong None e d = λ i. d (inside_cong (≈_sym e) i)
  down_cong (Some k) e d = (inside_cong e d.0, ≤F_trans d.1 (≤F_of_≈ e), λ a h. d.2 a (≤F_trans h (≤F_of_≈ (≈_sym e))))

  up_cong : {x y : Frac} (r : Option K) → x ≈ y → Up m x r → Up m y r
  up_cong None e d = λ i. d (inside_cong (≈_sym e) i)
  up_cong (Some k) e d = (inside_cong e d.0, ≤F_trans (≤F_of_≈ (≈_sym e)) d.1, λ a h. d.2 a (≤F_trans (≤F_of_≈ e) h))

  module _ (r : Rules m) where
    down_unique : (x : Frac) (a b : Option K) → Down m x a → Down m x b → a ≡ b
    down_unique x None None p q = refl
    down_unique x None (Some b) p q = absurd (p q.0)
    down_unique x (Some a) None p q = absurd (q p.0)
    down_unique x (Some a) (Some b) p q = ap Some (r.distinct a b (≤F_antisym (q.2 a p.1) (p.2 b q.1)))

    up_unique : (x : Frac) (a b : Option K) → Up m x a → Up m x b → a ≡ b
    up_unique x None None p q = refl
    up_unique x None (Some b) p q = absurd (p q.0)
    up_unique x (Some a) None p q = absurd (q p.0)
    up_unique x (Some a) (Some b) p q = ap Some (r.distinct a b (≤F_antisym (p.2 b q.1) (q.2 a p.1)))

    pub is_below : (x : Frac) (a : Option K) → Down m x a → a ≡ m.below x
    is_below x a p = down_unique x a (m.below x) p (r.down x)

    pub is_above : (x : Frac) (a : Option K) → Up m x a → a ≡ m.above x
    is_above x a p = up_unique x a (m.above x) p (r.up x)

    -- equal values are rounded alike
    pub below_cong : {x y : Frac} → x ≈ y → m.below x ≡ m.below y
    below_cong {x} {y} e = is_below y (m.below x) (down_cong (m.below x) e (r.down x))

    pub above_cong : {x y : Frac} → x ≈ y → m.above x ≡ m.above y
    above_cong {x} {y} e = is_above y (m.above x) (up_cong (m.above x) e (r.up x))

    pub orderly : Orderly m
    orderly = record {
      one_below = is_below;
      one_above = is_above;
      below_rises = λ x y a b h p q. let s = subst (Down m x) p (r.down x) in let t = subst (Down m y) q (r.down y) in t.2 a (≤F_trans s.1 h);
      above_rises = λ x y a b h p q. let s = subst (Up m x) p (r.up x) in let t = subst (Up m y) q (r.up y) in s.2 b (≤F_trans h t.1);
    }

    -- a mark lies from −T to T
    pub mark_inside : (a : K) → Inside m (m.value a)
    mark_inside a = (≤F_trans (neg_mono (≤F_trans (≤F_of_≈ (≈_sym (r.opposite_is a))) (r.greatest (m.opposite a)))) (≤F_of_≈ (neg_neg _)), r.greatest a)

    -- what equals a mark is rounded to it
    pub below_mark : {x : Frac} (a : K) → x ≈ m.value a → m.below x ≡ Some a
    below_mark {x} a e = sym (is_below x (Some a) (inside_cong (≈_sym e) (mark_inside a), ≤F_of_≈ (≈_sym e), λ k h. ≤F_trans h (≤F_of_≈ e)))

    pub above_mark : {x : Frac} (a : K) → x ≈ m.value a → m.above x ≡ Some a
    above_mark {x} a e = sym (is_above x (Some a) (inside_cong (≈_sym e) (mark_inside a), ≤F_of_≈ e, λ k h. ≤F_trans (≤F_of_≈ (≈_sym e)) h))
