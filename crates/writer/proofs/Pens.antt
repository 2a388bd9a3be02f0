-- One list of bytes written after another.
use Rattle.std.proofs.Common.{ℕ, List, ◌++◌, length, ap, ◌∙◌, ap₂, arith, length-append}
use Rattle.writer.proofs.Overlay.{length_written, written_append}
use Rattle.writer.specs.Pens.{Fits, Wrote}
use Rattle.writer.specs.Writing.{written}
use Rattle.writer.specs.declared.pen.Pen.{Pen}

pub fits_then : (p q : Pen) (xs ys : List ℕ) → Fits p (xs ++ ys) → Wrote p q xs → Fits q ys
fits_then p q xs ys f w =
    let n = length-append xs ys in
    let l = ap length w.1 ∙ length_written p.out.now p.at xs (omega arith) in
    omega (arith, w.2)

pub wrote_then : (p q r : Pen) (xs ys : List ℕ) → Fits p (xs ++ ys) → Wrote p q xs → Wrote q r ys → Wrote p r (xs ++ ys)
wrote_then p q r xs ys f w v =
    let n = length-append xs ys in
    (v.0 ∙ w.0, v.1 ∙ ap₂ (λ o k. written o k ys) w.1 w.2 ∙ written_append p.out.now p.at xs ys (omega arith), omega (arith, w.2, v.2))

pub wrote_four : (p q r s t : Pen) (xs ys zs us : List ℕ) → Fits p (xs ++ (ys ++ (zs ++ us))) → Wrote p q xs → Wrote q r ys → Wrote r s zs → Wrote s t us → Wrote p t (xs ++ (ys ++ (zs ++ us)))
wrote_four p q r s t xs ys zs us f a b c d =
    let g = fits_then p q xs _ f a in
    wrote_then p q t xs _ f a (wrote_then q r t ys _ g b (wrote_then r s t zs us (fits_then q r ys _ g b) c d))
