use Rattle.std.proofs.Common.{◌≡◌, take, refl, sym, ap, ◌∙◌, subst, arith, rules, to_z, of_z, w32, w64}
use Rattle.std.proofs.lemmas.Bool.{cond_above}
use Rattle.boxes.proofs.Reopened.{reopens}
use Rattle.boxes.specs.Boxes.{opened}
use Rattle.boxes.specs.Stored.{box_of, lowers, uppers}
use Rattle.fault.specs.Refusals.{refused}
use Rattle.fault.specs.declared.fault.Cause.TheVariants.{Channels}
use Rattle.crossing.proofs.boxed.stored.Goals as goal

pub returns : goal.returns
returns c =
    let b = c.args.over.now in
    let n = b.channels in
    let inv = c.loop-c.invariant in
    let all : c.loop-c.c ≡ n = omega (arith, c.loop-c.auto.c-end, c.loop-c-test.false) in
    let x = to_z w64 (of_z w64 c.from-2.result) in
    let low : take n c.loop-c.lower ≡ lowers (take n b.ranges) = subst (λ k. take k c.loop-c.lower ≡ lowers (take k b.ranges)) all inv.0 in
    let high : take n c.loop-c.upper ≡ uppers (take n b.ranges) = subst (λ k. take k c.loop-c.upper ≡ uppers (take k b.ranges)) all inv.1 in
    let wide : x ≡ c.from-2.result = search rules in
    let narrow : to_z w32 (of_z w32 b.centre) ≡ b.centre = search rules in
    let centre : x ≡ b.centre = wide ∙ c.from-2.ensures ∙ narrow in
    sym (cond_above 8 n (refused Channels 0) _ _ b.few refl)
    ∙ ap (λ ls. opened ls (take n c.loop-c.upper) b.swept x) low
    ∙ ap (λ us. opened (lowers (take n b.ranges)) us b.swept x) high
    ∙ ap (opened (lowers (take n b.ranges)) (uppers (take n b.ranges)) b.swept) centre
    ∙ reopens (box_of b) c.requires
