use Rattle.std.proofs.Common.{◌≡◌, Some, set, sym, ap, ◌∙◌, subst, arith, ⊎_elim}
use Rattle.std.proofs.lemmas.Bool.{cases_eq}
use Rattle.std.specs.List.{slice_get}
use Rattle.crossing.proofs.Lent.{all_lent, lent_at}
use Rattle.crossing.proofs.Stands.{put_other, put_same}
use Rattle.rule.proofs.Places.{nth_some}
use Rattle.crossing.specs.Memory.{records_in}
use Rattle.crossing.proofs.adding.bring.Goals as goal

pub returns-then-l-lt64-clause-here : goal.returns-then-l-lt64-clause-here
returns-then-l-lt64-clause-here g c h =
    let room = c.requires.room in
    put_same c.args.records.now c.args.l c.args.l c.meaning.result (omega (arith, h, room)) ∙ ap Some c.meaning.ensures ∙ sym (lent_at g.K.Crossing.mark_of c.args.working.now c.requires.lent c.args.l _ h)

pub returns-then-l-lt64-clause-rest : goal.returns-then-l-lt64-clause-rest
returns-then-l-lt64-clause-rest g c k before h =
    let of = g.K.Crossing.mark_of in
    let memory = c.args.working.now in
    let l = c.args.l in
    let rs = c.args.records.now in
    let room = c.requires.room in
    let under = c.if-l-lt64.true in
    let here = put_same rs l l c.meaning.result (omega (arith, under, room)) ∙ ap Some c.meaning.ensures ∙ sym (lent_at of memory c.requires.lent l _ under) in
    let all = all_lent of memory c.requires.lent in
    let is = nth_some (records_in of memory) k (omega (arith, h, all)) in
    ⊎_elim
    (λ e. subst (λ i. slice_get (set rs l c.meaning.result) i ≡ slice_get (records_in of memory) i) (sym e) here)
    (λ n. put_other rs l k c.meaning.result n is.0 (before h ∙ is.1) ∙ sym is.1)
    (cases_eq k l)
