use Rattle.std.proofs.Common.{◌≡◌, Err, length, take, sym, ap, ◌∙◌, arith, rules, w32, w64, to_z, of_z, length-take-le}
use Rattle.std.proofs.lemmas.Result.{err_from_is_err_and}
use Rattle.boxes.specs.Boxes.{counted}
use Rattle.rule.proofs.Constants.{constant_on, constant_out}
use Rattle.rule.specs.Placed.{accepts, stored}
use Rattle.rule.specs.Rule.{constant, still_range}
use Rattle.rule.proofs.records.put_constant.Goals as goal

pub returns-in_err-k : goal.returns-in_err-k
returns-in_err-k g c =
    let m = g.K.NumberKind.model in
    let w = c.args.records.now in
    let e = err_from_is_err_and c.from_residual.result c.from_residual.ensures.1 in
    let k : to_z w64 (of_z w64 c.args.k) ≡ c.args.k = search rules in
    let n : c.args.n ≡ length (take c.args.n w) = sym (length-take-le c.args.n w (omega (arith, c.requires))) in
    let q = constant_out m c.args.k c.args.n (c.in_err-k.ensures ∙ ap (λ z. counted z c.args.n) k) ∙ ap (constant m c.args.k) n in
    record { answer = e.1 ∙ ap Err e.2 ∙ ap accepts q; records = ap (stored w c.args.n) q }

pub returns-in_err-put_still : goal.returns-in_err-put_still
returns-in_err-put_still g c =
    let m = g.K.NumberKind.model in
    let w = c.args.records.now in
    let e = err_from_is_err_and c.from_residual-in_err-put_still.result c.from_residual-in_err-put_still.ensures.1 in
    let k : to_z w64 (of_z w64 c.args.k) ≡ c.args.k = search rules in
    let n : c.args.n ≡ length (take c.args.n w) = sym (length-take-le c.args.n w (omega (arith, c.requires))) in
    let x : to_z w32 (of_z w32 c.in_ok-k.k) ≡ c.in_ok-k.k = search rules in
    let q = ap (λ z. still_range m z z c.args.n) x ∙ sym (constant_on m c.args.k c.args.n (c.in_ok-k.ensures ∙ ap (λ z. counted z c.args.n) k)) ∙ ap (constant m c.args.k) n in
    record { answer = e.1 ∙ ap Err e.2 ∙ c.in_err-put_still.ensures.answer ∙ ap accepts q; records = c.in_err-put_still.ensures.records ∙ ap (stored w c.args.n) q }

pub returns : goal.returns
returns g c =
    let m = g.K.NumberKind.model in
    let w = c.args.records.now in
    let k : to_z w64 (of_z w64 c.args.k) ≡ c.args.k = search rules in
    let n : c.args.n ≡ length (take c.args.n w) = sym (length-take-le c.args.n w (omega (arith, c.requires))) in
    let x : to_z w32 (of_z w32 c.in_ok-k.k) ≡ c.in_ok-k.k = search rules in
    let q = ap (λ z. still_range m z z c.args.n) x ∙ sym (constant_on m c.args.k c.args.n (c.in_ok-k.ensures ∙ ap (λ z. counted z c.args.n) k)) ∙ ap (constant m c.args.k) n in
    record { answer = c.in_ok-put_still.ensures.answer ∙ ap accepts q; records = c.in_ok-put_still.ensures.records ∙ ap (stored w c.args.n) q }
