use Rattle.std.proofs.lemmas.Result.{err_from_is_err_and}
use Rattle.std.proofs.Common.{Err, rules, ap, ◌∙◌}
use Rattle.reader.proofs.Chains.{break_b, break_c, err_stands, ok_stands, stands_err, stands_ok, whole}
use Rattle.reader.proofs.lines.line_at.Goals as goal

pub returns-in_err-b : goal.returns-in_err-b
returns-in_err-b c =
    let e1 = stands_ok _ _ _ _ _ c.number.ensures.stands c.in_ok-operation.was in
    let e2 = stands_ok _ _ _ _ _ c.number-2.ensures.stands c.in_ok-a.was in
    let e3 = stands_err _ _ _ _ _ c.operand_if.ensures c.in_err-b.was in
    let p = err_from_is_err_and c.from_residual-in_err-b.result c.from_residual-in_err-b.ensures.1 in
    err_stands _ _ _ _ _ (break_b _ _ _ _ _ _ _ e1 c.if-operation-gt10.false e2 c.arity-operands.ensures _ e3) (p.1 ∙ ap Err p.2) c.drop-guard-in_err-b.ensures

pub returns-in_err-c : goal.returns-in_err-c
returns-in_err-c c =
    let e1 = stands_ok _ _ _ _ _ c.number.ensures.stands c.in_ok-operation.was in
    let e2 = stands_ok _ _ _ _ _ c.number-2.ensures.stands c.in_ok-a.was in
    let e3 = stands_ok _ _ _ _ _ c.operand_if.ensures c.in_ok-b.was in
    let e4 = stands_err _ _ _ _ _ c.operand_if-2.ensures c.in_err-c.was in
    let p = err_from_is_err_and c.from_residual-in_err-c.result c.from_residual-in_err-c.ensures.1 in
    err_stands _ _ _ _ _ (break_c _ _ _ _ _ _ _ e1 c.if-operation-gt10.false e2 c.arity-operands.ensures _ _ e3 _ e4) (p.1 ∙ ap Err p.2) c.drop-guard-in_err-c.ensures

pub returns : goal.returns
returns c =
    let e1 = stands_ok _ _ _ _ _ c.number.ensures.stands c.in_ok-operation.was in
    let e2 = stands_ok _ _ _ _ _ c.number-2.ensures.stands c.in_ok-a.was in
    let e3 = stands_ok _ _ _ _ _ c.operand_if.ensures c.in_ok-b.was in
    let e4 = stands_ok _ _ _ _ _ c.operand_if-2.ensures c.in_ok-c.was in
    ok_stands _ _ _ _ _ _ (whole _ _ _ _ _ _ _ e1 c.if-operation-gt10.false e2 c.arity-operands.ensures _ _ e3 _ _ e4) c.line_of.ensures (search rules)
