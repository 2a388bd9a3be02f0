use Rattle.std.proofs.Common.{refl}
use Rattle.script.proofs.Passing.{same_number}
use Rattle.script.proofs.Steps.{fault_is, handed, not_word}
use Rattle.script.specs.Lines.{line_at, operands_at}
use Rattle.script.proofs.parse.line_of.Goals as goal
use Rattle.script.proofs.parse.line_of.Goals.{in-channel+in_ok-index-in-channel, in-constant+in_ok-number-in-constant, in-sum+in_ok-index-in-sum+in_ok-index-in-sum-2, in-difference+in_ok-index-in-difference+in_ok-index-in-difference-2, in-product+in_ok-index-in-product+in_ok-index-in-product-2, in-quotient+in_ok-index-in-quotient+in_ok-index-in-quotient-2, in-square+in_ok-index-in-square, in-magnitude+in_ok-index-in-magnitude, in-greater+in_ok-index-in-greater+in_ok-index-in-greater-2, in-lesser+in_ok-index-in-lesser+in_ok-index-in-lesser-2, in-branch+in_ok-index-in-branch+in_ok-index-in-branch-2+in_ok-index-in-branch-3}

pub returns-in_err-operation : goal.returns-in_err-operation
unfolding line_at
returns-in_err-operation c = rw (handed _ _ c.from_residual.ensures.1, ← c.in_err-operation.ensures) refl

pub returns-in_err-index-in-channel : goal.returns-in_err-index-in-channel
unfolding line_at operands_at
returns-in_err-index-in-channel c = rw (handed _ _ c.from_residual-in_err-index-in-channel.ensures.1, ← c.in_ok-operation.ensures, c.in-channel.is, ← c.in_err-index-in-channel.ensures) refl

pub returns-in_err-number-in-constant : goal.returns-in_err-number-in-constant
unfolding line_at operands_at
returns-in_err-number-in-constant c = rw (handed _ _ c.from_residual-in_err-number-in-constant.ensures.1, ← c.in_ok-operation.ensures, c.in-constant.is, ← c.in_err-number-in-constant.ensures) refl

pub returns-in_err-index-in-sum : goal.returns-in_err-index-in-sum
unfolding line_at operands_at
returns-in_err-index-in-sum c = rw (handed _ _ c.from_residual-in_err-index-in-sum.ensures.1, ← c.in_ok-operation.ensures, c.in-sum.is, ← c.in_err-index-in-sum.ensures) refl

pub returns-in_err-index-in-sum-2 : goal.returns-in_err-index-in-sum-2
unfolding line_at operands_at
returns-in_err-index-in-sum-2 c = rw (handed _ _ c.from_residual-in_err-index-in-sum-2.ensures.1, ← c.in_ok-operation.ensures, c.in-sum.is, ← c.in_ok-index-in-sum.ensures, ← c.in_err-index-in-sum-2.ensures) refl

pub returns-in_err-index-in-difference : goal.returns-in_err-index-in-difference
unfolding line_at operands_at
returns-in_err-index-in-difference c = rw (handed _ _ c.from_residual-in_err-index-in-difference.ensures.1, ← c.in_ok-operation.ensures, c.in-difference.is, ← c.in_err-index-in-difference.ensures) refl

pub returns-in_err-index-in-difference-2 : goal.returns-in_err-index-in-difference-2
unfolding line_at operands_at
returns-in_err-index-in-difference-2 c = rw (handed _ _ c.from_residual-in_err-index-in-difference-2.ensures.1, ← c.in_ok-operation.ensures, c.in-difference.is, ← c.in_ok-index-in-difference.ensures, ← c.in_err-index-in-difference-2.ensures) refl

pub returns-in_err-index-in-product : goal.returns-in_err-index-in-product
unfolding line_at operands_at
returns-in_err-index-in-product c = rw (handed _ _ c.from_residual-in_err-index-in-product.ensures.1, ← c.in_ok-operation.ensures, c.in-product.is, ← c.in_err-index-in-product.ensures) refl

pub returns-in_err-index-in-product-2 : goal.returns-in_err-index-in-product-2
unfolding line_at operands_at
returns-in_err-index-in-product-2 c = rw (handed _ _ c.from_residual-in_err-index-in-product-2.ensures.1, ← c.in_ok-operation.ensures, c.in-product.is, ← c.in_ok-index-in-product.ensures, ← c.in_err-index-in-product-2.ensures) refl

pub returns-in_err-index-in-quotient : goal.returns-in_err-index-in-quotient
unfolding line_at operands_at
returns-in_err-index-in-quotient c = rw (handed _ _ c.from_residual-in_err-index-in-quotient.ensures.1, ← c.in_ok-operation.ensures, c.in-quotient.is, ← c.in_err-index-in-quotient.ensures) refl

pub returns-in_err-index-in-quotient-2 : goal.returns-in_err-index-in-quotient-2
unfolding line_at operands_at
returns-in_err-index-in-quotient-2 c = rw (handed _ _ c.from_residual-in_err-index-in-quotient-2.ensures.1, ← c.in_ok-operation.ensures, c.in-quotient.is, ← c.in_ok-index-in-quotient.ensures, ← c.in_err-index-in-quotient-2.ensures) refl

pub returns-in_err-index-in-square : goal.returns-in_err-index-in-square
unfolding line_at operands_at
returns-in_err-index-in-square c = rw (handed _ _ c.from_residual-in_err-index-in-square.ensures.1, ← c.in_ok-operation.ensures, c.in-square.is, ← c.in_err-index-in-square.ensures) refl

pub returns-in_err-index-in-magnitude : goal.returns-in_err-index-in-magnitude
unfolding line_at operands_at
returns-in_err-index-in-magnitude c = rw (handed _ _ c.from_residual-in_err-index-in-magnitude.ensures.1, ← c.in_ok-operation.ensures, c.in-magnitude.is, ← c.in_err-index-in-magnitude.ensures) refl

pub returns-in_err-index-in-greater : goal.returns-in_err-index-in-greater
unfolding line_at operands_at
returns-in_err-index-in-greater c = rw (handed _ _ c.from_residual-in_err-index-in-greater.ensures.1, ← c.in_ok-operation.ensures, c.in-greater.is, ← c.in_err-index-in-greater.ensures) refl

pub returns-in_err-index-in-greater-2 : goal.returns-in_err-index-in-greater-2
unfolding line_at operands_at
returns-in_err-index-in-greater-2 c = rw (handed _ _ c.from_residual-in_err-index-in-greater-2.ensures.1, ← c.in_ok-operation.ensures, c.in-greater.is, ← c.in_ok-index-in-greater.ensures, ← c.in_err-index-in-greater-2.ensures) refl

pub returns-in_err-index-in-lesser : goal.returns-in_err-index-in-lesser
unfolding line_at operands_at
returns-in_err-index-in-lesser c = rw (handed _ _ c.from_residual-in_err-index-in-lesser.ensures.1, ← c.in_ok-operation.ensures, c.in-lesser.is, ← c.in_err-index-in-lesser.ensures) refl

pub returns-in_err-index-in-lesser-2 : goal.returns-in_err-index-in-lesser-2
unfolding line_at operands_at
returns-in_err-index-in-lesser-2 c = rw (handed _ _ c.from_residual-in_err-index-in-lesser-2.ensures.1, ← c.in_ok-operation.ensures, c.in-lesser.is, ← c.in_ok-index-in-lesser.ensures, ← c.in_err-index-in-lesser-2.ensures) refl

pub returns-in_err-index-in-branch : goal.returns-in_err-index-in-branch
unfolding line_at operands_at
returns-in_err-index-in-branch c = rw (handed _ _ c.from_residual-in_err-index-in-branch.ensures.1, ← c.in_ok-operation.ensures, c.in-branch.is, ← c.in_err-index-in-branch.ensures) refl

pub returns-in_err-index-in-branch-2 : goal.returns-in_err-index-in-branch-2
unfolding line_at operands_at
returns-in_err-index-in-branch-2 c = rw (handed _ _ c.from_residual-in_err-index-in-branch-2.ensures.1, ← c.in_ok-operation.ensures, c.in-branch.is, ← c.in_ok-index-in-branch.ensures, ← c.in_err-index-in-branch-2.ensures) refl

pub returns-in_err-index-in-branch-3 : goal.returns-in_err-index-in-branch-3
unfolding line_at operands_at
returns-in_err-index-in-branch-3 c = rw (handed _ _ c.from_residual-in_err-index-in-branch-3.ensures.1, ← c.in_ok-operation.ensures, c.in-branch.is, ← c.in_ok-index-in-branch.ensures, ← c.in_ok-index-in-branch-2.ensures, ← c.in_err-index-in-branch-3.ensures) refl

pub returns-in_default : goal.returns-in_default
unfolding line_at operands_at
returns-in_default c = rw (← c.in_ok-operation.ensures, not_word _ _ c.in_default.not-channel, not_word _ _ c.in_default.not-constant, not_word _ _ c.in_default.not-sum, not_word _ _ c.in_default.not-difference, not_word _ _ c.in_default.not-product, not_word _ _ c.in_default.not-quotient, not_word _ _ c.in_default.not-square, not_word _ _ c.in_default.not-magnitude, not_word _ _ c.in_default.not-greater, not_word _ _ c.in_default.not-lesser, not_word _ _ c.in_default.not-branch, fault_is c.of.result _ _ c.of.ensures.word c.of.ensures.problem) refl

pub returns : goal.returns
unfolding line_at operands_at
returns c =
    elim c.match-operation.branch [
      | in-channel+in_ok-index-in-channel w ↦ rw (w.line-is, w.words-is, ← c.in_ok-operation.ensures, w.in-channel.is, ← w.in_ok-index-in-channel.ensures) refl
      | in-constant+in_ok-number-in-constant w ↦ rw (w.line-is, w.words-is, ← c.in_ok-operation.ensures, w.in-constant.is, ← w.in_ok-number-in-constant.ensures, same_number _ _ _ w.in_ok-number-in-constant.ensures) refl
      | in-sum+in_ok-index-in-sum+in_ok-index-in-sum-2 w ↦ rw (w.line-is, w.words-is, ← c.in_ok-operation.ensures, w.in-sum.is, ← w.in_ok-index-in-sum.ensures, ← w.in_ok-index-in-sum-2.ensures) refl
      | in-difference+in_ok-index-in-difference+in_ok-index-in-difference-2 w ↦ rw (w.line-is, w.words-is, ← c.in_ok-operation.ensures, w.in-difference.is, ← w.in_ok-index-in-difference.ensures, ← w.in_ok-index-in-difference-2.ensures) refl
      | in-product+in_ok-index-in-product+in_ok-index-in-product-2 w ↦ rw (w.line-is, w.words-is, ← c.in_ok-operation.ensures, w.in-product.is, ← w.in_ok-index-in-product.ensures, ← w.in_ok-index-in-product-2.ensures) refl
      | in-quotient+in_ok-index-in-quotient+in_ok-index-in-quotient-2 w ↦ rw (w.line-is, w.words-is, ← c.in_ok-operation.ensures, w.in-quotient.is, ← w.in_ok-index-in-quotient.ensures, ← w.in_ok-index-in-quotient-2.ensures) refl
      | in-square+in_ok-index-in-square w ↦ rw (w.line-is, w.words-is, ← c.in_ok-operation.ensures, w.in-square.is, ← w.in_ok-index-in-square.ensures) refl
      | in-magnitude+in_ok-index-in-magnitude w ↦ rw (w.line-is, w.words-is, ← c.in_ok-operation.ensures, w.in-magnitude.is, ← w.in_ok-index-in-magnitude.ensures) refl
      | in-greater+in_ok-index-in-greater+in_ok-index-in-greater-2 w ↦ rw (w.line-is, w.words-is, ← c.in_ok-operation.ensures, w.in-greater.is, ← w.in_ok-index-in-greater.ensures, ← w.in_ok-index-in-greater-2.ensures) refl
      | in-lesser+in_ok-index-in-lesser+in_ok-index-in-lesser-2 w ↦ rw (w.line-is, w.words-is, ← c.in_ok-operation.ensures, w.in-lesser.is, ← w.in_ok-index-in-lesser.ensures, ← w.in_ok-index-in-lesser-2.ensures) refl
      | in-branch+in_ok-index-in-branch+in_ok-index-in-branch-2+in_ok-index-in-branch-3 w ↦ rw (w.line-is, w.words-is, ← c.in_ok-operation.ensures, w.in-branch.is, ← w.in_ok-index-in-branch.ensures, ← w.in_ok-index-in-branch-2.ensures, ← w.in_ok-index-in-branch-3.ensures) refl
    ]
