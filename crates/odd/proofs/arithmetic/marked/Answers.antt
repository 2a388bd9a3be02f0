use Rattle.std.proofs.Common.{rules}
use Rattle.odd.specs.Grid.{sign_of}
use Rattle.odd.proofs.arithmetic.marked.Goals as goal

pub returns-in-minus1 : goal.returns-in-minus1
unfolding sign_of
returns-in-minus1 c = search rules

pub returns-in-0 : goal.returns-in-0
unfolding sign_of
returns-in-0 c = search rules

pub returns-in-1 : goal.returns-in-1
unfolding sign_of
returns-in-1 c = search rules

pub returns-in_default : goal.returns-in_default
unfolding sign_of
returns-in_default c = search rules
