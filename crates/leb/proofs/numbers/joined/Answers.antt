use Rattle.std.proofs.Common.{rules, ◌≡◌, reverse, fold, ◌∙◌}
use Rattle.leb.proofs.Joining.{step, folded}
use Rattle.leb.proofs.numbers.joined.Goals as goal

pub returns : goal.returns
returns c few = let e : c.fold.result ≡ fold step 0 (reverse c.args.groups.now) = search rules in e ∙ folded c.args.groups.now few
