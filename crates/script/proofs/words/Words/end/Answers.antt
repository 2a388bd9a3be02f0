use Rattle.script.proofs.Steps.{none_told, surplus_told}
use Rattle.script.proofs.words.Words.end.Goals as goal

pub returns-in-Some : goal.returns-in-Some
returns-in-Some c = surplus_told c.in-Some.word c.args.self.now c.next.new.self c.of.result c.in-Some.ensures.steps c.of.ensures.word c.of.ensures.problem

pub returns-in-None : goal.returns-in-None
returns-in-None c = none_told c.args.self.now c.next.new.self c.in-None.ensures.steps
