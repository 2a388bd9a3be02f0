use Rattle.script.proofs.Steps.{word_told}
use Rattle.script.proofs.words.Words.word.Goals as goal

pub returns : goal.returns
returns c = word_told _ c.args.self.now c.next.new.self _ _ c.ok_or.ensures.value c.next.ensures.steps c.missing.ensures.word c.missing.ensures.problem
