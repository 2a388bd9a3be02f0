use Rattle.std.proofs.Common.{length, refl, ap, arith}
use Rattle.std.specs.Str.{IsUtf8}
use Rattle.script.specs.Words.{place}
use Rattle.script.proofs.Splits.{words_of_next, words_of_none}
use Rattle.script.proofs.words.WordsIterator.next.Goals as goal

pub returns-in_err-word-clause-steps : goal.returns-in_err-word-clause-steps
returns-in_err-word-clause-steps c =
    let white = c.in_err-word.ensures.steps in
    rw (c.from_residual.ensures) (words_of_none _ white.1, ap (λ r. place (record { rest = r; last = c.args.self.now.last })) white.0)

-- The invariant of the result's type says that the word is text in UTF-8.
pub returns-clause-steps : goal.returns-clause-steps
returns-clause-steps c =
    let word = c.in_ok-word.ensures.steps in
    let text : IsUtf8 c.in_ok-word.word.now = (rw c.in_ok-word.was at c.next.type_inv).1.1.1.1.0.1 in
    (words_of_next _ word.0 _ _ word.5.0 text word.1 word.2 word.3 word.4 word.5.1, refl)

pub returns-clause-goes : goal.returns-clause-goes
returns-clause-goes c =
    let e = (returns-clause-steps c).0 in
    record { on = λ _. (tt, tt, omega (arith, ap length e)); keeps = tt; rests = λ _. tt }
